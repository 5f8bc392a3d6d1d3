use Rattle.std.proofs.Common.{◌≡◌, suc, ◌-◌, [], map, sym, ap, ◌∙◌, arith}
use Rattle.std.proofs.lemmas.Result.{err_from_is_err_and}
use Rattle.fb_syntax.specs.declared.reserved.Reserved.TheVariants as word
use Rattle.fb_syntax.specs.TokenKinds.{is_word}
use Rattle.fb_syntax.specs.Reading.{give, too_many, repeated, with_front}
use Rattle.fb_syntax.specs.Views.{view_stmt, view_handler, view_stmt_list}
use Rattle.fb_syntax.specs.StatementReading.{begins_statement, statement, handler, handlers_from, deeper_blocks}
use Rattle.fb_syntax.proofs.Turns.{comes_more, map_push, passed}
use Rattle.fb_syntax.proofs.Turns.{repeated_turn, repeated_refused, repeated_end}
use Rattle.fb_syntax.proofs.StatementTurns.{statements_begin}
use Rattle.fb_syntax.proofs.StatementSound.{statement_shorter}
use Rattle.fb_syntax.proofs.parser.Parser.+stmt.Goals as goal

pub handlers_from-handlers-preserved : goal.handlers_from-handlers-preserved
handlers_from-handlers-preserved t c =
    let one = handler (deeper_blocks c.args.depth) in
    let pushed = map_push view_handler c.handlers.handlers.items c.push.new.self.items c.in_ok-handler.handler c.in_ok-push.ensures.items in
    let more : c.handlers.room ≡ suc (c.handlers.room - 1) = omega arith in
    ap (λ front. with_front front (handlers_from (deeper_blocks c.args.depth) (c.handlers.room - 1)) c.handler.new.self) pushed
    ∙ repeated_turn (map view_handler c.handlers.handlers.items) too_many c.handlers.room (c.handlers.room - 1) (is_word word.On) one (view_handler c.in_ok-handler.handler) c.handlers.self c.handler.new.self
    more (sym c.comes_word.ensures ∙ c.handlers-test.true) c.in_ok-handler.ensures
    ∙ c.handlers.invariant

pub stmts-statements-init : goal.stmts-statements-init
stmts-statements-init t c = statements_begin (deeper_blocks c.args.depth) c.new-stmts.result.items c.args.self.now c.new-stmts.ensures.items

pub stmts-returns-in_err-stmt : goal.stmts-returns-in_err-stmt
stmts-returns-in_err-stmt t c =
    let one = statement (deeper_blocks c.args.depth) in
    let came = sym c.comes_stmt.ensures ∙ c.statements-test.true in
    let less = comes_more begins_statement c.statements.self c.statements.invariant.0 came c.statements.invariant.1 in
    let p = err_from_is_err_and c.from_residual.result c.from_residual.ensures.1 in
    rw (p.1, p.2) (passed view_stmt view_stmt_list c.stmt.new.self c.stmt.new.self c.in_err-stmt.field-0.0 (one c.statements.self) _ c.in_err-stmt.ensures
    (λ why refused. sym c.statements.invariant.2 ∙ repeated_refused (map view_stmt c.statements.stmts.items) (give []) c.statements.invariant.0 less.0 begins_statement one why c.statements.self less.1 came refused))

pub stmts-statements-smaller : goal.stmts-statements-smaller
stmts-statements-smaller t c = statement_shorter c.args.depth c.statements.self (view_stmt c.in_ok-stmt.stmt) c.stmt.new.self c.in_ok-stmt.ensures

pub stmts-statements-preserved : goal.stmts-statements-preserved
stmts-statements-preserved t c =
    let one = statement (deeper_blocks c.args.depth) in
    let came = sym c.comes_stmt.ensures ∙ c.statements-test.true in
    let less = comes_more begins_statement c.statements.self c.statements.invariant.0 came c.statements.invariant.1 in
    let fewer = statement_shorter c.args.depth c.statements.self (view_stmt c.in_ok-stmt.stmt) c.stmt.new.self c.in_ok-stmt.ensures in
    let pushed = map_push view_stmt c.statements.stmts.items c.push.new.self.items c.in_ok-stmt.stmt c.in_ok-push.ensures.items in (
      less.0,
      omega (arith, fewer, less.1, c.statements.invariant.1),
      ap (λ front. with_front front (repeated (give []) less.0 begins_statement one) c.stmt.new.self) pushed
          ∙ repeated_turn (map view_stmt c.statements.stmts.items) (give []) c.statements.invariant.0 less.0 begins_statement one (view_stmt c.in_ok-stmt.stmt) c.statements.self c.stmt.new.self
          less.1 came c.in_ok-stmt.ensures
          ∙ c.statements.invariant.2,
    )

pub stmts-returns : goal.stmts-returns
stmts-returns t c =
    sym c.statements.invariant.2
    ∙ repeated_end (map view_stmt c.statements.stmts.items) (give []) c.statements.invariant.0 begins_statement (statement (deeper_blocks c.args.depth)) c.statements.self (sym c.comes_stmt.ensures ∙ c.statements-test.false)
