use Rattle.std.proofs.Common.{◌≡◌, List, ◌++◌, ◌∙◌, suc, ap, sym, map, codes, arith}
use Rattle.std.specs.List.{flat_map}
use Rattle.fb_syntax.specs.declared.expr.Expr.{Expr}
use Rattle.fb_syntax.specs.declared.stmt.Handler.{Handler}
use Rattle.fb_syntax.specs.Views.{view_expr, view_stmt, view_handler, expressions_of, handlers_of}
use Rattle.fb_syntax.specs.declared.levels.Level.TheVariants as level
use Rattle.fb_print.specs.Items.{Line, spelling, items_text}
use Rattle.fb_print.specs.Statements.{repeat_head, for_head, call_items, statement_items, after_items}
use Rattle.fb_print.proofs.Steps.{one_piece, two_pieces, three_pieces, four_pieces}
use Rattle.fb_print.specs.Printed.{expr_text, line_text, block_text, else_text}
use Rattle.fb_print.proofs.StatementTexts.{block_lines, if_text, repeat_text, for_text, call_text, after_none, after_some}
use Rattle.fb_print.proofs.printer.Printer.+stmt.Goals as goal

pub block-returns : goal.block-returns
block-returns t c =
    let inner : c.in-Some.inner ≡ suc c.args.depth = omega (arith, c.in-Some.ensures) in
    let lines = ap (λ stmts. flat_map (line_text c.in-Some.inner) stmts) c.deref.ensures.value ∙ ap (λ depth. flat_map (line_text depth) c.args.block.now.stmts.items) inner in
    four_pieces c.put-2.result c.args.self.now c.put.new.self c.lines.new.self c.line.new.self c.put-2.new.self
    (codes " {") (flat_map (line_text c.in-Some.inner) c.deref.result.now) (spelling (Line c.args.depth)) (codes "}") _
    (ap (λ l. codes " {" ++ (l ++ (spelling (Line c.args.depth) ++ codes "}"))) lines ∙ block_lines c.args.depth c.args.block.now)
    c.in_ok-put.ensures c.in_ok-lines.ensures c.in_ok-line.ensures c.put-2.ensures

pub after-returns : goal.after-returns
after-returns t c = one_piece _ _ _ _ _ (after_some c.args.depth c.args.handlers.now (sym c.is_empty.ensures ∙ c.if-is_empty.false)) c.handlers.ensures

pub after-returns-then-is_empty : goal.after-returns-then-is_empty
after-returns-then-is_empty t c =
    one_piece _ _ _ _ _ (after_none c.args.depth c.args.handlers.now (sym c.is_empty.ensures ∙ c.if-is_empty.true)) c.put.ensures

pub stmt-returns-in_ok-block-in-If : goal.stmt-returns-in_ok-block-in-If
stmt-returns-in_ok-block-in-If t c =
    let text = ap (λ s. items_text (statement_items c.args.depth (view_stmt s))) c.in-If.is ∙ if_text c.args.depth c.in-If.cond c.in-If.yes c.in-If.no in
    three_pieces c.otherwise.result c.args.self.now c.headed.new.self c.block.new.self c.otherwise.new.self
    (codes "if " ++ expr_text level.Expr c.in-If.cond) (block_text c.args.depth c.in-If.yes) (else_text c.args.depth c.in-If.no) _
    (sym text) c.in_ok-headed-in-If.ensures c.in_ok-block-in-If.ensures c.otherwise.ensures

pub stmt-returns-in_ok-repeat_head-in-Repeat : goal.stmt-returns-in_ok-repeat_head-in-Repeat
stmt-returns-in_ok-repeat_head-in-Repeat t c =
    let text = ap (λ s. items_text (statement_items c.args.depth (view_stmt s))) c.in-Repeat.is ∙ repeat_text c.args.depth c.in-Repeat.times c.in-Repeat.body in
    two_pieces c.block-in-Repeat.result c.args.self.now c.repeat_head.new.self c.block-in-Repeat.new.self
    (items_text (repeat_head c.in-Repeat.times)) (block_text c.args.depth c.in-Repeat.body) _
    (sym text) c.in_ok-repeat_head-in-Repeat.ensures c.block-in-Repeat.ensures

pub stmt-returns-in_ok-for_head-in-For : goal.stmt-returns-in_ok-for_head-in-For
stmt-returns-in_ok-for_head-in-For t c =
    let text = ap (λ s. items_text (statement_items c.args.depth (view_stmt s))) c.in-For.is ∙ for_text c.args.depth c.in-For.name c.in-For.over c.in-For.body in
    two_pieces c.block-in-For.result c.args.self.now c.for_head.new.self c.block-in-For.new.self
    (items_text (for_head c.in-For.name (view_expr c.in-For.over))) (block_text c.args.depth c.in-For.body) _
    (sym text) c.in_ok-for_head-in-For.ensures c.block-in-For.ensures

pub stmt-returns-in_ok-call-in-Call : goal.stmt-returns-in_ok-call-in-Call
stmt-returns-in_ok-call-in-Call t c =
    let text = ap (λ s. items_text (statement_items c.args.depth (view_stmt s))) c.in-Call.is ∙ call_text c.args.depth c.in-Call.name c.in-Call.service c.in-Call.method c.in-Call.args c.in-Call.handlers in
    let call = λ (args : List Expr). items_text (call_items c.in-Call.name c.in-Call.service c.in-Call.method (expressions_of (map view_expr args))) in
    let after = λ (handlers : List Handler). items_text (after_items c.args.depth (handlers_of (map view_handler handlers))) in
    let written = ap (λ args. call args ++ after c.deref-in-Call.result.now) c.deref.ensures.value ∙ ap (λ handlers. call c.in-Call.args.items ++ after handlers) c.deref-in-Call.ensures.value in
    two_pieces c.after.result c.args.self.now c.call.new.self c.after.new.self
    (call c.deref.result.now) (after c.deref-in-Call.result.now) _ (written ∙ sym text) c.in_ok-call-in-Call.ensures c.after.ensures
