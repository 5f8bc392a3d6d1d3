use Rattle.std.proofs.Common.{rules, ◌≡◌, ◌+◌, Bool, true, Option, Some, None, Result, Ok, Err, ◌∷◌, drop, map, refl, sym, ap, ◌∙◌, arith}
use Rattle.std.proofs.lemmas.List.{drop_more}
use Rattle.fb_base.specs.declared.kind.Kind.TheVariants.{Bool as Boolean}
use Rattle.fb_syntax.specs.declared.expr.Expr.{Expr}
use Rattle.fb_syntax.specs.declared.stmt.Stmt as stmt
use Rattle.fb_syntax.specs.declared.stmt.Stmt.{the_lemmas}
use Rattle.fb_syntax.specs.declared.stmt.Block.{Block}
use Rattle.fb_syntax.specs.Views.{view_expr, view_block, view_stmt, view_handler, statements_of, handlers_of}
use Rattle.fb_syntax.specs.ViewEquations.{view_if_alone, view_if_else, view_repeat, view_for, view_call}
use Rattle.fb_syntax.specs.Counts.{statements_count}
use Rattle.fb_check.specs.declared.walk.Walk.{Walk}
use Rattle.fb_check.specs.ExpressionKinds.{Context}
use Rattle.fb_check.specs.Walking.{Walking, Refusal, ◌>>=◌, then_at, give, begin, want_kind, within}
use Rattle.fb_check.specs.StatementChecks.{statement_check, statements_check, handlers_check, for_block_check}
use Rattle.fb_check.proofs.Walks.{goes_within, goes_statement, goes_statements, goes_declare, goes_for_block, within_is}
use Rattle.fb_check.proofs.Rooms.{count_if, count_if_else, count_repeat, count_for, count_call}
use Rattle.fb_check.proofs.context.Context.+statements.Goals as goal

-- ---- an `if`, whether it has an `else` or not

abbrev other_check : Context → Bool → Option Block → Walking (Unit {0})
other_check about looping None = give tt
other_check about looping (Some block) = within (statements_check about looping (view_block block))

abbrev if_check : Context → Bool → Expr → Block → Option Block → Walking (Unit {0})
if_check about looping cond yes_block no_block = do
  _ ← begin
  _ ← want_kind about (view_expr cond) Boolean
  _ ← within (statements_check about looping (view_block yes_block))
  other_check about looping no_block

then_give : (found : Result (Unit {0} × Walk) Refusal) → found ≡ then_at found (λ _. give tt)
then_give (Ok found) = refl
then_give (Err refusal) = refl

then_same : (first : Result (Unit {0} × Walk) Refusal) (one other : Walking (Unit {0})) → ((walk : Walk) → one walk ≡ other walk) → then_at first (λ _. one) ≡ then_at first (λ _. other)
then_same (Ok found) one other same = same found.1
then_same (Err refusal) one other same = refl

if_is : (about : Context) (looping : Bool) (cond : Expr) (yes_block : Block) (no_block : Option Block) (walk : Walk)
    → statement_check about looping (view_stmt (stmt.If cond yes_block no_block)) walk ≡ if_check about looping cond yes_block no_block walk
unfolding statement_check
if_is about looping cond yes_block None walk =
    let inside = within (statements_check about looping (view_block yes_block)) in
    ap (λ s. statement_check about looping s walk) (view_if_alone cond yes_block)
    ∙ then_same (want_kind about (view_expr cond) Boolean (record walk { number = walk.number + 1 })) inside (inside >>= λ _. give tt) (λ w. then_give (inside w))
if_is about looping cond yes_block (Some no_block) walk = ap (λ s. statement_check about looping s walk) (view_if_else cond yes_block no_block)

-- ---- a statement

pub statement-block-requires : goal.statement-block-requires
statement-block-requires t c =
    let room = rw c.in-If.is at c.requires.room in
    let enough = count_if c.in-If.cond c.in-If.yes c.in-If.no in
    (search (rules, the_lemmas), omega arith)

pub statement-returns-in_err-block-in-If : goal.statement-returns-in_err-block-in-If
statement-returns-in_err-block-in-If t c =
    rw (c.in-If.is, if_is c.args.self.now c.args.looping c.in-If.cond c.in-If.yes c.in-If.no c.args.walk.now) (search rules)

pub statement-block-requires-in-Some : goal.statement-block-requires-in-Some
statement-block-requires-in-Some t c =
    let room = rw (c.in-If.is, c.in-Some.is, count_if_else c.in-If.cond c.in-If.yes c.in-Some.no) at c.requires.room in
    let body = view_block c.in-If.yes in
    let went = (goes_within (statements_count body) (statements_check c.args.self.now c.args.looping body) (goes_statements c.args.self.now c.args.looping body)).went (record c.args.walk.now { number = c.args.walk.now.number + 1 }) c.block.new.walk tt c.in_ok-block-in-If.ensures in
    (search (rules, the_lemmas), omega (arith, went.counted))

pub statement-block-requires-in-Repeat : goal.statement-block-requires-in-Repeat
statement-block-requires-in-Repeat t c =
    let room = rw (c.in-Repeat.is, count_repeat c.in-Repeat.times c.in-Repeat.body) at c.requires.room in
    (search (rules, the_lemmas), omega arith)

pub statement-for_block-requires : goal.statement-for_block-requires
statement-for_block-requires t c =
    let room = rw (c.in-For.is, count_for c.in-For.name c.in-For.over c.in-For.body) at c.requires.room in
    (search (rules, the_lemmas), omega arith)

pub statement-handlers-requires : goal.statement-handlers-requires
statement-handlers-requires t c =
    let room = rw (c.in-Call.is, count_call c.in-Call.name c.in-Call.service c.in-Call.method c.in-Call.args c.in-Call.handlers) at c.requires.room in
    (search (rules, the_lemmas), rw c.as_slice-in-Call.ensures.value (omega arith))

pub statement-returns-in-Some : goal.statement-returns-in-Some
statement-returns-in-Some t c =
    rw (c.in-If.is, if_is c.args.self.now c.args.looping c.in-If.cond c.in-If.yes c.in-If.no c.args.walk.now, c.in-Some.is) (search rules)

pub statement-returns-in-None : goal.statement-returns-in-None
statement-returns-in-None t c =
    rw (c.in-If.is, if_is c.args.self.now c.args.looping c.in-If.cond c.in-If.yes c.in-If.no c.args.walk.now, c.in-None.is) (search rules)

pub statement-returns-in-Repeat : goal.statement-returns-in-Repeat
unfolding statement_check
statement-returns-in-Repeat t c = rw (c.in-Repeat.is, view_repeat c.in-Repeat.times c.in-Repeat.body) (search rules)

pub statement-returns-in-Some-item : goal.statement-returns-in-Some-item
unfolding statement_check
statement-returns-in-Some-item t c = rw (c.in-For.is, view_for c.in-For.name c.in-For.over c.in-For.body) (search rules)

pub statement-returns-in_ok-call-in-Call : goal.statement-returns-in_ok-call-in-Call
unfolding statement_check
statement-returns-in_ok-call-in-Call t c =
    rw (c.in-Call.is, view_call c.in-Call.name c.in-Call.service c.in-Call.method c.in-Call.args c.in-Call.handlers) (search rules)

-- ---- the parts that have statements

pub block-returns : goal.block-returns
block-returns t c =
    let body = view_block c.args.block.now in
    let ran = rw c.as_slice.ensures.value at c.in_ok-statements.ensures in
    within_is (statements_count body) (statements_check c.args.self.now c.args.looping body) c.args.walk.now c.statements.new.walk c.leave.new.self c.len-before.result
    (goes_statements c.args.self.now c.args.looping body) ran c.len-before.ensures c.leave.ensures

pub for_block-statements-requires : goal.for_block-statements-requires
for_block-statements-requires t c =
    let went = (goes_declare c.args.self.now c.args.name c.args.item).went c.args.walk.now c.declare.new.walk tt c.in_ok-declare.ensures in
    (search (rules, the_lemmas), rw c.as_slice.ensures.value (omega (arith, went.counted)))

pub for_block-returns : goal.for_block-returns
for_block-returns t c =
    let body = view_block c.args.block.now in
    let about = c.args.self.now in
    let ran = rw c.as_slice.ensures.value at c.in_ok-statements.ensures in
    let both = ap (λ found. then_at found (λ _. statements_check about true body)) c.in_ok-declare.ensures ∙ ran in
    within_is (statements_count body) (for_block_check about c.args.name c.args.item (statements_check about true body)) c.args.walk.now c.statements.new.walk c.leave.new.self c.len-before.result
    (goes_for_block about c.args.name c.args.item body) both c.len-before.ensures c.leave.ensures

pub statements-loop-stmt-preserved : goal.statements-loop-stmt-preserved
unfolding statement_check
statements-loop-stmt-preserved t c =
    let about = c.args.self.now in
    let left = drop (c.loop-stmt.stmt-index + 1) c.args.stmts.now in
    let item = c.stmt-item.result in
    let front : drop c.loop-stmt.stmt-index c.args.stmts.now ≡ item ∷ left =
    drop_more c.args.stmts.now c.loop-stmt.stmt-index item c.loop-stmt-test.true ∙ ap (λ x. x ∷ left) (sym c.stmt-item.is) in
    let before = rw front at c.loop-stmt.invariant in
    let went = (goes_statement about c.args.looping (view_stmt item)).went c.loop-stmt.walk c.statement.new.walk tt c.in_ok-statement.ensures in (
      omega (arith, before.0, went.counted),
      sym (ap (λ found. then_at found (λ _. statements_check about c.args.looping (statements_of (map view_stmt left)))) c.in_ok-statement.ensures) ∙ before.1,
    )

pub handlers-loop-handler-preserved : goal.handlers-loop-handler-preserved
unfolding statement_check
handlers-loop-handler-preserved t c =
    let about = c.args.self.now in
    let left = drop (c.loop-handler.handler-index + 1) c.args.handlers.now in
    let item = c.handler-item.result in
    let body = view_block item.body in
    let front : drop c.loop-handler.handler-index c.args.handlers.now ≡ item ∷ left =
    drop_more c.args.handlers.now c.loop-handler.handler-index item c.loop-handler-test.true ∙ ap (λ x. x ∷ left) (sym c.handler-item.is) in
    let before = rw front at c.loop-handler.invariant in
    let went = (goes_within (statements_count body) (statements_check about c.args.looping body) (goes_statements about c.args.looping body)).went c.loop-handler.walk c.block.new.walk tt c.in_ok-block.ensures in (
      omega (arith, before.0, went.counted),
      sym (ap (λ found. then_at found (λ _. handlers_check about c.args.looping (handlers_of (map view_handler left)))) c.in_ok-block.ensures) ∙ before.1,
    )
