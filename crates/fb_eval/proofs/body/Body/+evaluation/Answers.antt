use Rattle.std.proofs.Common.{◌≡◌, ◌∙◌, ◌+◌, ◌-◌, ◌<◌, false, length, drop, map, Some, IfSome, refl, sym, ap, subst, arith}
use Rattle.std.specs.Option.{option_map}
use Rattle.fb_syntax.specs.Views.{view_expr, view_stmt, view_block, view_handler, statements_of, handlers_of, expressions_of}
use Rattle.fb_check.specs.Programs.{methods_of}
use Rattle.fb_tree.specs.Calls.{calls_at}
use Rattle.fb_tree.specs.Runs.{Ran}
use Rattle.fb_tree.specs.ViewEquations.{view_ran}
use Rattle.fb_tree.specs.Views.{view_node}
use Rattle.fb_meaning.specs.Evaluations.{Done}
use Rattle.fb_meaning.specs.Bodies.{values_in}
use Rattle.fb_eval.specs.Places.{BlockStands, HandlersStand, OtherStands}
use Rattle.fb_eval.specs.Calling.{prepared_of}
use Rattle.fb_eval.specs.Means.{act_means, call_means}
use Rattle.fb_eval.specs.States.{calls_of, here_of, state_of}
use Rattle.fb_eval.proofs.Passing.{calls_again, passes_asked, passes_at, passes_forward, passes_known, passes_spending, comes_alone, comes_changed, comes_first, comes_then, goes_begun, goes_by, goes_done, goes_refused, goes_stopped, goes_unfed, invokes_done, invokes_refused, invokes_stopped}
use Rattle.fb_eval.proofs.Ends.{unit_taken}
use Rattle.fb_eval.proofs.Places.{inside_small, body_small, inner_stand}
use Rattle.fb_eval.proofs.Rules.{statement_unit, decided_missing}
use Rattle.fb_eval.proofs.Sequences.{all_left, next_done, next_ended, next_stands, next_stopped, none_left}
use Rattle.fb_eval.proofs.Repeats.{all_items_left, all_turns_left, item_broke, item_done, item_ended, item_refused, item_stopped, item_unfed, items_over, turn_broke, turn_done, turn_ended, turn_stopped, turn_unfed, turns_over}
use Rattle.fb_eval.proofs.Handling.{all_handlers_left, handled_goes, handler_passed, next_block_stands, unhandled_goes}
use Rattle.fb_eval.proofs.Branches.{branch_faults, branch_first, branch_none, branch_other, call_faults, call_stopped, call_taken, list_faults, list_goes}
use Rattle.fb_eval.proofs.Callees.{IsAsked, callee_returns, callee_stopped, fault_returns, known_returns, known_unfed, refused_behind}
use Rattle.fb_eval.proofs.Loops.{block_left, block_stops, turn_left, turn_stops}
use Rattle.fb_eval.proofs.Called.{body_invoked, invoked, invoked_stops, none_invoked, one_more, ready_invoked}
use Rattle.fb_eval.proofs.Decisions.{decision_stops, given_by, given_none, may_forward}
use Rattle.fb_eval.proofs.Turns.{drop_at, drop_past, none_past}
use Rattle.fb_eval.proofs.Taking.{taken_put, taken_nowhere, taken_error, turn_missed}
use Rattle.fb_eval.proofs.Acts.{statement_spent, by_let, by_assign, by_break, by_return, by_fail, by_assert, by_if, by_repeat, by_for, by_call, first_block, other_block, repeated_block, for_block, handler_blocks, statement_number, call_number, assert_number}
use Rattle.fb_eval.proofs.body.Body.+evaluation.Goals as goal

pub statement-returns-in_err-begin : goal.statement-returns-in_err-begin
statement-returns-in_err-begin g t c =
    goes_unfed _ 0 c.from_residual.result c.from_residual.ensures.1 (passes_spending _ _ _ _ _ c.begin.ensures.fuel)
    (statement_spent _ c.args.at (c.statements_follow_rules.ensures _ _ _ c.args.at) (view_stmt c.args.stmt.now) _ c.in_err-begin.ensures.spent)

pub statement-act-requires : goal.statement-act-requires
statement-act-requires g t c = λ κs lifetimes. calls_again (omega (arith, c.in_ok-begin.ensures.unit)) lifetimes (c.in_ok-begin.ensures.ready, c.requires.stands)

pub statement-returns : goal.statement-returns
statement-returns g t c =
    goes_begun _ _ _ _ c.begin.new.fuel _ c.in_ok-begin.ensures.unit c.in_ok-begin.ensures.ticks c.act.ensures
    (statement_unit _ c.args.at (c.statements_follow_rules.ensures _ _ _ c.args.at) (view_stmt c.args.stmt.now) _ ∙ unit_taken (act_means _ c.args.at (view_stmt c.args.stmt.now)) _ (state_of c.begin.new.progress c.begin.new.fuel)
    c.begin.new.fuel c.in_ok-begin.ensures.unit c.in_ok-begin.ensures.begun)

pub act-inside-inside-requires : goal.act-inside-inside-requires
act-inside-inside-requires g t c = inside_small _ _ _ c.requires.stands

pub act-declare-requires : goal.act-declare-requires
act-declare-requires g t c = record { told = c.requires.ready.0.told; small = statement_number _ _ _ c.requires.stands _ c.inside-inside.ensures }

pub act-assign-requires : goal.act-assign-requires
act-assign-requires g t c = record { told = c.requires.ready.0.told; small = statement_number _ _ _ c.requires.stands _ c.inside-inside.ensures }

pub act-answer-requires : goal.act-answer-requires
act-answer-requires g t c = record { told = c.requires.ready.0.told; small = statement_number _ _ _ c.requires.stands _ c.inside-inside.ensures }

pub act-fail-requires : goal.act-fail-requires
act-fail-requires g t c = statement_number _ _ _ c.requires.stands _ c.inside-inside.ensures

pub act-assert-requires : goal.act-assert-requires
act-assert-requires g t c = record { told = c.requires.ready.0.told; small = statement_number _ _ _ c.requires.stands _ c.inside-inside.ensures; asserts = assert_number _ _ _ c.requires.stands _ c.inside-inside.ensures _ c.in-Assert.is }

pub act-returns-in_err-flow-in-Let : goal.act-returns-in_err-flow-in-Let
act-returns-in_err-flow-in-Let g t c = goes_refused _ 1 c.from_residual.result c.from_residual.ensures.1 (passes_at 1 _)

pub act-returns-in_err-flow-in-Assign : goal.act-returns-in_err-flow-in-Assign
act-returns-in_err-flow-in-Assign g t c = goes_refused _ 1 c.from_residual-in_err-flow-in-Assign.result c.from_residual-in_err-flow-in-Assign.ensures.1 (passes_at 1 _)

pub act-returns-in_err-flow-in-Return : goal.act-returns-in_err-flow-in-Return
act-returns-in_err-flow-in-Return g t c = goes_refused _ 1 c.from_residual-in_err-flow-in-Return.result c.from_residual-in_err-flow-in-Return.ensures.1 (passes_at 1 _)

pub act-returns-in_err-flow-in-Assert : goal.act-returns-in_err-flow-in-Assert
act-returns-in_err-flow-in-Assert g t c = goes_refused _ 1 c.from_residual-in_err-flow-in-Assert.result c.from_residual-in_err-flow-in-Assert.ensures.1 (passes_at 1 _)

pub act-returns-in_ok-flow-in-Let : goal.act-returns-in_ok-flow-in-Let
act-returns-in_ok-flow-in-Let g t c =
    goes_done _ 0 1 (omega arith) (comes_alone _ _ _ _ (c.in_ok-flow-in-Let.ensures.ready c.args.fuel.now c.requires.ready.0) c.in_ok-flow-in-Let.ensures.ticks)
    (by_let _ _ _ _ _ _ c.in-Let.is ∙ c.in_ok-flow-in-Let.ensures.means (g.D.Decides.ways c.args.decider.now).gives c.args.fuel.now)

pub act-returns-in_ok-flow-in-Assign : goal.act-returns-in_ok-flow-in-Assign
act-returns-in_ok-flow-in-Assign g t c =
    goes_done _ 0 1 (omega arith) (comes_alone _ _ _ _ (c.in_ok-flow-in-Assign.ensures.ready c.args.fuel.now c.requires.ready.0) c.in_ok-flow-in-Assign.ensures.ticks)
    (by_assign _ _ _ _ _ _ c.in-Assign.is ∙ c.in_ok-flow-in-Assign.ensures.means (g.D.Decides.ways c.args.decider.now).gives c.args.fuel.now)

pub act-returns-in_ok-flow-in-Return : goal.act-returns-in_ok-flow-in-Return
act-returns-in_ok-flow-in-Return g t c =
    goes_done _ 0 1 (omega arith) (comes_alone _ _ _ _ c.requires.ready.0 refl) (by_return _ _ _ _ _ c.in-Return.is ∙ c.in_ok-flow-in-Return.ensures (g.D.Decides.ways c.args.decider.now).gives c.args.fuel.now)

pub act-returns-in_ok-flow-in-Assert : goal.act-returns-in_ok-flow-in-Assert
act-returns-in_ok-flow-in-Assert g t c =
    goes_done _ 0 1 (omega arith) (comes_alone _ _ _ _ c.requires.ready.0 refl) (by_assert _ _ _ _ _ c.in-Assert.is ∙ c.in_ok-flow-in-Assert.ensures (g.D.Decides.ways c.args.decider.now).gives c.args.fuel.now)

pub act-returns-in-Break : goal.act-returns-in-Break
act-returns-in-Break g t c = goes_done _ 0 1 (omega arith) (comes_alone _ _ _ _ c.requires.ready.0 refl) (by_break _ _ _ _ c.in-Break.is)

pub act-returns-in-Fail : goal.act-returns-in-Fail
act-returns-in-Fail g t c = goes_done _ 0 1 (omega arith) (comes_alone _ _ _ _ c.requires.ready.0 refl) (by_fail _ _ _ _ _ c.in-Fail.is ∙ c.fail.ensures (g.D.Decides.ways c.args.decider.now).gives c.args.progress.now c.args.fuel.now)

pub act-returns-in-If : goal.act-returns-in-If
act-returns-in-If g t c = goes_by _ 0 1 (omega arith) (by_if _ _ _ _ _ c.inside-inside.ensures _ _ _ c.in-If.is) c.branch-self.ensures

pub act-returns-in-Repeat : goal.act-returns-in-Repeat
act-returns-in-Repeat g t c = goes_by _ 0 1 (omega arith) (by_repeat _ _ _ _ _ c.inside-inside.ensures _ _ c.in-Repeat.is) c.repeat.ensures

pub act-returns-in-For : goal.act-returns-in-For
act-returns-in-For g t c = goes_by _ 0 1 (omega arith) (by_for _ _ _ _ _ c.inside-inside.ensures _ _ _ c.in-For.is) c.for_each.ensures

pub act-returns-in-Call : goal.act-returns-in-Call
act-returns-in-Call g t c =
    goes_by _ 1 1 (omega arith) ((by_call _ _ _ _ _ c.inside-inside.ensures _ _ _ _ _ c.in-Call.is) ∙
    (λ i. call_means (here_of c.args.self.now (g.D.Decides.ways c.args.decider.now).gives) c.args.at c.inside-inside.result c.in-Call.name c.in-Call.service c.in-Call.method (expressions_of (map view_expr (sym c.as_slice.ensures.value i)))
    (handlers_of (map view_handler (sym c.as_slice-in-Call.ensures.value i))) (state_of c.args.progress.now c.args.fuel.now))) c.call.ensures

pub act-branch-self-requires : goal.act-branch-self-requires
act-branch-self-requires g t c =
    λ κs lifetimes. calls_again (omega arith) lifetimes (
      c.requires.ready.0,
      (
        statement_number _ _ _ c.requires.stands _ c.inside-inside.ensures,
        (first_block _ _ _ c.requires.stands _ c.inside-inside.ensures _ _ _ c.in-If.is, other_block _ _ _ c.requires.stands _ c.inside-inside.ensures _ _ _ c.in-If.is),
      ),
    )

pub act-repeat-requires : goal.act-repeat-requires
act-repeat-requires g t c = λ κs lifetimes. calls_again (omega arith) lifetimes (c.requires.ready.0, repeated_block _ _ _ c.requires.stands _ c.inside-inside.ensures _ _ c.in-Repeat.is)

pub act-for_each-requires : goal.act-for_each-requires
act-for_each-requires g t c =
    λ κs lifetimes. calls_again (omega arith) lifetimes (c.requires.ready.0, (statement_number _ _ _ c.requires.stands _ c.inside-inside.ensures, for_block _ _ _ c.requires.stands _ c.inside-inside.ensures _ _ _ c.in-For.is))

pub act-call-requires : goal.act-call-requires
act-call-requires g t c =
    λ κs lifetimes. calls_again (omega arith) lifetimes (
      c.requires.ready,
      (
        call_number _ _ _ c.requires.stands _ c.inside-inside.ensures _ _ _ _ _ c.in-Call.is,
        (
          statement_number _ _ _ c.requires.stands _ c.inside-inside.ensures,
          subst (λ hs. HandlersStand c.args.self.now.counts.now c.inside-inside.result (handlers_of (map view_handler hs))) (sym c.as_slice-in-Call.ensures.value)
              (handler_blocks _ _ _ c.requires.stands _ c.inside-inside.ensures _ _ _ _ _ c.in-Call.is),
        ),
      ),
    )

pub block-in_block-requires : goal.block-in_block-requires
block-in_block-requires g t c = body_small _ _ _ c.requires.stands

pub block-statements-requires : goal.block-statements-requires
block-statements-requires g t c = λ κs lifetimes. calls_again (omega arith) lifetimes (c.requires.ready, inner_stand _ _ _ _ _ c.requires.stands c.in_block.ensures (ap (λ xs. statements_of (map view_stmt xs)) c.as_slice.ensures.value))

pub block-returns-in_err-flow : goal.block-returns-in_err-flow
block-returns-in_err-flow g t c =
    goes_stopped _ 0 0 0 c.from_residual.result c.from_residual.ensures.1 (omega arith) (comes_first _ _ _ c.requires.ready) c.in_err-flow.ensures
    (block_stops _ _ _ _ _ _ _ c.in_block.ensures (ap (λ xs. statements_of (map view_stmt xs)) c.as_slice.ensures.value))

pub block-returns : goal.block-returns
block-returns g t c =
    goes_done _ 0 0 (omega arith) (comes_changed _ 0 (comes_then _ 0 0 0 (omega arith) (comes_first _ _ _ c.requires.ready) c.in_ok-flow.ensures) c.in_ok-flow.ensures.ready refl)
    (block_left _ _ _ _ _ _ _ _ _ _ c.in_block.ensures (ap (λ xs. statements_of (map view_stmt xs)) c.as_slice.ensures.value) c.len-before.ensures c.leave.ensures c.in_ok-flow.ensures.ends)

pub branch-returns-in_err-holds : goal.branch-returns-in_err-holds
branch-returns-in_err-holds g t c = goes_refused _ 0 c.from_residual.result c.from_residual.ensures.1 (passes_at 0 _)

pub branch-returns-in-None : goal.branch-returns-in-None
branch-returns-in-None g t c = branch_faults _ _ _ _ _ _ c.in_ok-holds.ensures c.requires.ready c.in-None.is c.fault.ensures

pub branch-block-requires : goal.branch-block-requires
branch-block-requires g t c = λ κs lifetimes. calls_again (omega arith) lifetimes (c.requires.ready, c.requires.stands)

pub branch-returns-in-Some-true : goal.branch-returns-in-Some-true
branch-returns-in-Some-true g t c = branch_first _ _ _ _ _ _ c.in_ok-holds.ensures (c.in-Some-true.is ∙ ap Some c.in-Some-true.field-0-test) c.block.ensures

pub branch-returns-in-None-no : goal.branch-returns-in-None-no
branch-returns-in-None-no g t c = branch_none _ _ _ _ _ _ c.in_ok-holds.ensures c.requires.ready (c.in-Some-false.is ∙ ap Some c.in-Some-false.field-0-test) (ap (option_map view_block) c.in-None-no.is)

pub branch-block-requires-in-Some : goal.branch-block-requires-in-Some
branch-block-requires-in-Some g t c =
    λ κs lifetimes. calls_again (omega arith) lifetimes (
      c.requires.ready,
      subst (λ p. BlockStands c.args.self.now.counts.now p (view_block c.in-Some.no)) (sym c.behind_block-other.ensures)
          (subst (λ o. OtherStands c.args.self.now.counts.now c.args.inside (view_block c.args.yes.now) (option_map view_block o)) c.in-Some.is c.requires.other),
    )

pub branch-returns-in-Some : goal.branch-returns-in-Some
branch-returns-in-Some g t c = branch_other _ _ _ _ _ _ c.in_ok-holds.ensures (c.in-Some-false.is ∙ ap Some c.in-Some-false.field-0-test) (ap (option_map view_block) c.in-Some.is) c.behind_block-other.ensures c.block-in-Some.ensures

pub for_each-returns-in_err-list : goal.for_each-returns-in_err-list
for_each-returns-in_err-list g t c = goes_refused _ 0 c.from_residual.result c.from_residual.ensures.1 (passes_at 0 _)

pub for_each-turns-requires : goal.for_each-turns-requires
for_each-turns-requires g t c = λ κs lifetimes. calls_again (omega arith) lifetimes (c.requires.ready, (c.requires.small, c.requires.stands))

pub for_each-returns-in-None : goal.for_each-returns-in-None
for_each-returns-in-None g t c = list_faults _ _ _ _ _ _ c.in_ok-list.ensures c.requires.ready c.in-None.is c.fault.ensures

pub for_each-returns-in-Some : goal.for_each-returns-in-Some
for_each-returns-in-Some g t c = list_goes _ _ _ _ _ _ c.in_ok-list.ensures c.in-Some.is c.turns.ensures

pub turn-returns-in_err-declare : goal.turn-returns-in_err-declare
turn-returns-in_err-declare g t c = goes_refused _ 0 c.from_residual.result c.from_residual.ensures.1 (passes_at 0 _)

pub turn-in_block-requires : goal.turn-in_block-requires
turn-in_block-requires g t c = body_small _ _ _ c.requires.stands

pub turn-statements-requires : goal.turn-statements-requires
turn-statements-requires g t c = λ κs lifetimes. calls_again (omega arith) lifetimes (c.requires.ready, inner_stand _ _ _ _ _ c.requires.stands c.in_block.ensures (ap (λ xs. statements_of (map view_stmt xs)) c.as_slice.ensures.value))

pub turn-returns-then-not-branch : goal.turn-returns-then-not-branch
turn-returns-then-not-branch g t c =
    let missed = (rw c.if-not-branch.true at c.in_ok-declare.ensures) in goes_done c.args.self.now 0 0 (omega arith) (comes_alone _ _ _ _ c.requires.ready refl) (turn_missed _ _ _ _ _ _ _ _ _ missed.0 missed.1 c.fault.ensures)

pub turn-returns-in_err-flow : goal.turn-returns-in_err-flow
turn-returns-in_err-flow g t c =
    let declared = (rw c.if-not-branch.false at c.in_ok-declare.ensures) in goes_stopped _ 0 0 0 c.from_residual-in_err-flow.result c.from_residual-in_err-flow.ensures.1 (omega arith) (comes_alone _ _ _ _ c.requires.ready refl)
    c.in_err-flow.ensures (turn_stops _ _ _ _ _ _ _ _ _ _ _ declared c.in_block.ensures (ap (λ xs. statements_of (map view_stmt xs)) c.as_slice.ensures.value))

pub turn-returns : goal.turn-returns
turn-returns g t c =
    let declared = (rw c.if-not-branch.false at c.in_ok-declare.ensures) in goes_done _ 0 0 (omega arith)
    (comes_changed _ 0 (comes_then _ 0 0 0 (omega arith) (comes_alone _ _ _ _ c.requires.ready refl) c.in_ok-flow.ensures) c.in_ok-flow.ensures.ready refl)
    (turn_left _ _ _ _ _ _ _ _ _ _ _ _ _ _ declared c.in_block.ensures (ap (λ xs. statements_of (map view_stmt xs)) c.as_slice.ensures.value) c.len-before.ensures c.leave.ensures c.in_ok-flow.ensures.ends)

pub call-prepare-requires : goal.call-prepare-requires
call-prepare-requires g t c = record { told = c.requires.ready.0.told; sites = c.requires.ready.0.counted; small = c.requires.within; few = (omega (arith, c.requires.ready.1)) }

pub call-returns-in_err-prepared : goal.call-returns-in_err-prepared
call-returns-in_err-prepared g t c = goes_refused _ 1 c.from_residual.result c.from_residual.ensures.1 (passes_at 1 _)

pub call-returns-in-None : goal.call-returns-in-None
call-returns-in-None g t c = call_faults _ c.args.call.now _ _ c.in_ok-prepared.ensures.prepared c.requires.ready c.in-None.is c.fault.ensures

pub call-decide-requires : goal.call-decide-requires
call-decide-requires g t c =
    λ κs lifetimes. calls_again (omega arith) lifetimes (
      c.requires.ready,
      (
        subst (λ o. IfSome o (λ r. r.entry.count ≡ calls_at r.entry.site (calls_of c.args.progress.now) + 1)) c.in-Some.is c.in_ok-prepared.ensures.count,
        subst
            (λ o. IfSome o (λ r. r.callee.0 < length (methods_of c.args.self.now.program.now.tree))) c.in-Some.is c.in_ok-prepared.ensures.within,
      ),
    )

pub call-returns-in_err-reply-in-Some : goal.call-returns-in_err-reply-in-Some
call-returns-in_err-reply-in-Some g t c = call_stopped _ c.args.call.now _ _ c.in_ok-prepared.ensures.prepared c.requires.ready c.in-Some.is c.from_residual-in_err-reply-in-Some.ensures.1 c.in_err-reply-in-Some.ensures

pub call-take-requires : goal.call-take-requires
call-take-requires g t c = λ κs lifetimes. calls_again (omega (arith, c.in_ok-reply-in-Some.ensures.passes.fuel)) lifetimes (c.in_ok-reply-in-Some.ensures.ready, (c.requires.within, (c.requires.statements, c.requires.stands)))

pub call-returns-in_ok-reply-in-Some : goal.call-returns-in_ok-reply-in-Some
call-returns-in_ok-reply-in-Some g t c = call_taken _ c.args.call.now _ _ c.in_ok-prepared.ensures.prepared c.requires.ready c.in-Some.is c.in_ok-reply-in-Some.ensures c.take.ensures

pub take-handle-requires : goal.take-handle-requires
take-handle-requires g t c = λ κs lifetimes. calls_again (omega arith) lifetimes (c.requires.ready, c.requires.stands)

pub take-returns-then-assign : goal.take-returns-then-assign
take-returns-then-assign g t c = goes_done _ 0 0 (omega arith) (comes_alone _ _ _ _ c.requires.ready refl) (taken_put _ _ _ _ _ _ _ _ _ c.in-Ok.is (rw c.if-assign.true at c.assign.ensures))

pub take-returns-else-assign : goal.take-returns-else-assign
take-returns-else-assign g t c =
    let missed = (rw c.if-assign.false at c.assign.ensures) in goes_done _ 0 0 (omega arith) (comes_alone _ _ _ _ c.requires.ready refl) (taken_nowhere _ _ _ _ _ _ _ _ _ _ c.in-Ok.is missed.0 missed.1 c.fault.ensures)

pub take-returns-in-Err : goal.take-returns-in-Err
take-returns-in-Err g t c = goes_by _ 0 0 (omega arith) (taken_error _ _ _ _ _ _ _ _ _ c.in-Err.is refl) c.handle.ensures

pub statements-loop-left-init : goal.statements-loop-left-init
statements-loop-left-init g t c = all_left c.requires.stands c.requires.ready

pub statements-statement-requires : goal.statements-statement-requires
statements-statement-requires g t c =
    λ κs lifetimes. calls_again (omega (arith, c.loop-left.invariant.comes.passes.fuel)) lifetimes (c.loop-left.invariant.comes.ready, next_stands c.loop-left.invariant c.in-len1-up.len_at_least c.stmt-item.is)

pub statements-returns-in_err-flow : goal.statements-returns-in_err-flow
statements-returns-in_err-flow g t c = next_stopped c.loop-left.invariant c.in-len1-up.len_at_least c.stmt-item.is c.from_residual.ensures.1 c.in_err-flow.ensures

pub statements-returns-in_default-flow : goal.statements-returns-in_default-flow
statements-returns-in_default-flow g t c = next_ended c.loop-left.invariant c.in-len1-up.len_at_least c.stmt-item.is c.in_ok-flow.ensures c.in_default-flow.not-Next

pub statements-behind_statement-at-requires : goal.statements-behind_statement-at-requires
statements-behind_statement-at-requires g t c = next_stands c.loop-left.invariant c.in-len1-up.len_at_least c.stmt-item.is

pub statements-loop-left-preserved : goal.statements-loop-left-preserved
statements-loop-left-preserved g t c = next_done c.loop-left.invariant c.in-len1-up.len_at_least c.stmt-item.is c.in_ok-flow.ensures c.in-Next.is c.behind_statement-at.ensures

pub statements-returns : goal.statements-returns
statements-returns g t c = none_left c.loop-left.invariant c.in_default.len_below

pub repeat-loop-turn-init : goal.repeat-loop-turn-init
repeat-loop-turn-init g t c = all_turns_left (c.args.times - 0) (omega arith) c.requires.ready

pub repeat-returns-in_err-begin : goal.repeat-returns-in_err-begin
repeat-returns-in_err-begin g t c =
    turn_unfed c.loop-turn.invariant (c.args.times - (c.loop-turn._turn + 1)) (omega (arith, c.loop-turn-test.true)) c.begin.new.fuel c.from_residual.ensures.1 c.in_err-begin.ensures.spent c.begin.ensures.fuel

pub repeat-block-requires : goal.repeat-block-requires
repeat-block-requires g t c = λ κs lifetimes. calls_again (omega (arith, c.loop-turn.invariant.comes.passes.fuel, c.in_ok-begin.ensures.unit)) lifetimes (c.in_ok-begin.ensures.ready.0, c.requires.stands)

pub repeat-returns-in_err-flow : goal.repeat-returns-in_err-flow
repeat-returns-in_err-flow g t c =
    turn_stopped c.loop-turn.invariant (c.args.times - (c.loop-turn._turn + 1)) (omega (arith, c.loop-turn-test.true)) c.in_ok-begin.ensures.unit c.in_ok-begin.ensures.begun c.in_ok-begin.ensures.ready c.in_ok-begin.ensures.ticks
    c.from_residual-in_err-flow.ensures.1 c.in_err-flow.ensures

pub repeat-returns-in-Broke : goal.repeat-returns-in-Broke
repeat-returns-in-Broke g t c =
    turn_broke c.loop-turn.invariant (c.args.times - (c.loop-turn._turn + 1)) (omega (arith, c.loop-turn-test.true)) c.in_ok-begin.ensures.unit c.in_ok-begin.ensures.begun c.in_ok-begin.ensures.ready c.in_ok-begin.ensures.ticks
    c.in_ok-flow.ensures c.in-Broke.is

pub repeat-returns-in_default : goal.repeat-returns-in_default
repeat-returns-in_default g t c =
    turn_ended c.loop-turn.invariant (c.args.times - (c.loop-turn._turn + 1)) (omega (arith, c.loop-turn-test.true)) c.in_ok-begin.ensures.unit c.in_ok-begin.ensures.begun c.in_ok-begin.ensures.ready c.in_ok-begin.ensures.ticks
    c.in_ok-flow.ensures c.in_default.not-Next c.in_default.not-Broke

pub repeat-loop-turn-preserved : goal.repeat-loop-turn-preserved
repeat-loop-turn-preserved g t c =
    turn_done c.loop-turn.invariant (c.args.times - (c.loop-turn._turn + 1)) (omega (arith, c.loop-turn-test.true)) c.in_ok-begin.ensures.unit c.in_ok-begin.ensures.begun c.in_ok-begin.ensures.ready c.in_ok-begin.ensures.ticks
    c.in_ok-flow.ensures c.in-Next.is

pub repeat-returns : goal.repeat-returns
repeat-returns g t c = turns_over c.loop-turn.invariant (omega (arith, c.loop-turn-test.false))

pub turns-loop-place-init : goal.turns-loop-place-init
turns-loop-place-init g t c = all_items_left c.requires.ready

pub turns-returns-in_err-item : goal.turns-returns-in_err-item
turns-returns-in_err-item g t c = item_refused c.loop-place.invariant c.from_residual.ensures.1

pub turns-returns-in_err-begin : goal.turns-returns-in_err-begin
turns-returns-in_err-begin g t c =
    item_unfed c.loop-place.invariant c.in-Some.item (drop (c.loop-place.place + 1) (values_in c.args.items.now)) (drop_at (values_in c.args.items.now) c.loop-place.place c.in-Some.item (sym c.in_ok-item.ensures.item ∙ c.in-Some.is))
    c.begin.new.fuel c.from_residual-in_err-begin.ensures.1 c.in_err-begin.ensures.spent c.begin.ensures.fuel

pub turns-turn-requires : goal.turns-turn-requires
turns-turn-requires g t c = λ κs lifetimes. calls_again (omega (arith, c.loop-place.invariant.comes.passes.fuel, c.in_ok-begin.ensures.unit)) lifetimes (c.in_ok-begin.ensures.ready.0, (c.requires.small, c.requires.stands))

pub turns-returns-in_err-flow : goal.turns-returns-in_err-flow
turns-returns-in_err-flow g t c =
    item_stopped c.loop-place.invariant c.in-Some.item (drop (c.loop-place.place + 1) (values_in c.args.items.now)) (drop_at (values_in c.args.items.now) c.loop-place.place c.in-Some.item (sym c.in_ok-item.ensures.item ∙ c.in-Some.is))
    c.in_ok-begin.ensures.unit c.in_ok-begin.ensures.begun c.in_ok-begin.ensures.ready c.in_ok-begin.ensures.ticks c.from_residual-in_err-flow.ensures.1 c.in_err-flow.ensures

pub turns-returns-in-Broke : goal.turns-returns-in-Broke
turns-returns-in-Broke g t c =
    item_broke c.loop-place.invariant c.in-Some.item (drop (c.loop-place.place + 1) (values_in c.args.items.now)) (drop_at (values_in c.args.items.now) c.loop-place.place c.in-Some.item (sym c.in_ok-item.ensures.item ∙ c.in-Some.is))
    c.in_ok-begin.ensures.unit c.in_ok-begin.ensures.begun c.in_ok-begin.ensures.ready c.in_ok-begin.ensures.ticks c.in_ok-flow.ensures c.in-Broke.is

pub turns-returns-in_default-flow : goal.turns-returns-in_default-flow
turns-returns-in_default-flow g t c =
    item_ended c.loop-place.invariant c.in-Some.item (drop (c.loop-place.place + 1) (values_in c.args.items.now)) (drop_at (values_in c.args.items.now) c.loop-place.place c.in-Some.item (sym c.in_ok-item.ensures.item ∙ c.in-Some.is))
    c.in_ok-begin.ensures.unit c.in_ok-begin.ensures.begun c.in_ok-begin.ensures.ready c.in_ok-begin.ensures.ticks c.in_ok-flow.ensures c.in_default-flow.not-Next c.in_default-flow.not-Broke

pub turns-returns-in_default : goal.turns-returns-in_default
turns-returns-in_default g t c = items_over c.loop-place.invariant (drop_past (values_in c.args.items.now) c.loop-place.place (sym c.in_ok-item.ensures.item ∙ c.in_default.is))

pub turns-loop-place-preserved : goal.turns-loop-place-preserved
turns-loop-place-preserved g t c =
    item_done c.loop-place.invariant c.in-Some.item (drop (c.loop-place.place + 1) (values_in c.args.items.now)) (drop_at (values_in c.args.items.now) c.loop-place.place c.in-Some.item (sym c.in_ok-item.ensures.item ∙ c.in-Some.is))
    c.in_ok-begin.ensures.unit c.in_ok-begin.ensures.begun c.in_ok-begin.ensures.ready c.in_ok-begin.ensures.ticks c.in_ok-flow.ensures c.in-Next.is

pub turns-returns : goal.turns-returns
turns-returns g t c = items_over c.loop-place.invariant (none_past c.args.items.now c.loop-place.place (omega (arith, c.loop-place-test.false, c.loop-place.auto.place-end, c.len-count.ensures.value)))

pub handle-loop-left-init : goal.handle-loop-left-init
handle-loop-left-init g t c = all_handlers_left c.requires.stands c.requires.ready

pub handle-block-requires : goal.handle-block-requires
handle-block-requires g t c =
    λ κs lifetimes. calls_again (omega (arith, c.loop-left.invariant.comes.passes.fuel)) lifetimes (c.loop-left.invariant.comes.ready, next_block_stands c.loop-left.invariant c.in-len1-up.len_at_least c.handler-item.is)

pub handle-returns-then-catches : goal.handle-returns-then-catches
handle-returns-then-catches g t c = handled_goes c.loop-left.invariant c.in-len1-up.len_at_least c.handler-item.is (sym c.catches.ensures ∙ c.if-catches.true) c.block.ensures

pub handle-behind_block-at-requires : goal.handle-behind_block-at-requires
handle-behind_block-at-requires g t c = next_block_stands c.loop-left.invariant c.in-len1-up.len_at_least c.handler-item.is

pub handle-loop-left-preserved : goal.handle-loop-left-preserved
handle-loop-left-preserved g t c = handler_passed c.loop-left.invariant c.in-len1-up.len_at_least c.handler-item.is (sym c.catches.ensures ∙ c.if-catches.false) c.behind_block-at.ensures

pub handle-returns : goal.handle-returns
handle-returns g t c = unhandled_goes c.loop-left.invariant c.in_default.len_below c.unhandled.ensures

pub invoke-returns-in_err-progress : goal.invoke-returns-in_err-progress
invoke-returns-in_err-progress g t c = invokes_refused c.from_residual.result c.from_residual.ensures.1 (passes_at 0 _)

pub invoke-statements-requires : goal.invoke-statements-requires
invoke-statements-requires g t c =
    λ κs lifetimes. calls_again (omega arith) lifetimes (
      ready_invoked _ (g.D.Decides.ways c.args.decider.now).gives _ _ _ c.args.fuel.now _ _ _ c.requires.body c.method_tree-method.ensures c.in_ok-progress.ensures c.as_slice.ensures
          (ap (λ xs. statements_of (map view_stmt xs)) c.as_slice-2.ensures.value) c.proper.ensures,
      body_invoked _ (g.D.Decides.ways c.args.decider.now).gives _ _ _ c.args.fuel.now _ _ _ c.requires.body c.method_tree-method.ensures
          c.in_ok-progress.ensures c.as_slice.ensures (ap (λ xs. statements_of (map view_stmt xs)) c.as_slice-2.ensures.value),
    )

pub invoke-returns-in_err-flow : goal.invoke-returns-in_err-flow
invoke-returns-in_err-flow g t c =
    invokes_stopped _ c.from_residual-in_err-flow.result c.from_residual-in_err-flow.ensures.1 c.in_err-flow.ensures
    (invoked_stops _ (g.D.Decides.ways c.args.decider.now).gives _ _ _ c.args.fuel.now _ _ _ c.requires.body c.method_tree-method.ensures c.in_ok-progress.ensures c.as_slice.ensures
    (ap (λ xs. statements_of (map view_stmt xs)) c.as_slice-2.ensures.value) _)

pub invoke-returns : goal.invoke-returns
invoke-returns g t c =
    invokes_done _ c.node_of.result c.in_ok-flow.ensures
    (invoked _ (g.D.Decides.ways c.args.decider.now).gives _ _ _ c.args.fuel.now _ _ _ c.requires.body c.method_tree-method.ensures c.in_ok-progress.ensures c.as_slice.ensures
    (ap (λ xs. statements_of (map view_stmt xs)) c.as_slice-2.ensures.value) _ _ c.in_ok-flow.ensures.ends ∙ ap (λ n. Done n c.statements.new.fuel) (sym c.node_of.ensures))
    (none_invoked _ (g.D.Decides.ways c.args.decider.now).gives _ _ _ c.args.fuel.now _ _ _ c.requires.body c.method_tree-method.ensures c.in_ok-progress.ensures c.as_slice.ensures
    (ap (λ xs. statements_of (map view_stmt xs)) c.as_slice-2.ensures.value)) (one_more (view_node c.node_of.result) _ _ _ _ _ c.node_of.ensures)

pub decide-returns-in_err-index : goal.decide-returns-in_err-index
decide-returns-in_err-index g t c = goes_refused _ 1 c.from_residual.result c.from_residual.ensures.1 (passes_at 1 _)

pub decide-returns-in_err-decision : goal.decide-returns-in_err-decision
decide-returns-in_err-decision g t c =
    decision_stops _ 1 c.in_err-decision.field-0.0 _ c.from_residual-in_err-decision.result c.from_residual-in_err-decision.ensures.1 c.in_err-decision.ensures.answers
    (λ none. decided_missing _ (prepared_of c.args.request) _
    (given_none (g.D.Decides.ways c.args.decider.now).gives c.args.request.callee.0 c.in_ok-index.index _ c.as_slice.result.now c.args.request.args c.in_ok-index.ensures c.as_slice.ensures none))
    (passes_asked 1 _ _ _ _ _ _ _ _ c.in_err-decision.ensures.ways c.in_err-decision.ensures.wanted)

pub decide-returns-in_err-args-in-Forward : goal.decide-returns-in_err-args-in-Forward
decide-returns-in_err-args-in-Forward g t c =
    goes_refused _ 1 c.from_residual-in_err-args-in-Forward.result c.from_residual-in_err-args-in-Forward.ensures.1
    (passes_forward _ _ _ _ _ _ _ c.in_ok-decision.ensures.ways c.in_ok-decision.ensures.wanted (may_forward (g.D.Decides.ways c.args.decider.now).forwards c.in_ok-decision.decision c.in-Forward.is c.in_ok-decision.ensures.evaluates)
    c.tick.ensures)

pub decide-invoke-requires : goal.decide-invoke-requires
decide-invoke-requires g t c = λ κs lifetimes. calls_again (omega arith) lifetimes (subst (λ p. c.args.request.callee.0 < length (methods_of p.tree)) (sym c.of_method-body.ensures.program) c.requires.within, c.of_method-body.ensures.body)

pub decide-returns-in_err-node-in-Forward : goal.decide-returns-in_err-node-in-Forward
decide-returns-in_err-node-in-Forward g t c =
    let asked : IsAsked c.args.self.now c.of_method-body.result (prepared_of c.args.request) (g.D.Decides.ways c.args.decider.now) (g.D.Decides.ways c.decide.new.self) c.in_ok-args-in-Forward.args =
    record {
      program = c.of_method-body.ensures.program;
      same = c.in_ok-decision.ensures.ways;
      copied = c.in_ok-args-in-Forward.ensures;
      index = c.of_method-body.ensures.index ∙ c.in_ok-index.ensures;
      given =
          (given_by (g.D.Decides.ways c.args.decider.now).gives c.args.request.callee.0 _ _ _ _ c.in_ok-index.ensures c.as_slice.ensures _ _ c.in-Forward.is c.in_ok-decision.ensures.answers);
    } in
    callee_stopped _ _ asked refl _ c.from_residual-in_err-node-in-Forward.ensures.1
    (passes_forward _ _ _ _ _ _ _ c.in_ok-decision.ensures.ways c.in_ok-decision.ensures.wanted (may_forward (g.D.Decides.ways c.args.decider.now).forwards c.in_ok-decision.decision c.in-Forward.is c.in_ok-decision.ensures.evaluates)
    c.tick.ensures) c.in_err-node-in-Forward.ensures

pub decide-returns-in_err-reply-in-Forward : goal.decide-returns-in_err-reply-in-Forward
decide-returns-in_err-reply-in-Forward g t c =
    refused_behind _ c.from_residual-in_err-reply-in-Forward.result c.from_residual-in_err-reply-in-Forward.ensures.1
    (passes_forward _ _ _ _ _ _ _ c.in_ok-decision.ensures.ways c.in_ok-decision.ensures.wanted (may_forward (g.D.Decides.ways c.args.decider.now).forwards c.in_ok-decision.decision c.in-Forward.is c.in_ok-decision.ensures.evaluates)
    c.tick.ensures) c.in_ok-node-in-Forward.ensures

pub decide-returns-in_err-new-in-Forward : goal.decide-returns-in_err-new-in-Forward
decide-returns-in_err-new-in-Forward g t c =
    refused_behind _ c.from_residual-in_err-new-in-Forward.result c.from_residual-in_err-new-in-Forward.ensures.1
    (passes_forward _ _ _ _ _ _ _ c.in_ok-decision.ensures.ways c.in_ok-decision.ensures.wanted (may_forward (g.D.Decides.ways c.args.decider.now).forwards c.in_ok-decision.decision c.in-Forward.is c.in_ok-decision.ensures.evaluates)
    c.tick.ensures) c.in_ok-node-in-Forward.ensures

pub decide-returns-in_err-got-in-Forward : goal.decide-returns-in_err-got-in-Forward
decide-returns-in_err-got-in-Forward g t c =
    refused_behind _ c.from_residual-in_err-got-in-Forward.result c.from_residual-in_err-got-in-Forward.ensures.1
    (passes_forward _ _ _ _ _ _ _ c.in_ok-decision.ensures.ways c.in_ok-decision.ensures.wanted (may_forward (g.D.Decides.ways c.args.decider.now).forwards c.in_ok-decision.decision c.in-Forward.is c.in_ok-decision.ensures.evaluates)
    c.tick.ensures) c.in_ok-node-in-Forward.ensures

pub decide-returns-in_err-got-in-Fault : goal.decide-returns-in_err-got-in-Fault
decide-returns-in_err-got-in-Fault g t c =
    goes_refused _ 1 c.from_residual-in_err-got-in-Fault.result c.from_residual-in_err-got-in-Fault.ensures.1 (passes_asked 1 false (Unit {0}) _ _ _ _ _ _ c.in_ok-decision.ensures.ways c.in_ok-decision.ensures.wanted)

pub decide-returns-in_err-take-in-Known : goal.decide-returns-in_err-take-in-Known
decide-returns-in_err-take-in-Known g t c =
    known_unfed _ _ c.in-Known.steps c.in-Known.injected c.from_residual-in_err-take-in-Known.ensures.1
    (given_by (g.D.Decides.ways c.args.decider.now).gives c.args.request.callee.0 _ _ _ _ c.in_ok-index.ensures c.as_slice.ensures _ _ c.in-Known.is c.in_ok-decision.ensures.answers) c.in_err-take-in-Known.ensures.0
    (passes_known _ _ _ _ c.args.fuel.now c.take.new.self _ c.in_ok-decision.ensures.ways c.in_ok-decision.ensures.wanted (omega (arith, c.in_err-take-in-Known.ensures)))

pub decide-returns-in_err-got-in-Known : goal.decide-returns-in_err-got-in-Known
decide-returns-in_err-got-in-Known g t c =
    goes_refused _ 1 c.from_residual-in_err-got-in-Known.result c.from_residual-in_err-got-in-Known.ensures.1
    (passes_known _ _ _ _ c.args.fuel.now c.take.new.self _ c.in_ok-decision.ensures.ways c.in_ok-decision.ensures.wanted (omega (arith, c.in_ok-take-in-Known.ensures)))

pub decide-returns-in_ok-got-in-Forward : goal.decide-returns-in_ok-got-in-Forward
decide-returns-in_ok-got-in-Forward g t c =
    let asked : IsAsked c.args.self.now c.of_method-body.result (prepared_of c.args.request) (g.D.Decides.ways c.args.decider.now) (g.D.Decides.ways c.decide.new.self) c.in_ok-args-in-Forward.args =
    record {
      program = c.of_method-body.ensures.program;
      same = c.in_ok-decision.ensures.ways;
      copied = c.in_ok-args-in-Forward.ensures;
      index = c.of_method-body.ensures.index ∙ c.in_ok-index.ensures;
      given =
          (given_by (g.D.Decides.ways c.args.decider.now).gives c.args.request.callee.0 _ _ _ _ c.in_ok-index.ensures c.as_slice.ensures _ _ c.in-Forward.is c.in_ok-decision.ensures.answers);
    } in
    callee_returns _ _ asked refl _ c.in_ok-node-in-Forward.node c.in_ok-node-in-Forward.ensures
    (record {
      reply = c.in_ok-got-in-Forward.ensures.reply;
      state = c.in_ok-got-in-Forward.ensures.state c.args.fuel.now c.invoke.new.fuel;
      ready = c.in_ok-got-in-Forward.ensures.ready c.args.fuel.now c.invoke.new.fuel c.requires.ready
          c.in_ok-node-in-Forward.ensures.passes.fuel;
      more = c.in_ok-got-in-Forward.ensures.ticks;
    }) (view_ran c.in_ok-new-in-Forward.field-0 ∙ ap (λ n. Ran (view_node n)) c.in_ok-new-in-Forward.ensures.ok) c.in_ok-reply-in-Forward.ensures
    c.tick.ensures (passes_forward _ _ _ _ _ _ _ c.in_ok-decision.ensures.ways c.in_ok-decision.ensures.wanted
    (may_forward (g.D.Decides.ways c.args.decider.now).forwards c.in_ok-decision.decision c.in-Forward.is c.in_ok-decision.ensures.evaluates) c.tick.ensures)

pub decide-returns-in_ok-got-in-Fault : goal.decide-returns-in_ok-got-in-Fault
decide-returns-in_ok-got-in-Fault g t c =
    fault_returns _ (record {
      reply = c.in_ok-got-in-Fault.ensures.reply;
      state = c.in_ok-got-in-Fault.ensures.state c.args.fuel.now c.args.fuel.now;
      ready = c.in_ok-got-in-Fault.ensures.ready c.args.fuel.now c.args.fuel.now c.requires.ready
          (omega arith);
      more = c.in_ok-got-in-Fault.ensures.ticks;
    })
    (given_by (g.D.Decides.ways c.args.decider.now).gives c.args.request.callee.0 _ _ _ _ c.in_ok-index.ensures c.as_slice.ensures _ _ c.in-Fault.is c.in_ok-decision.ensures.answers) refl refl
    (passes_asked 1 false (Unit {0}) _ _ _ _ _ _ c.in_ok-decision.ensures.ways c.in_ok-decision.ensures.wanted)

pub decide-returns-in_ok-got-in-Known : goal.decide-returns-in_ok-got-in-Known
decide-returns-in_ok-got-in-Known g t c =
    known_returns _ c.in-Known.steps c.in-Known.injected
    (record {
      reply = c.in_ok-got-in-Known.ensures.reply;
      state = c.in_ok-got-in-Known.ensures.state c.args.fuel.now c.take.new.self;
      ready = c.in_ok-got-in-Known.ensures.ready c.args.fuel.now c.take.new.self c.requires.ready
          (omega (arith, c.in_ok-take-in-Known.ensures));
      more = c.in_ok-got-in-Known.ensures.ticks;
    })
    (given_by (g.D.Decides.ways c.args.decider.now).gives c.args.request.callee.0 _ _ _ _ c.in_ok-index.ensures c.as_slice.ensures _ _ c.in-Known.is c.in_ok-decision.ensures.answers) c.in_ok-take-in-Known.ensures refl
    (passes_known _ _ _ _ c.args.fuel.now c.take.new.self _ c.in_ok-decision.ensures.ways c.in_ok-decision.ensures.wanted (omega (arith, c.in_ok-take-in-Known.ensures)))
