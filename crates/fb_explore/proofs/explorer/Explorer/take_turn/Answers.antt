use Rattle.std.proofs.Common.{◌++◌, sym, ◌∙◌, subst}
use Rattle.std.specs.Prelude.{IsNone}
use Rattle.std.specs.List.{All}
use Rattle.fb_check.specs.FirstRefusal.{first_refusal_of_test}
use Rattle.fb_worklist.specs.Worklists.{HasMethod, pending_of}
use Rattle.fb_worklist.specs.declared.pending.Pending.{Pending}
use Rattle.fb_explore.specs.declared.end.ExploreEnd.TheVariants as end
use Rattle.fb_explore.specs.Turns.{AreCallsOf, CanBeTold, GoesOnWith}
use Rattle.fb_explore.proofs.Callees.{callees_there}
use Rattle.fb_explore.proofs.Turning.{still_ended, then_on, then_wanting, turn_exits}
use Rattle.fb_explore.proofs.Extending.{extensions_can}
use Rattle.fb_explore.proofs.explorer.Explorer.take_turn.Goals as goal

pub returns-in_err-calls-clause-turn : goal.returns-in_err-calls-clause-turn
returns-in_err-calls-clause-turn g c progress told stands =
    let explorer = c.args.self.now in
    let plan = c.args.pending.now.plan in
    let u = g.W.Lines.written c.args.lines.now in
    let f = g.W.Lines.faults c.args.lines.now in
    let v = g.W.Lines.written c.tell.new.lines in
    let h = g.W.Lines.faults c.tell.new.lines in
    let t = c.args.evals.now in
    let n = c.tell.new.evals in
    turn_exits _ explorer progress plan told u v f h t n c.from_residual.result c.in_err-calls.field-0.0 c.from_residual.ensures.1
    (still_ended (GoesOnWith explorer progress plan c.tell.new.known) _ explorer progress plan told u v f h t n c.in_err-calls.field-0.0 (c.in_err-calls.ensures.turn progress told stands))

pub push_extensions-requires : goal.push_extensions-requires
push_extensions-requires g c =
    let services = c.args.self.now.program.now.tree in
    let test = c.args.self.now.test.now.tree in
    let faults = c.args.self.now.faults.now in
    let accepted_test : IsNone (first_refusal_of_test services test) = subst (λ tree. IsNone (first_refusal_of_test tree test)) c.requires.made c.args.self.now.test.now.accepted in
    let calls : AreCallsOf c.args.self.now c.args.pending.now.plan c.in_ok-calls.calls = c.in_ok-calls.ensures.calls in
    subst (All (HasMethod faults)) (sym (c.as_slice.ensures ∙ calls.calls_are))
    (callees_there services test c.args.self.now.program.now.accepted accepted_test c.kinds_are_kept.ensures.tests c.kinds_are_kept.ensures.plans
    c.args.self.now.fuel c.args.pending.now.plan calls.went calls.done faults c.requires.kinds)

pub returns-in_err-push_extensions-clause-turn : goal.returns-in_err-push_extensions-clause-turn
returns-in_err-push_extensions-clause-turn g c progress told stands =
    let explorer = c.args.self.now in
    let plan = c.args.pending.now.plan in
    let u = g.W.Lines.written c.args.lines.now in
    let f = g.W.Lines.faults c.args.lines.now in
    let v = g.W.Lines.written c.tell.new.lines in
    let h = g.W.Lines.faults c.tell.new.lines in
    let t = c.args.evals.now in
    let n = c.tell.new.evals in
    turn_exits _ explorer progress plan told u v f h t n c.from_residual-in_err-push_extensions.result end.Memory c.from_residual-in_err-push_extensions.ensures.1
    (then_wanting (GoesOnWith explorer progress plan c.tell.new.known) _ explorer progress plan told u v f h t n c.in_ok-calls.calls (c.in_ok-calls.ensures.turn progress told stands))

pub returns-clause-turn : goal.returns-clause-turn
returns-clause-turn g c progress told stands =
    let explorer = c.args.self.now in
    let plan = c.args.pending.now.plan in
    let faults = c.args.self.now.faults.now in
    let u = g.W.Lines.written c.args.lines.now in
    let f = g.W.Lines.faults c.args.lines.now in
    let v = g.W.Lines.written c.tell.new.lines in
    let h = g.W.Lines.faults c.tell.new.lines in
    let t = c.args.evals.now in
    let n = c.tell.new.evals in
    let turn = c.in_ok-calls.ensures.turn progress told stands in
    then_on (GoesOnWith explorer progress plan c.tell.new.known) _ explorer progress plan told u v f h t n c.in_ok-calls.calls _ turn
    (record {
      calls = c.in_ok-calls.calls;
      goes_on = turn.answer;
      wait = c.in_ok-push_extensions.ensures.ok ∙ (λ i. c.args.waiting.now ++ pending_of faults plan (c.plans-number.ensures i) (c.as_slice.ensures i));
    })

pub returns-clause-told : goal.returns-clause-told
returns-clause-told g c =
    let faults = c.args.self.now.faults.now in
    subst (All (λ (other : Pending). CanBeTold faults.version other.plan)) (sym c.in_ok-push_extensions.ensures.ok)
    (extensions_can faults c.proper.ensures.values c.args.pending.now.plan c.requires.plan c.plans-number.result c.as_slice.result.now c.args.waiting.now c.requires.waiting)
