use Rattle.std.proofs.Common.{◌≡◌, None, [], ◌∷◌, ◌++◌, refl, sym, ap, ◌∙◌, subst}
use Rattle.std.specs.Prelude.{IsNone}
use Rattle.std.specs.List.{All}
use Rattle.std.specs.Option.{option_to_list}
use Rattle.std.proofs.lemmas.List.Elements.{All-cons, All-head, All-nil, All-tail}
use Rattle.fb_index.specs.declared.fault.Fault.{Fault}
use Rattle.fb_index.specs.Fault.{IsAtCall}
use Rattle.fb_report.specs.Ranges.{IsOfVersion}
use Rattle.fb_check.specs.FirstRefusal.{first_refusal_of_test}
use Rattle.fb_stitch.specs.Sources.{AreTrueOf}
use Rattle.fb_worklist.specs.declared.pending.Pending.{Pending}
use Rattle.fb_explore.specs.Below.{AreTurnsTaken}
use Rattle.fb_explore.specs.Turns.{CanBeTold}
use Rattle.fb_explore.proofs.Puts.{exits}
use Rattle.fb_explore.proofs.UnderWay.{AreGiven, IsUnderWay, all_taken, begins, error_ends, fewer, given, goes_on, last_one, none_if, queue_is, stands, told_next}
use Rattle.fb_explore.proofs.exploring.take_turns.Goals as goal

pub loop-next-init : goal.loop-next-init
loop-next-init g c =
    let explorer = c.args.explorer.now in
    let u = g.W.Lines.written c.args.lines.now in
    let f = g.W.Lines.faults c.args.lines.now in
    let t = c.args.evals.now in
    let first : Pending = record { plan = c.empty.result; parent = 0 } in
    record {
      under_way = subst (λ waiting. IsUnderWay explorer (first ∷ waiting) c.new-known.result u f u f t t) (sym c.new-waiting.ensures)
          (begins explorer first c.new-known.result u f t c.empty.ensures c.new-known.ensures.store c.new-known.ensures.tally);
      last = λ none. absurd (cc);
      rest = refl;
      hold = subst (AreTrueOf explorer.program.now.tree) (sym c.new-known.ensures.store) tt;
      can = subst (λ waiting. All (λ (other : Pending). CanBeTold explorer.faults.now.version other.plan) (first ∷ waiting)) (sym c.new-waiting.ensures)
          (All-cons (λ (other : Pending). CanBeTold explorer.faults.now.version other.plan) first []
          (subst (CanBeTold explorer.faults.now.version) (sym c.empty.ensures) (All-nil (λ (fault : Fault). IsAtCall fault × IsOfVersion explorer.faults.now.version fault.reply)))
          (All-nil (λ (other : Pending). CanBeTold explorer.faults.now.version other.plan)));
    }

pub take_turn-requires-clause-plan : goal.take_turn-requires-clause-plan
take_turn-requires-clause-plan g c =
    let version = c.args.explorer.now.faults.now.version in
    All-head (λ (other : Pending). CanBeTold version other.plan) c.in-Some.pending c.loop-next.waiting
    (subst (λ next. All (λ (other : Pending). CanBeTold version other.plan) (option_to_list next ++ c.loop-next.waiting)) c.in-Some.is c.loop-next.invariant.can)

pub take_turn-requires-clause-waiting : goal.take_turn-requires-clause-waiting
take_turn-requires-clause-waiting g c =
    let version = c.args.explorer.now.faults.now.version in
    All-tail (λ (other : Pending). CanBeTold version other.plan) c.in-Some.pending c.loop-next.waiting
    (subst (λ next. All (λ (other : Pending). CanBeTold version other.plan) (option_to_list next ++ c.loop-next.waiting)) c.in-Some.is c.loop-next.invariant.can)

pub returns-in_err-take_turn-clause-turns : goal.returns-in_err-take_turn-clause-turns
returns-in_err-take_turn-clause-turns g c =
    let explorer = c.args.explorer.now in
    let services = explorer.program.now.tree in
    let test = explorer.test.now.tree in
    let u = g.W.Lines.written c.args.lines.now in
    let f = g.W.Lines.faults c.args.lines.now in
    let t = c.args.evals.now in
    let accepted_test : IsNone (first_refusal_of_test services test) = subst (λ tree. IsNone (first_refusal_of_test tree test)) c.requires.made explorer.test.now.accepted in
    let laws : AreGiven explorer =
    given explorer (c.our_runs_are_lawful.ensures services test) c.proper.ensures.choices c.requires.kinds c.waiting_plans_come_next.ensures.next c.waiting_plans_come_next.ensures.parents
    c.each_plan_is_met_once.ensures.once c.campaigns_have_lines.ensures.there explorer.program.now.accepted accepted_test in
    let known = c.loop-next.known in
    let waiting = c.loop-next.waiting in
    let pending = c.in-Some.pending in
    let v = g.W.Lines.written c.loop-next.lines in
    let h = g.W.Lines.faults c.loop-next.lines in
    let n = c.loop-next.evals in
    let here : IsUnderWay explorer (pending ∷ waiting) known u f v h t n = subst (λ next. IsUnderWay explorer (option_to_list next ++ waiting) known u f v h t n) c.in-Some.is c.loop-next.invariant.under_way in
    let w = g.W.Lines.written c.take_turn.new.lines in
    let k = g.W.Lines.faults c.take_turn.new.lines in
    let m = c.take_turn.new.evals in
    let why = c.in_err-take_turn.field-0.0 in
    exits (λ r. AreTurnsTaken explorer r u f w k t m) c.from_residual.result why c.from_residual.ensures.1
    (error_ends explorer laws pending waiting known u v f h t n here _ w k m why
    (c.in_err-take_turn.ensures.turn here.progress (told_next explorer laws pending waiting known u v f h t n here) (stands explorer laws pending waiting known u v f h t n here)))

pub loop-next-smaller : goal.loop-next-smaller
loop-next-smaller g c =
    let explorer = c.args.explorer.now in
    let services = explorer.program.now.tree in
    let test = explorer.test.now.tree in
    let u = g.W.Lines.written c.args.lines.now in
    let f = g.W.Lines.faults c.args.lines.now in
    let t = c.args.evals.now in
    let accepted_test : IsNone (first_refusal_of_test services test) = subst (λ tree. IsNone (first_refusal_of_test tree test)) c.requires.made explorer.test.now.accepted in
    let laws : AreGiven explorer =
    given explorer (c.our_runs_are_lawful.ensures services test) c.proper.ensures.choices c.requires.kinds c.waiting_plans_come_next.ensures.next c.waiting_plans_come_next.ensures.parents
    c.each_plan_is_met_once.ensures.once c.campaigns_have_lines.ensures.there explorer.program.now.accepted accepted_test in
    let known = c.loop-next.known in
    let waiting = c.loop-next.waiting in
    let pending = c.in-Some.pending in
    let v = g.W.Lines.written c.loop-next.lines in
    let h = g.W.Lines.faults c.loop-next.lines in
    let n = c.loop-next.evals in
    let here : IsUnderWay explorer (pending ∷ waiting) known u f v h t n = subst (λ next. IsUnderWay explorer (option_to_list next ++ waiting) known u f v h t n) c.in-Some.is c.loop-next.invariant.under_way in
    let w = g.W.Lines.written c.take_turn.new.lines in
    let k = g.W.Lines.faults c.take_turn.new.lines in
    let m = c.take_turn.new.evals in
    fewer explorer laws pending waiting known u v f h t n here c.take_turn.new.waiting c.take_turn.new.known w k m _
    (c.in_ok-take_turn.ensures.turn here.progress (told_next explorer laws pending waiting known u v f h t n here) (stands explorer laws pending waiting known u v f h t n here))

pub loop-next-preserved : goal.loop-next-preserved
loop-next-preserved g c =
    let explorer = c.args.explorer.now in
    let services = explorer.program.now.tree in
    let test = explorer.test.now.tree in
    let u = g.W.Lines.written c.args.lines.now in
    let f = g.W.Lines.faults c.args.lines.now in
    let t = c.args.evals.now in
    let accepted_test : IsNone (first_refusal_of_test services test) = subst (λ tree. IsNone (first_refusal_of_test tree test)) c.requires.made explorer.test.now.accepted in
    let laws : AreGiven explorer =
    given explorer (c.our_runs_are_lawful.ensures services test) c.proper.ensures.choices c.requires.kinds c.waiting_plans_come_next.ensures.next c.waiting_plans_come_next.ensures.parents
    c.each_plan_is_met_once.ensures.once c.campaigns_have_lines.ensures.there explorer.program.now.accepted accepted_test in
    let known = c.loop-next.known in
    let waiting = c.loop-next.waiting in
    let pending = c.in-Some.pending in
    let v = g.W.Lines.written c.loop-next.lines in
    let h = g.W.Lines.faults c.loop-next.lines in
    let n = c.loop-next.evals in
    let here : IsUnderWay explorer (pending ∷ waiting) known u f v h t n = subst (λ next. IsUnderWay explorer (option_to_list next ++ waiting) known u f v h t n) c.in-Some.is c.loop-next.invariant.under_way in
    let w = g.W.Lines.written c.take_turn.new.lines in
    let k = g.W.Lines.faults c.take_turn.new.lines in
    let m = c.take_turn.new.evals in
    let after = c.take_turn.new.waiting in
    let knows = c.take_turn.new.known in
    let queue : option_to_list c.pop_first-next.result ++ c.pop_first-next.new.self ≡ after = queue_is c.pop_first-next.result after c.pop_first-next.new.self c.pop_first-next.ensures in
    record {
      under_way = subst (λ queue. IsUnderWay explorer queue knows u f w k t m) (sym queue)
          (goes_on explorer laws pending waiting known u v f h t n here after knows w k m _
          (c.in_ok-take_turn.ensures.turn here.progress (told_next explorer laws pending waiting known u v f h t n here) (stands explorer laws pending waiting known u v f h t n here)));
      last = last_one c.pop_first-next.result after c.pop_first-next.new.self c.pop_first-next.ensures;
      rest = c.in_ok-take_turn.ensures.rest ∙ c.loop-next.invariant.rest;
      hold = c.in_ok-take_turn.ensures.hold;
      can = subst (All (λ (other : Pending). CanBeTold explorer.faults.now.version other.plan)) (sym queue) c.in_ok-take_turn.ensures.told;
    }

pub returns-clause-turns : goal.returns-clause-turns
returns-clause-turns g c =
    let explorer = c.args.explorer.now in
    let services = explorer.program.now.tree in
    let test = explorer.test.now.tree in
    let u = g.W.Lines.written c.args.lines.now in
    let f = g.W.Lines.faults c.args.lines.now in
    let t = c.args.evals.now in
    let accepted_test : IsNone (first_refusal_of_test services test) = subst (λ tree. IsNone (first_refusal_of_test tree test)) c.requires.made explorer.test.now.accepted in
    let laws : AreGiven explorer =
    given explorer (c.our_runs_are_lawful.ensures services test) c.proper.ensures.choices c.requires.kinds c.waiting_plans_come_next.ensures.next c.waiting_plans_come_next.ensures.parents
    c.each_plan_is_met_once.ensures.once c.campaigns_have_lines.ensures.there explorer.program.now.accepted accepted_test in
    let known = c.loop-next.known in
    let v = g.W.Lines.written c.loop-next.lines in
    let h = g.W.Lines.faults c.loop-next.lines in
    let n = c.loop-next.evals in
    let none : c.loop-next.next ≡ None = none_if c.loop-next.next c.in_default.not-Some in
    let nothing : option_to_list c.loop-next.next ++ c.loop-next.waiting ≡ [] =
    ap (λ next. option_to_list next ++ c.loop-next.waiting) none ∙ c.loop-next.invariant.last none in
    all_taken explorer laws known u v f h t n (subst (λ queue. IsUnderWay explorer queue known u f v h t n) nothing c.loop-next.invariant.under_way)
