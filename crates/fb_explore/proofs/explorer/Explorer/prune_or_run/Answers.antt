use Rattle.std.proofs.Common.{◌≡◌, Some, Err, refl, ap, ◌∙◌, subst, arith}
use Rattle.fb_campaign.specs.Campaign.{GoesOn, prune}
use Rattle.fb_campaign.specs.Runs.{Went}
use Rattle.fb_functest.specs.Runs.{runs_of, went_if_done, went_of}
use Rattle.fb_meaning.specs.Runs.{IsCovered}
use Rattle.fb_stitch.specs.Derivations.{GivesDerived, IsDerived}
use Rattle.fb_explore.specs.Ends.{end_of}
use Rattle.fb_explore.specs.Turns.{GoesOnWith, IsTurn, StandsBefore, added_by, added_if_pruned, turn_by}
use Rattle.fb_explore.proofs.Puts.{exits}
use Rattle.fb_explore.proofs.Turning.{covered, not_covered, pruned_adds, goes_on_with, on_turn, on_error}
use Rattle.fb_explore.proofs.explorer.Explorer.prune_or_run.Goals as goal

pub returns-in_err-calls-in-Ok-clause-turn : goal.returns-in_err-calls-in-Ok-clause-turn
returns-in_err-calls-in-Ok-clause-turn g c progress told stands =
    let explorer = c.args.self.now in
    let u = g.W.Lines.written c.args.lines.now in
    let f = g.W.Lines.faults c.args.lines.now in
    let v = g.W.Lines.written c.put_pruned.new.lines in
    let h = g.W.Lines.faults c.put_pruned.new.lines in
    let plan = c.args.pending.now.plan in
    let known = c.args.known.now in
    let is_derived : IsDerived explorer.program.now.tree explorer.test.now.tree explorer.fuel known.store plan c.in-Ok.derived = c.in-Ok.ensures.derived in
    let went : Went = went_of is_derived.run in
    let done : runs_of explorer.program.now.tree explorer.test.now.tree explorer.fuel plan ≡ Some went = ap went_if_done is_derived.done in
    let covers = c.derived_plans_are_covered.ensures explorer.program.now.tree explorer.test.now.tree explorer.fuel known.store plan c.in-Ok.derived is_derived in
    let next = prune progress plan went in
    let turn : turn_by explorer progress plan ≡ GoesOn next =
    covered explorer progress plan known stands.knows c.covered_is_found.ensures c.requires.reduction c.requires.later went done covers in
    let more = added_if_pruned progress plan went in
    let here : StandsBefore explorer.program.now.tree explorer.faults.now.version progress c.args.pending.now known more told =
    subst (λ lines. StandsBefore explorer.program.now.tree explorer.faults.now.version progress c.args.pending.now known lines told)
    (ap (added_by progress) turn ∙ pruned_adds progress plan went) stands in
    let still = c.derive.ensures.still in
    let error = c.in_err-calls-in-Ok.field-0.0 in
    exits (λ r. IsTurn (GoesOnWith explorer progress plan c.put_pruned.new.known) explorer progress plan told r u f v h c.args.evals.now c.derive.new.evals) c.from_residual.result (end_of error) c.from_residual.ensures.1
    (on_error explorer progress plan went done next turn more refl told u v f h c.args.evals.now c.derive.new.evals
    (GoesOnWith explorer progress plan c.put_pruned.new.known) (omega (arith, still)) (omega (arith, still)) error (c.in_err-calls-in-Ok.ensures.put progress went told done here))

pub returns-in_ok-calls-in-Ok-clause-turn : goal.returns-in_ok-calls-in-Ok-clause-turn
returns-in_ok-calls-in-Ok-clause-turn g c progress told stands =
    let explorer = c.args.self.now in
    let u = g.W.Lines.written c.args.lines.now in
    let f = g.W.Lines.faults c.args.lines.now in
    let v = g.W.Lines.written c.put_pruned.new.lines in
    let h = g.W.Lines.faults c.put_pruned.new.lines in
    let plan = c.args.pending.now.plan in
    let known = c.args.known.now in
    let is_derived : IsDerived explorer.program.now.tree explorer.test.now.tree explorer.fuel known.store plan c.in-Ok.derived = c.in-Ok.ensures.derived in
    let went : Went = went_of is_derived.run in
    let done : runs_of explorer.program.now.tree explorer.test.now.tree explorer.fuel plan ≡ Some went = ap went_if_done is_derived.done in
    let covers = c.derived_plans_are_covered.ensures explorer.program.now.tree explorer.test.now.tree explorer.fuel known.store plan c.in-Ok.derived is_derived in
    let next = prune progress plan went in
    let turn : turn_by explorer progress plan ≡ GoesOn next =
    covered explorer progress plan known stands.knows c.covered_is_found.ensures c.requires.reduction c.requires.later went done covers in
    let more = added_if_pruned progress plan went in
    let here : StandsBefore explorer.program.now.tree explorer.faults.now.version progress c.args.pending.now known more told =
    subst (λ lines. StandsBefore explorer.program.now.tree explorer.faults.now.version progress c.args.pending.now known lines told)
    (ap (added_by progress) turn ∙ pruned_adds progress plan went) stands in
    let still = c.derive.ensures.still in
    on_turn explorer progress plan went done next turn more refl told u v f h c.args.evals.now c.derive.new.evals
    (GoesOnWith explorer progress plan c.put_pruned.new.known) (omega (arith, still)) (omega (arith, still)) c.in_ok-calls-in-Ok.calls
    (goes_on_with explorer progress plan went done next turn more refl told u v f h c.args.evals.now c.derive.new.evals
    c.put_pruned.new.known c.in_ok-calls-in-Ok.calls (c.in_ok-calls-in-Ok.ensures.known progress went done stands.knows) (c.in_ok-calls-in-Ok.ensures.calls went done))
    (c.in_ok-calls-in-Ok.ensures.put progress went told done here)

pub returns-in-Err-NotCovered-clause-turn : goal.returns-in-Err-NotCovered-clause-turn
returns-in-Err-NotCovered-clause-turn g c progress told stands =
    let explorer = c.args.self.now in
    let u = g.W.Lines.written c.args.lines.now in
    let f = g.W.Lines.faults c.args.lines.now in
    let v = g.W.Lines.written c.run.new.lines in
    let h = g.W.Lines.faults c.run.new.lines in
    let plan = c.args.pending.now.plan in
    let known = c.args.known.now in
    let none : ¬ (IsCovered explorer.program.now.tree explorer.test.now.tree explorer.fuel known.store plan) =
    subst (λ why. GivesDerived explorer.program.now.tree explorer.test.now.tree explorer.fuel known.store plan (Err why)) c.in-Err-NotCovered.field-0-is c.in-Err-NotCovered.ensures.derived in
    subst (λ n. IsTurn (GoesOnWith explorer progress plan c.run.new.known) explorer progress plan told c.run.result u f v h n c.run.new.evals) c.derive.ensures.still
    (c.run.ensures.turn progress told (not_covered explorer progress plan known stands.knows c.covered_is_found.ensures none) stands)
