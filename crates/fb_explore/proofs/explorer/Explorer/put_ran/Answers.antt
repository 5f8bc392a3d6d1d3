use Rattle.std.proofs.Common.{sym, subst}
use Rattle.std.specs.Prelude.{IsNone}
use Rattle.fb_check.specs.FirstRefusal.{first_refusal_of_test}
use Rattle.fb_stitch.specs.Sources.{AreTrueOf}
use Rattle.fb_explore.proofs.Puts.{stops}
use Rattle.fb_explore.proofs.RanLines.{known_after, outcome_counted, puts_plan, records_true, stops_in_records}
use Rattle.fb_explore.proofs.explorer.Explorer.put_ran.Goals as goal

pub put_records-requires-clause-records : goal.put_records-requires-clause-records
put_records-requires-clause-records g c =
    let services = c.args.self.now.program.now.tree in
    let test = c.args.self.now.test.now in
    let accepted_test : IsNone (first_refusal_of_test services test.tree) = subst (λ tree. IsNone (first_refusal_of_test tree test.tree)) c.requires.made test.accepted in
    subst (AreTrueOf services) (sym c.in_ok-records.ensures)
    (records_true services test.tree c.args.self.now.fuel c.args.pending.now.plan c.args.ran c.requires.ran c.records_of_runs_are_true.ensures.records c.args.self.now.program.now.accepted accepted_test)

pub put_plan-requires-clause-counted : goal.put_plan-requires-clause-counted
put_plan-requires-clause-counted g c =
    outcome_counted c.args.self.now.program.now.tree c.args.self.now.test.now.tree c.args.self.now.fuel c.args.pending.now.plan c.args.ran c.requires.ran c.outcomes_are_counted.ensures

pub returns-in_err-uses-clause-put : goal.returns-in_err-uses-clause-put
returns-in_err-uses-clause-put g c progress told stands =
    stops told c.from_residual-in_err-uses.result _ _ _ _ _ c.from_residual-in_err-uses.ensures.1
    (stops_in_records c.args.self.now.program.now.tree c.args.self.now.faults.now.version progress c.args.pending.now c.args.known.now _ told stands _ _ _ _
    c.plans.result c.in_ok-records.records.items c.plans.ensures c.in_ok-records.ensures _ c.in_err-uses.ensures.put)

pub returns-in_err-put_plan-clause-put : goal.returns-in_err-put_plan-clause-put
returns-in_err-put_plan-clause-put g c progress told stands =
    stops told c.from_residual-in_err-put_plan.result _ _ _ _ _ c.from_residual-in_err-put_plan.ensures.1
    (puts_plan c.args.self.now.program.now.tree c.args.self.now.faults.now.version progress c.args.pending.now c.args.known.now _ told stands _ _ _ _
    c.plans.result c.in_ok-records.records.items c.plans.ensures c.in_ok-records.ensures _ _ _ c.in_ok-uses.uses c.args.ran.outcome c.in_ok-uses.ensures.uses c.requires.ran.outcome
    c.in_ok-uses.ensures.put c.in_err-put_plan.ensures.put)

pub returns-clause-put : goal.returns-clause-put
returns-clause-put g c progress told stands =
    puts_plan c.args.self.now.program.now.tree c.args.self.now.faults.now.version progress c.args.pending.now c.args.known.now _ told stands _ _ _ _
    c.plans.result c.in_ok-records.records.items c.plans.ensures c.in_ok-records.ensures _ _ _ c.in_ok-uses.uses c.args.ran.outcome c.in_ok-uses.ensures.uses c.requires.ran.outcome
    c.in_ok-uses.ensures.put c.in_ok-put_plan.ensures.put

pub returns-clause-known : goal.returns-clause-known
returns-clause-known g c =
    known_after c.args.self.now c.args.pending.now.plan _ c.args.known.now _ c.in_ok-records.records.items c.args.ran.outcome c.in_ok-records.ensures c.requires.ran.outcome
    c.in_ok-uses.ensures.store c.in_ok-put_plan.ensures.tally
