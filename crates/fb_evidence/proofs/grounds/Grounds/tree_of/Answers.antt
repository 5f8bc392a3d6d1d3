use Rattle.std.proofs.Common.{IsNone, None, subst}
use Rattle.fb_check.specs.FirstRefusal.{first_refusal_of_test}
use Rattle.fb_evidence.proofs.SpelledRuns.{calls_have_methods, gives_spelled, none_covered, tells_tree_of, true_once}
use Rattle.fb_evidence.proofs.grounds.Grounds.tree_of.Goals as goal

pub derive-requires-clause-known : goal.derive-requires-clause-known
derive-requires-clause-known g c = true_once c.args.self.now.program.now.tree c.args.fuel c.args.store.now c.requires.known

pub returns-in-Ok-clause-spelled : goal.returns-in-Ok-clause-spelled
returns-in-Ok-clause-spelled g c =
    gives_spelled c.args.self.now.program.now.tree c.args.self.now.test.now.tree c.args.fuel c.args.store.now c.args.plan.now c.args.uses.now c.requires.known
    c.spelled_is_run.ensures.run c.proper.ensures.different c.in-Ok.derived c.in-Ok.ensures.derived c.spelled_by-spelled.result c.spelled_by-spelled.ensures

pub returns-in-Ok-clause-line : goal.returns-in-Ok-clause-line
returns-in-Ok-clause-line g c =
    let services = c.args.self.now.program.now.tree in
    let test = c.args.self.now.test.now.tree in
    tells_tree_of services test c.args.fuel c.args.store.now c.args.plan.now c.args.uses.now c.requires.known c.spelled_is_run.ensures.one c.spelled_by-spelled.result
    (gives_spelled services test c.args.fuel c.args.store.now c.args.plan.now c.args.uses.now c.requires.known
    c.spelled_is_run.ensures.run c.proper.ensures.different c.in-Ok.derived c.in-Ok.ensures.derived c.spelled_by-spelled.result c.spelled_by-spelled.ensures)

pub returns-in-Ok-clause-callees : goal.returns-in-Ok-clause-callees
returns-in-Ok-clause-callees g c =
    let services = c.args.self.now.program.now.tree in
    calls_have_methods services c.args.self.now.test.now.tree c.args.fuel c.args.store.now c.args.plan.now c.args.uses.now c.requires.known
    c.args.self.now.program.now.accepted (subst (λ s. IsNone (first_refusal_of_test s c.args.self.now.test.now.tree)) c.requires.made c.args.self.now.test.now.accepted)
    c.kinds_are_kept.ensures.tests c.kinds_are_kept.ensures.plans c.in-Ok.derived c.in-Ok.ensures.derived c.spelled_by-spelled.result c.spelled_by-spelled.ensures

pub returns-in-Err-NotCovered-clause-spelled : goal.returns-in-Err-NotCovered-clause-spelled
returns-in-Err-NotCovered-clause-spelled g c =
    none_covered c.args.self.now.program.now.tree c.args.self.now.test.now.tree c.args.fuel c.args.store.now c.args.plan.now c.args.uses.now c.requires.known
    c.spelled_is_run.ensures.run c.covered_is_spelled.ensures (rw c.in-Err-NotCovered.field-0-is at c.in-Err-NotCovered.ensures.derived)

pub returns-in-Err-NotCovered-clause-line : goal.returns-in-Err-NotCovered-clause-line
returns-in-Err-NotCovered-clause-line g c =
    let services = c.args.self.now.program.now.tree in
    let test = c.args.self.now.test.now.tree in
    tells_tree_of services test c.args.fuel c.args.store.now c.args.plan.now c.args.uses.now c.requires.known c.spelled_is_run.ensures.one None
    (none_covered services test c.args.fuel c.args.store.now c.args.plan.now c.args.uses.now c.requires.known
    c.spelled_is_run.ensures.run c.covered_is_spelled.ensures (rw c.in-Err-NotCovered.field-0-is at c.in-Err-NotCovered.ensures.derived))
