use Rattle.std.proofs.Common.{sym, ap, ◌∙◌, subst}
use Rattle.std.specs.Prelude.{IsNone}
use Rattle.fb_check.specs.FirstRefusal.{first_refusal_of_test}
use Rattle.fb_meaning.specs.Meaning.{test_meaning}
use Rattle.fb_transport.specs.Sources.{plan_source}
use Rattle.fb_tree.specs.Views.{view_run}
use Rattle.tests_derivations.proofs.TrueRecords.{run_true}
use Rattle.tests_derivations.proofs.known.run_counted.Goals as goal

pub returns-in-Ok : goal.returns-in-Ok
returns-in-Ok g c =
    let services = c.args.program.now.tree in
    let test = c.args.test.now in
    let accepted_test : IsNone (first_refusal_of_test services test.tree) = subst (λ tree. IsNone (first_refusal_of_test tree test.tree)) c.requires.made test.accepted in
    run_true c.records_of_runs_are_true.ensures.records services test.tree c.args.program.now.accepted accepted_test 1000 c.args.plan (view_run c.in-Ok.run') c.eval_body_test.new.fuel
    (ap (λ kinds. test_meaning services test.tree (plan_source kinds c.args.plan) 1000) (sym c.kinds.ensures)
    ∙ ap (λ source. test_meaning services test.tree source 1000) (sym c.new-transport.ensures)
    ∙ ap (test_meaning services test.tree _) (sym c.of-left.ensures)
    ∙ c.in-Ok.ensures.means)
