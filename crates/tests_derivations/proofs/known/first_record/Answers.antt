use Rattle.std.proofs.Common.{sym, ap, ◌∙◌, subst}
use Rattle.fb_meaning.specs.DecisionLaws.{IsTrueOnce}
use Rattle.fb_stitch.specs.Sources.{AreTrueOf}
use Rattle.fb_tree.specs.Records.{records_in}
use Rattle.fb_tree.specs.Runs.{Ran}
use Rattle.fb_tree.specs.ViewEquations.{view_ran}
use Rattle.fb_tree.specs.Views.{view_calls, view_how, view_node}
use Rattle.tests_derivations.proofs.TrueRecords.{of_first}
use Rattle.tests_derivations.proofs.known.first_record.Goals as goal

pub returns-in-Ok : goal.returns-in-Ok
returns-in-Ok c =
    subst (IsTrueOnce c.args.program.now.tree) (sym c.in-Ok.ensures)
    (of_first (IsTrueOnce c.args.program.now.tree) c.as_slice.result.now c.made-item.result (view_node c.deref.result.now) c.in-len1-up.len_at_least c.made-item.is
    (ap view_how c.in-Ran.is ∙ view_ran c.in-Ran.node ∙ ap (λ node. Ran (view_node node)) (sym c.deref.ensures))
    (subst (λ calls. AreTrueOf c.args.program.now.tree (records_in (view_calls calls))) (sym c.as_slice.ensures.value) c.requires))
