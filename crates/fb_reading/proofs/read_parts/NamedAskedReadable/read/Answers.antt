use Rattle.std.proofs.Common.{◌≡◌, sym, ap, ◌∙◌, subst}
use Rattle.serde_json.specs.View.{view, members_view}
use Rattle.serde_json.proofs.Views.{view-Object}
use Rattle.fb_report.specs.Ranges.{IsProperCall}
use Rattle.fb_report.specs.Trees.{call_tree}
use Rattle.fb_reading.specs.declared.readable.Misfit.TheVariants.{Shape}
use Rattle.fb_reading.specs.Refusals.{OrMemory, call_refused}
use Rattle.fb_reading.specs.Shapes.{IsTree}
use Rattle.fb_reading.proofs.Readings.{no-call}
use Rattle.fb_reading.proofs.read_parts.NamedAskedReadable.read.Goals as goal

pub returns-in-Err-clause-refused : goal.returns-in-Err-clause-refused
returns-in-Err-clause-refused c is tree =
    let shape : c.misfit_of.result ≡ Shape = cc in
    no-call (members_view c.in-Object.members.entries) c.in-Err.error (subst (λ es. OrMemory (call_refused (members_view es)) c.in-Err.error) c.iter.ensures.rest c.in-Err.ensures.refused)
    (sym c.misfit_of.ensures ∙ shape) (subst (IsTree IsProperCall call_tree) (ap view c.in-Object.is ∙ view-Object c.in-Object.members) tree)
