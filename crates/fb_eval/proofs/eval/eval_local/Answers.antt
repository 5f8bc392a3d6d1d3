use Rattle.std.proofs.Common.{◌∙◌, ap}
use Rattle.std.specs.BTreeMap.{get}
use Rattle.fb_index.specs.Entry.{entry_cmp}
use Rattle.fb_transport.specs.Sources.{source_by_entry}
use Rattle.fb_transport.specs.declared.scripted.Scripted.{Scripted}
use Rattle.fb_eval.proofs.Evaluated.{method_by_script}
use Rattle.fb_eval.proofs.eval.eval_local.Goals as goal

pub returns-clause-means : goal.returns-clause-means
returns-clause-means g c =
    method_by_script (λ (script : Scripted). source_by_entry (get entry_cmp script.replies)) c.args.script.now c.replace.result c.args.program.now.tree c.of_method-body.result.program.now.tree
    c.args.fuel.now c.record-result.new.fuel c.args.method c.args.args.now c.of_method-body.result.index c.record-result.result
    c.replace.ensures.value (ap (λ program. program.tree) c.of_method-body.ensures.program) (c.of_method-body.ensures.index ∙ c.root.ensures) c.record-result.ensures.means
