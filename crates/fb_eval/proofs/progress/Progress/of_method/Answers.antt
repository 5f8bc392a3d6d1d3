use Rattle.std.proofs.Common.{sym, subst, map}
use Rattle.fb_syntax.specs.Views.{view_param, view_method}
use Rattle.fb_check.specs.Accepted.{AllDiffer}
use Rattle.fb_eval.proofs.progress.Progress.of_method.Goals as goal

pub of_parameters-requires : goal.of_parameters-requires
of_parameters-requires c =
    let program = c.args.program.now in
    subst (λ params. AllDiffer (map (λ param. param.name) (map view_param params))) (sym c.as_slice-params.ensures.value)
    (c.parameters_differ.ensures program.tree program.accepted c.args.method.0 (view_method c.method_tree.result.now) c.method_tree.ensures)
