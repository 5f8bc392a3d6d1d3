use Rattle.std.proofs.lemmas.List.{length-map}
use Rattle.fb_syntax.specs.Views.{view_method, view_param}
use Rattle.fb_syntax.specs.Kept.{KeepsMethod}
use Rattle.fb_check.proofs.Items.{holds_at}
use Rattle.fb_check.proofs.naming.methods_named.Goals as goal

pub parameters_named-requires : goal.parameters_named-requires
parameters_named-requires c =
    let kept = holds_at KeepsMethod view_method c.args.methods.now c.loop-method.method-index c.method-item.result c.requires.kept c.loop-method-test.true c.method-item.is in
    rw (c.as_slice.ensures.value, ← length-map c.method-item.result.params.items view_param) kept.params_counted
