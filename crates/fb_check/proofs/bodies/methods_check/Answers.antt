use Rattle.fb_syntax.specs.Views.{view_method}
use Rattle.fb_syntax.specs.Kept.{KeepsMethod}
use Rattle.fb_check.proofs.Items.{holds_at}
use Rattle.fb_check.proofs.bodies.methods_check.Goals as goal

pub method_check-requires : goal.method_check-requires
method_check-requires c =
    (holds_at KeepsMethod view_method c.args.methods.now c.loop-method.method-index c.method-item.result c.requires.kept c.loop-method-test.true c.method-item.is).body.counted
