use Rattle.fb_syntax.specs.Views.{view_method}
use Rattle.fb_syntax.specs.Kept.{KeepsMethod}
use Rattle.fb_check.proofs.Items.{holds_at}
use Rattle.fb_check.proofs.tables.with_bodies.Goals as goal

pub of-requires : goal.of-requires
of-requires c =
    (holds_at KeepsMethod view_method c.args.methods.now c.loop-method.method-index c.method-item.result c.requires c.loop-method-test.true c.method-item.is).body
