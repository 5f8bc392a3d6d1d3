use Rattle.fb_syntax.specs.Views.{view_block}
use Rattle.fb_check.proofs.Sums.{body_small}
use Rattle.fb_check.proofs.body_tables.BodyTables.of.Goals as goal

pub add_statements-requires : goal.add_statements-requires
add_statements-requires c = rw c.as_slice.ensures.value (body_small (view_block c.args.body.now) c.requires)
