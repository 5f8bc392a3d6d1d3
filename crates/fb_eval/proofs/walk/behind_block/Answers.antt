use Rattle.std.proofs.Common.{◌∙◌}
use Rattle.fb_syntax.specs.Views.{view_block}
use Rattle.fb_check.specs.Counts.{together}
use Rattle.fb_meaning.specs.Positions.{block_counts}
use Rattle.fb_eval.proofs.Places.{block_there}
use Rattle.fb_eval.proofs.walk.behind_block.Goals as goal

pub returns : goal.returns
unfolding block_counts
returns c =
    let there = block_there c.args.counts.now c.args.at (view_block c.args.block.now) c.place.result _ c.requires c.place.ensures in
    c.plus.ensures ∙ (λ i. together c.args.at (there i))
