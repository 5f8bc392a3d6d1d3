use Rattle.std.proofs.Common.{◌∙◌}
use Rattle.fb_syntax.specs.Views.{view_stmt}
use Rattle.fb_check.specs.Counts.{together}
use Rattle.fb_meaning.specs.Positions.{statement_counts}
use Rattle.fb_eval.proofs.Places.{statement_there}
use Rattle.fb_eval.proofs.walk.behind_statement.Goals as goal

pub returns : goal.returns
unfolding statement_counts
returns c =
    let there = statement_there c.args.counts.now c.args.at (view_stmt c.args.stmt.now) c.place.result _ c.requires c.place.ensures in
    c.plus.ensures ∙ (λ i. together c.args.at (there i))
