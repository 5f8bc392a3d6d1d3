use Rattle.fb_tally.proofs.Tallies.{ends_by}
use Rattle.fb_tally.proofs.laws.ends_are_tallied.Goals as goal

pub returns : goal.returns
returns c = ends_by
