use Rattle.fb_tally.proofs.Tallies.{tallied_within}
use Rattle.fb_tally.proofs.laws.lines_are_more_than_tallied.Goals as goal

pub returns : goal.returns
returns c = λ version lines. tallied_within lines
