use Rattle.fb_base.proofs.ProperLaws.{bounded_weight}
use Rattle.fb_base.proofs.laws.law_of_weights.Goals as goal

pub returns : goal.returns
returns c = bounded_weight
