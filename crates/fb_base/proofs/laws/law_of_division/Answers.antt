use Rattle.fb_base.proofs.Division.{divides_toward_zero}
use Rattle.fb_base.proofs.laws.law_of_division.Goals as goal

pub returns : goal.returns
returns c = divides_toward_zero
