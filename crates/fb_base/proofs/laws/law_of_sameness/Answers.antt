use Rattle.fb_base.specs.SameLaws.{same_value-Decides}
use Rattle.fb_base.proofs.laws.law_of_sameness.Goals as goal

pub returns : goal.returns
returns c = same_value-Decides
