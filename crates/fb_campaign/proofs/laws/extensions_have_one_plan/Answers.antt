use Rattle.fb_campaign.proofs.Levels.{one_plan}
use Rattle.fb_campaign.proofs.laws.extensions_have_one_plan.Goals as goal

pub returns : goal.returns
returns c = one_plan
