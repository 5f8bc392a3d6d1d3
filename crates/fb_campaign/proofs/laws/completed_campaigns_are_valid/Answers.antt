use Rattle.fb_campaign.proofs.Completion.{completed_valid}
use Rattle.fb_campaign.proofs.laws.completed_campaigns_are_valid.Goals as goal

pub returns : goal.returns
returns c = completed_valid
