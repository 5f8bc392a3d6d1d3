use Rattle.fb_campaign.proofs.Counts.{valid_few}
use Rattle.fb_campaign.proofs.Budgets.{campaign_few}
use Rattle.fb_campaign.proofs.laws.runs_are_few.Goals as goal

pub returns : goal.returns
returns c = record { valid = valid_few; campaign = campaign_few }
