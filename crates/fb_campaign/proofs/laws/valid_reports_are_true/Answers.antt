use Rattle.fb_campaign.proofs.Validity.{valid_true}
use Rattle.fb_campaign.proofs.laws.valid_reports_are_true.Goals as goal

pub returns : goal.returns
returns c = valid_true
