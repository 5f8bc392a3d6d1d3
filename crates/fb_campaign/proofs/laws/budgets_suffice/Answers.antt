use Rattle.fb_campaign.proofs.Budgets.{records_suffice, plans_suffice}
use Rattle.fb_campaign.proofs.laws.budgets_suffice.Goals as goal

pub returns : goal.returns
returns c = record { records = records_suffice; plans = plans_suffice }
