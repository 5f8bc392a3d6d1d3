use Rattle.fb_campaign.proofs.ExampleRun.{lawful, chosen, plans_are, plans_met, report_is}
use Rattle.fb_campaign.proofs.example.a_campaign_is_known.Goals as goal

pub returns : goal.returns
returns c = record { lawful = lawful; choices = chosen; plans = plans_are; met = plans_met; report = report_is }
