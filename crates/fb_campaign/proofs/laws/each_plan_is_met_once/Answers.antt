use Rattle.fb_campaign.proofs.Levels.{planned_or_met, plans_differ, no_level}
use Rattle.fb_campaign.proofs.laws.each_plan_is_met_once.Goals as goal

pub returns : goal.returns
returns c = record { met = planned_or_met; once = plans_differ; ends = no_level }
