use Rattle.fb_campaign.proofs.Waiting.{come_next, parent_numbered}
use Rattle.fb_campaign.proofs.laws.waiting_plans_come_next.Goals as goal

pub returns : goal.returns
returns c = record { next = come_next; parents = parent_numbered }
