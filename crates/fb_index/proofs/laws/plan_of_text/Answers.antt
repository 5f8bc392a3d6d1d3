use Rattle.fb_index.proofs.Unique.{plan-unique}
use Rattle.fb_index.proofs.laws.plan_of_text.Goals as goal

pub returns : goal.returns
returns c = plan-unique
