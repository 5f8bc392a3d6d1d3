use Rattle.std.proofs.Common.{None}
use Rattle.fb_index.proofs.Ends.{last_or_push}
use Rattle.fb_index.proofs.plan.Plan.last.Goals as goal

pub returns-in-Some : goal.returns-in-Some
returns-in-Some c = rw (← c.self.view_is, c.in-Some.ensures) (last_or_push None c.in-Some.field-0-0.now _)
