use Rattle.fb_job.proofs.Limits.{KeepsLimits-said}
use Rattle.fb_job.proofs.laws.jobs_keep_their_limits.Goals as goal

pub returns : goal.returns
returns c = KeepsLimits-said
