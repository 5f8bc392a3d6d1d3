use Rattle.std.proofs.Common.{rules}
use Rattle.fb_job.specs.Commands.{trial_app}
use Rattle.fb_job.proofs.command.trial_command.Goals as goal

pub returns : goal.returns
unfolding trial_app
returns c = search rules
