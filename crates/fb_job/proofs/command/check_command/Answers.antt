use Rattle.std.proofs.Common.{rules}
use Rattle.fb_job.specs.Commands.{check_app}
use Rattle.fb_job.proofs.command.check_command.Goals as goal

pub returns : goal.returns
unfolding check_app
returns c = search rules
