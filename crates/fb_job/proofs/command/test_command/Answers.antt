use Rattle.std.proofs.Common.{rules}
use Rattle.fb_job.specs.Commands.{test_app}
use Rattle.fb_job.proofs.command.test_command.Goals as goal

pub returns : goal.returns
unfolding test_app
returns c = search rules
