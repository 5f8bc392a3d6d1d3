use Rattle.std.proofs.Common.{rules}
use Rattle.fb_job.specs.Commands.{replay_app}
use Rattle.fb_job.proofs.command.replay_command.Goals as goal

pub returns : goal.returns
unfolding replay_app
returns c = search rules
