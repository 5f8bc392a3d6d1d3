use Rattle.std.proofs.Common.{rules}
use Rattle.fb_job.specs.Commands.{fmt_app}
use Rattle.fb_job.proofs.command.fmt_command.Goals as goal

pub returns : goal.returns
unfolding fmt_app
returns c = search rules
