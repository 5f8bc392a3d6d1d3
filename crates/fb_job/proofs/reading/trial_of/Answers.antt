use Rattle.clap.specs.Words.{app_of}
use Rattle.fb_job.proofs.Commands.{trial_is_simple}
use Rattle.fb_job.proofs.reading.trial_of.Goals as goal

pub matches_of-requires : goal.matches_of-requires
matches_of-requires c = trial_is_simple (app_of c.in_ok-trial_command.field-0) c.in_ok-trial_command.ensures
