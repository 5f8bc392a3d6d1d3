use Rattle.fb_valid.proofs.ValidReports.{valid_runs_are_few}
use Rattle.fb_valid.proofs.laws.valid_runs_are_few.Goals as goal

pub returns : goal.returns
returns c = valid_runs_are_few c.spelled_is_run.ensures.run c.spelled_is_run.ensures.one c.our_runs_are_lawful.ensures c.runs_are_few.ensures.valid
