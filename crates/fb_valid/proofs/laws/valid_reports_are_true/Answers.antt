use Rattle.fb_valid.proofs.ValidReports.{valid_reports_are_true}
use Rattle.fb_valid.proofs.laws.valid_reports_are_true.Goals as goal

pub returns : goal.returns
returns c =
    valid_reports_are_true c.spelled_is_run.ensures.run c.spelled_is_run.ensures.one c.our_runs_are_lawful.ensures c.valid_reports_are_true.ensures
    c.lines_tell_plans.ensures.truth
