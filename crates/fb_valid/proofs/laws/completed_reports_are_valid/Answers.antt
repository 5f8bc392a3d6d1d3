use Rattle.fb_valid.proofs.ValidReports.{completed_reports_are_valid}
use Rattle.fb_valid.proofs.laws.completed_reports_are_valid.Goals as goal

pub returns : goal.returns
returns c =
    completed_reports_are_valid c.spelled_is_run.ensures.run c.spelled_is_run.ensures.one c.our_runs_are_lawful.ensures c.completed_campaigns_are_valid.ensures
    c.records_of_runs_are_true.ensures.records c.spelled_is_run.ensures.spelled c.lines_tell_plans.ensures.plans c.reports_are_read_one_way.ensures.written
    c.lookups_join.ensures.methods
