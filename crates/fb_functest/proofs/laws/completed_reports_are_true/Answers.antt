use Rattle.fb_functest.proofs.Truths.{completed_reports_are_true}
use Rattle.fb_functest.proofs.laws.completed_reports_are_true.Goals as goal

pub returns : goal.returns
returns c = completed_reports_are_true c.our_runs_are_lawful.ensures c.completed_campaigns_are_valid.ensures c.valid_reports_are_true.ensures c.reports_are_read_one_way.ensures.written
