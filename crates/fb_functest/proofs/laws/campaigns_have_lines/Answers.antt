use Rattle.fb_functest.proofs.LinesHad.{campaigns_have_lines, campaigns_are_in_range}
use Rattle.fb_functest.proofs.laws.campaigns_have_lines.Goals as goal

pub returns-clause-there : goal.returns-clause-there
returns-clause-there c = campaigns_have_lines c.records_of_runs_are_true.ensures.records

pub returns-clause-in_range : goal.returns-clause-in_range
returns-clause-in_range c = campaigns_are_in_range
