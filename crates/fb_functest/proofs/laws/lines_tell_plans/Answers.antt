use Rattle.fb_functest.proofs.Truths.{plans_are_told, truth_is_told}
use Rattle.fb_functest.proofs.laws.lines_tell_plans.Goals as goal

pub returns-clause-plans : goal.returns-clause-plans
returns-clause-plans c = plans_are_told

pub returns-clause-truth : goal.returns-clause-truth
returns-clause-truth c = truth_is_told
