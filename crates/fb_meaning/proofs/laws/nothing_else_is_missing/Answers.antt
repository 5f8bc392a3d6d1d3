use Rattle.fb_meaning.proofs.Lacking.{methods_miss_nothing, tests_miss_nothing, plans_lack_nothing}
use Rattle.fb_meaning.proofs.laws.nothing_else_is_missing.Goals as goal

pub returns-clause-method : goal.returns-clause-method
returns-clause-method c = methods_miss_nothing

pub returns-clause-test : goal.returns-clause-test
returns-clause-test c = tests_miss_nothing

pub returns-clause-plans : goal.returns-clause-plans
returns-clause-plans c = plans_lack_nothing
