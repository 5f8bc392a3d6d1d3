use Rattle.fb_syntax.proofs.FileLocal.{services_refused, test_refused}
use Rattle.fb_syntax.proofs.laws.refusals_are_needed.Goals as goal

pub returns-clause-services : goal.returns-clause-services
returns-clause-services c = services_refused

pub returns-clause-test : goal.returns-clause-test
returns-clause-test c = test_refused
