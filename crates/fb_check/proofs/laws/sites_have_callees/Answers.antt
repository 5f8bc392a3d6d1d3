use Rattle.fb_check.proofs.AcceptanceLaws.{accepted_from, accepted_test_from}
use Rattle.fb_check.proofs.SiteLaws.{callees_exactly, test_callees_exactly}
use Rattle.fb_check.proofs.laws.sites_have_callees.Goals as goal

pub returns-clause-services : goal.returns-clause-services
returns-clause-services c tree none = callees_exactly tree (accepted_from tree none)

pub returns-clause-test : goal.returns-clause-test
returns-clause-test c tree test none none_of_test = test_callees_exactly tree test (accepted_from tree none) (accepted_test_from tree test none none_of_test)
