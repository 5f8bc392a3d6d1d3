use Rattle.fb_check.proofs.AcceptanceLaws.{accepted_exactly, test_accepted_exactly}
use Rattle.fb_check.proofs.laws.acceptance_is_exact.Goals as goal

pub returns-clause-services : goal.returns-clause-services
returns-clause-services c = accepted_exactly c.chains_are_tested.ensures c.chains_end.ensures c.first_cycle_is_first.ensures

pub returns-clause-test : goal.returns-clause-test
returns-clause-test c = test_accepted_exactly
