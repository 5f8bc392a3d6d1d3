use Rattle.fb_syntax.proofs.FileKept.{services_kept, test_kept}
use Rattle.fb_syntax.proofs.laws.parsed_trees_keep_the_limits.Goals as goal

pub returns-clause-services : goal.returns-clause-services
returns-clause-services c = services_kept

pub returns-clause-test : goal.returns-clause-test
returns-clause-test c = test_kept
