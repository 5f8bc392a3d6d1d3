use Rattle.fb_check.proofs.AcceptanceLaws.{accepted_from}
use Rattle.fb_check.proofs.LookupLaws.{methods_join, services_join, is_method_at}
use Rattle.fb_check.proofs.laws.lookups_join.Goals as goal

pub returns-clause-methods : goal.returns-clause-methods
returns-clause-methods c tree none = methods_join tree (accepted_from tree none)

pub returns-clause-services : goal.returns-clause-services
returns-clause-services c tree none = services_join tree (accepted_from tree none)

pub returns-clause-trees : goal.returns-clause-trees
returns-clause-trees c = is_method_at
