use Rattle.fb_functest.proofs.Covering.{covered_is_found}
use Rattle.fb_functest.proofs.laws.covered_is_found.Goals as goal

pub returns : goal.returns
returns c = covered_is_found
