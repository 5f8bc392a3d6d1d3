use Rattle.fb_stitch.proofs.Covering.{derived_is_covered}
use Rattle.fb_stitch.proofs.laws.derived_plans_are_covered.Goals as goal

pub returns : goal.returns
returns c = derived_is_covered c.covered_is_spelled.ensures
