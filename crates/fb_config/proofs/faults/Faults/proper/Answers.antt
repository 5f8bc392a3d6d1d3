use Rattle.std.proofs.Common.{subst}
use Rattle.fb_config.specs.Fitting.{ChoosesValuesInVersion2}
use Rattle.fb_config.proofs.faults.Faults.proper.Goals as goal

pub returns-clause-values : goal.returns-clause-values
returns-clause-values c = subst ChoosesValuesInVersion2 c.self.view_is c.self.invariant.values
