use Rattle.fb_functest.proofs.LinesHad.{outcomes_are_counted}
use Rattle.fb_functest.proofs.laws.outcomes_are_counted.Goals as goal

pub returns : goal.returns
returns c = outcomes_are_counted
