use Rattle.fb_graph.proofs.Tested.{chains-tested}
use Rattle.fb_graph.proofs.laws.chains_are_tested.Goals as goal

pub returns : goal.returns
returns c = chains-tested
