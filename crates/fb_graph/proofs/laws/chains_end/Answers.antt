use Rattle.fb_graph.proofs.Chains.{chains-end}
use Rattle.fb_graph.proofs.laws.chains_end.Goals as goal

pub returns : goal.returns
returns c = chains-end
