use Rattle.fb_graph.proofs.Chains.{ranks-fall}
use Rattle.fb_graph.proofs.laws.ranks_fall.Goals as goal

pub returns : goal.returns
returns c = ranks-fall
