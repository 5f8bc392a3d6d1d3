use Rattle.std.proofs.Common.{◌≡◌, length}
use Rattle.fb_graph.specs.Chain.{AreRanksUpTo}
use Rattle.fb_graph.proofs.graph.CallGraph.ranks.Given as goal

abbrev pub invariant-loop : goal.invariant-loop
invariant-loop l = (length l.ranks ≡ length l.self) × AreRanksUpTo l.counter l.self l.ranks
