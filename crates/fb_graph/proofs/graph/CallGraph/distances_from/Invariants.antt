use Rattle.std.proofs.Common.{◌+◌, ◌-◌, length}
use Rattle.fb_graph.specs.Distances.{total}
use Rattle.fb_graph.proofs.Searches.{IsSearching}
use Rattle.fb_graph.proofs.graph.CallGraph.distances_from.Given as goal

abbrev pub invariant-loop-taken : goal.invariant-loop-taken
invariant-loop-taken l = IsSearching l.self l.start l.distances.items l.reached.items l.taken

-- each method that is reached once more is known to be nearer
abbrev pub decreases-loop-taken : goal.decreases-loop-taken
decreases-loop-taken l = total l.distances.items + (length l.reached.items - l.taken)
