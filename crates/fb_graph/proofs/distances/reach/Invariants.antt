use Rattle.std.proofs.Common.{take}
use Rattle.fb_graph.specs.Distances.{Reaches}
use Rattle.fb_graph.proofs.distances.reach.Given as goal

abbrev pub invariant-loop-method : goal.invariant-loop-method
invariant-loop-method l =
    Reaches (take l.method-index l.methods) l.distance l.initial.distances.items l.distances.items l.initial.reached.items
    l.reached.items
