use Rattle.fb_graph.proofs.Shortest.{IsOnWay}
use Rattle.fb_graph.proofs.graph.CallGraph.cycle_of.Given as goal

abbrev pub invariant-loop-step : goal.invariant-loop-step
invariant-loop-step l = IsOnWay l.self l.method l.distances.items l.through l.step

abbrev pub decreases-loop-step : goal.decreases-loop-step
decreases-loop-step l = l.step.distance
