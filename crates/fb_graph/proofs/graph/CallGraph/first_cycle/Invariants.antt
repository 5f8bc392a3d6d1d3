use Rattle.std.proofs.Common.{ℕ, ◌<◌}
use Rattle.fb_graph.specs.Cycle.{IsOnNoCycle}
use Rattle.fb_graph.proofs.graph.CallGraph.first_cycle.Given as goal

abbrev pub invariant-loop-method : goal.invariant-loop-method
invariant-loop-method l = (m : ℕ) → m < l.method → IsOnNoCycle l.self m
