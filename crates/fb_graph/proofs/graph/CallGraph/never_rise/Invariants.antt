use Rattle.std.proofs.Common.{ℕ, ◌<◌, ◌≤◌, slice_index}
use Rattle.fb_graph.specs.Graph.{Calls}
use Rattle.fb_graph.proofs.graph.CallGraph.never_rise.Given as goal

abbrev pub invariant-loop-method : goal.invariant-loop-method
invariant-loop-method l =
    (m n : ℕ) → m < l.method → Calls l.self m n → slice_index l.levels n ≤ slice_index l.levels m
