use Rattle.std.proofs.Common.{◌≡◌, ℕ, ◌<◌, length, slice_index}
use Rattle.fb_graph.specs.Graph.{callees}
use Rattle.fb_graph.specs.Chain.{IsJustAbove}
use Rattle.fb_graph.proofs.graph.CallGraph.deeper.Given as goal

abbrev pub invariant-loop-method : goal.invariant-loop-method
invariant-loop-method l =
    (length l.deeper ≡ l.method) × ((m : ℕ) → m < l.method → IsJustAbove l.ranks (callees l.self m) (slice_index l.deeper m))
