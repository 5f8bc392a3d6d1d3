-- The graph of the calls that services make, and its deep chains.
use Rattle.std.specs.Prelude.{◌≡◌, ◌<◌, ℕ, map, length, slice_index, List, Option, find}
use Rattle.std.specs.List.{filter_map, range_with_len}
use Rattle.fb_graph.specs.Graph.{Graph}
use Rattle.fb_graph.specs.Chain.{has_chain, IsRank}
use Rattle.fb_syntax.specs.Trees.{ServicesTree}
use Rattle.fb_check.specs.Programs.{callees_of}

-- the rank of each method of accepted services is below this
abbrev pub rank_limit : ℕ
rank_limit = 32

-- the callees that there are
abbrev pub known_callees : List (Option ℕ) → List ℕ
known_callees = filter_map (λ callee. callee)

-- for each method the methods that its sites call
abbrev pub graph_of : ServicesTree → Graph
graph_of tree = map known_callees (callees_of tree)

-- the first method with as long a chain of calls below it
abbrev pub first_deep : Graph → Option ℕ
first_deep graph = find (λ m. has_chain graph m rank_limit) (range_with_len 0 (length graph))

-- these are the ranks of the methods, all below the limit
pub record AreRanks (graph : Graph) (ranks : List ℕ) : Type 0 where
  pub count : length ranks ≡ length graph
  pub each : (m : ℕ) → m < length graph → IsRank graph m (slice_index ranks m) × (slice_index ranks m < rank_limit)
