-- The first cycle of a graph, as a function that tries all lengths.
use Rattle.std.specs.Prelude.{ℕ, zero, suc, min, Bool, ◌==◌, Option, List, [], ◌∷◌, length, find, filter, is_some}
use Rattle.std.specs.List.{list_any, range_with_len}
use Rattle.std.specs.Option.{option_map, option_and_then}
use Rattle.fb_graph.specs.declared.cycle.Cycle.{Cycle}
use Rattle.fb_graph.specs.Graph.{Graph, callees}

-- whether some walk from the method to the end goes through so many methods
unfoldable pub reaches : Graph → ℕ → ℕ → ℕ → Bool
reaches graph zero m end = list_any (λ n. n == end) (callees graph m)
reaches graph (suc k) m end = list_any (λ n. reaches graph k n end) (callees graph m)

-- the least of the numbers
unfoldable pub least : List ℕ → ℕ
least [] = 0
least (n ∷ []) = n
least (m ∷ n ∷ ns) = min m (least (n ∷ ns))

-- of those walks the first in dictionary order: each time the least callee from which it goes on
unfoldable pub first_way : Graph → ℕ → ℕ → ℕ → List ℕ
first_way graph zero m end = []
first_way graph (suc k) m end =
    let n = least (filter (λ n. reaches graph k n end) (callees graph m)) in n ∷ first_way graph k n end

-- the shortest cycle of the method, of several the first; no shortest one goes through all methods but one more
unfoldable pub cycle_of : Graph → ℕ → Option Cycle
cycle_of graph m =
    option_map (λ k. record { first = m; through = first_way graph k m m })
    (find (λ k. reaches graph k m m) (range_with_len 0 (length graph)))

-- that of the first method that has one
unfoldable pub first_cycle : Graph → Option Cycle
first_cycle graph =
    option_and_then (cycle_of graph) (find (λ m. is_some (cycle_of graph m)) (range_with_len 0 (length graph)))
