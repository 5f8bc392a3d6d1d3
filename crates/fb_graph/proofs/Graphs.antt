-- Methods that call.
use Rattle.std.proofs.Common.{ℕ, ◌<◌, ◌≡◌, [], length, inl, inr, ap, arith}
use Rattle.std.proofs.lemmas.Bool.{cases_lt}
use Rattle.std.proofs.lemmas.List.{get_or_past}
use Rattle.fb_graph.specs.Graph.{Graph, Calls, callees}

-- a method that calls is within the graph
pub caller-within : (graph : Graph) (m n : ℕ) → Calls graph m n → m < length graph
caller-within graph m n calls =
    elim (cases_lt m (length graph)) [
      | inl within ↦ within
      | inr past ↦ let none : length (callees graph m) ≡ 0 = ap length (get_or_past graph m [] past) in absurd (omega (arith, calls.1))
    ]
