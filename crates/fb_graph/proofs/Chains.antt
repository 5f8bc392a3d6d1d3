-- Chains get shorter, and longer along a call.
use Rattle.std.proofs.Common.{ℕ, zero, suc, ◌<◌, ◌≤◌, List, [], ◌∷◌, length, inl, inr, arith}
use Rattle.std.proofs.lemmas.Bool.{cases_lt}
use Rattle.fb_graph.specs.Graph.{Graph, Calls}
use Rattle.fb_graph.specs.Chain.{HasChain, IsRank}
use Rattle.fb_graph.specs.Walk.{IsWalk}
use Rattle.fb_graph.specs.Cycle.{IsCycle}
use Rattle.fb_graph.proofs.Walks.{walk-within}

pub HasChain-shorter : (graph : Graph) (m j k : ℕ) → j ≤ k → HasChain graph m k → HasChain graph m j
unfolding HasChain
HasChain-shorter graph m zero k le chain = tt
HasChain-shorter graph m (suc j) zero le chain = absurd (omega arith)
HasChain-shorter graph m (suc j) (suc k) le (n, calls, chain) = (n, calls, HasChain-shorter graph n j k (omega arith) chain)

-- what is below the end of a walk is below its start, and one call more
HasChain-ahead : (graph : Graph) (m : ℕ) (through : List ℕ) (end k : ℕ) → IsWalk graph m through end →
    HasChain graph end k → HasChain graph m (suc k)
unfolding HasChain
HasChain-ahead graph m [] end k walk chain = (end, walk, chain)
HasChain-ahead graph m (n ∷ through) end k (calls, walk) chain =
    (n, calls, HasChain-shorter graph n k (suc k) (omega arith) (HasChain-ahead graph n through end k walk chain))

-- a method on a cycle has chains of any length
HasChain-endless : (graph : Graph) (m : ℕ) (through : List ℕ) → IsCycle graph m through → (k : ℕ) → HasChain graph m k
unfolding HasChain
HasChain-endless graph m through cycle zero = tt
HasChain-endless graph m through cycle (suc k) =
    HasChain-ahead graph m through m k cycle (HasChain-endless graph m through cycle k)

pub chains-end : (graph : Graph) (limit : ℕ) → ((m : ℕ) → m < length graph → ¬ (HasChain graph m limit)) →
    (m : ℕ) (through : List ℕ) → ¬ (IsCycle graph m through)
chains-end graph limit none m through cycle =
    none m (walk-within graph m through m cycle) (HasChain-endless graph m through cycle limit)

pub ranks-fall : (graph : Graph) (m n k j : ℕ) → IsRank graph m k → Calls graph m n → IsRank graph n j → j < k
unfolding HasChain
ranks-fall graph m n k j rank calls below =
    elim (cases_lt j k) [
      | inl lower ↦ lower
      | inr le ↦ absurd (rank.1 (n, calls, HasChain-shorter graph n k j le below.0))
    ]
