-- Chains of calls, one below another, and the ranks that they give.
use Rattle.std.specs.Prelude.{◌≡◌, ℕ, zero, suc, ◌⊎◌, ◌+◌, ◌<◌, ◌≤◌, Bool, true, Contains, EachIndex, List, slice_index}
use Rattle.std.specs.List.{list_any}
use Rattle.fb_graph.specs.Graph.{Graph, Calls, callees}

-- so many calls stand one below another under the method
unfoldable pub HasChain : Graph → ℕ → ℕ → Type 0
HasChain graph m zero = Unit {0}
HasChain graph m (suc k) = (n : ℕ) × Calls graph m n × HasChain graph n k

-- the same as a test
unfoldable pub has_chain : Graph → ℕ → ℕ → Bool
has_chain graph m zero = true
has_chain graph m (suc k) = list_any (λ n. has_chain graph n k) (callees graph m)

-- the longest chain of calls below the method has so many
abbrev pub IsRank : Graph → ℕ → ℕ → Type 0
IsRank graph m k = HasChain graph m k × ¬ (HasChain graph m (suc k))

-- the rank where it is below the limit, else the limit
pub record IsRankUpTo (limit : ℕ) (graph : Graph) (m k : ℕ) : Type 0 where
  pub within : k ≤ limit
  pub chain : HasChain graph m k
  pub longest : k < limit → ¬ (HasChain graph m (suc k))

-- each method's rank, where it is below the limit, else the limit
abbrev pub AreRanksUpTo : ℕ → Graph → List ℕ → Type 0
AreRanksUpTo limit graph ranks = EachIndex graph (λ m. IsRankUpTo limit graph m (slice_index ranks m))

-- the least number above those of all callees
pub record IsJustAbove (ranks : List ℕ) (called : List ℕ) (k : ℕ) : Type 0 where
  pub above : (n : ℕ) → Contains called n → slice_index ranks n < k
  pub least : (k ≡ 0) ⊎ ((n : ℕ) × Contains called n × (slice_index ranks n + 1 ≡ k))
