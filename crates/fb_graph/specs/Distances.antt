-- How many calls lead from a method to others.
use Rattle.std.specs.Prelude.{◌≡◌, ◌⊎◌, ℕ, suc, ◌+◌, ◌^◌, ◌<◌, ◌≤◌, ◌++◌, List, Contains, Option, None, Some, length, slice_index_or, unwrap_or, sum_by}
use Rattle.fb_graph.specs.declared.cycle.Step.{Step}
use Rattle.fb_graph.specs.Graph.{Graph, Calls}

-- the method is known to be so many calls away, or fewer
abbrev pub IsWithin : List (Option ℕ) → ℕ → ℕ → Type 0
IsWithin distances m k = (d : ℕ) × (slice_index_or distances m None ≡ Some d) × (d ≤ k)

-- each method's least number of calls that lead to it from the start
pub record AreDistances (graph : Graph) (start : ℕ) (distances : List (Option ℕ)) : Type 0 where
  pub begin : IsWithin distances start 0
  pub led : (m k : ℕ) → IsWithin distances m k →
      (m ≡ start) ⊎ ((n : ℕ) × (j : ℕ) × Calls graph n m × IsWithin distances n j × (j < k))
  pub spread : (m n k : ℕ) → Calls graph m n → n < length graph → IsWithin distances m k → IsWithin distances n (suc k)

-- the known numbers, and a large one for each that isn't known
abbrev pub total : List (Option ℕ) → ℕ
total distances = sum_by (λ d. unwrap_or d (2 ^ 64)) distances

-- these methods are now known to be so near, and those that were known to be farther are reached once more
pub record Reaches (called : List ℕ) (distance : ℕ) (before after : List (Option ℕ)) (reached now : List ℕ) : Type 0 where
  pub len : length after ≡ length before
  pub kept : (m k : ℕ) → IsWithin before m k → IsWithin after m k
  pub only : (m k : ℕ) → IsWithin after m k → IsWithin before m k ⊎ (Contains called m × (distance ≤ k))
  pub each : (m : ℕ) → m < length before → Contains called m → IsWithin after m distance
  pub grown : (added : List ℕ) × (now ≡ reached ++ added) ×
      ((m : ℕ) → (slice_index_or after m None ≡ slice_index_or before m None) ⊎
      (Contains added m × (slice_index_or after m None ≡ Some distance)))
  pub less : total after + length now ≤ total before + length reached

-- it is nearer, or as near and its number isn't greater
abbrev pub IsNotFarther : Step → Step → Type 0
IsNotFarther this that = (this.distance ≤ that.distance) × (this.distance ≡ that.distance → this.callee ≤ that.callee)

-- the nearest of these methods, of several the one with the least number
pub record IsNearest (distances : List (Option ℕ)) (called : List ℕ) (step : Step) : Type 0 where
  pub among : Contains called step.callee
  pub known : slice_index_or distances step.callee None ≡ Some step.distance
  pub first : (n d : ℕ) → Contains called n → slice_index_or distances n None ≡ Some d →
      IsNotFarther step (record { callee = n; distance = d })

-- of none of these methods a distance is known
abbrev pub AreUnknown : List (Option ℕ) → List ℕ → Type 0
AreUnknown distances called = (n : ℕ) → Contains called n → slice_index_or distances n None ≡ None
