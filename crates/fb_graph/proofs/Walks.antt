-- Walks stay within the graph and on its levels, and are put in order.
use Rattle.std.proofs.Common.{ℕ, ◌<◌, ◌≤◌, ◌≡◌, List, [], ◌∷◌, length, slice_index, inl, inr, refl, arith}
use Rattle.std.proofs.lemmas.Bool.{cases_lt}
use Rattle.std.specs.List.{All}
use Rattle.std.specs.Cmp.{nat_cmp_is}
use Rattle.std.specs.declared.cmp.Ordering.TheVariants.{Less, Equal}
use Rattle.std.proofs.lemmas.List.Elements.{All-nil, All-cons}
use Rattle.fb_graph.specs.Graph.{Graph}
use Rattle.fb_graph.specs.Walk.{IsWalk, IsNotAfter}
use Rattle.fb_graph.specs.Cycle.{IsOnNoCycle}
use Rattle.fb_graph.specs.Levels.{NeverRise, AllBelow}
use Rattle.fb_graph.proofs.Graphs.{caller-within}

pub walk-within : (graph : Graph) (m : ℕ) (through : List ℕ) (end : ℕ) → IsWalk graph m through end → m < length graph
walk-within graph m [] end walk = caller-within graph m end walk
walk-within graph m (n ∷ through) end (calls, walk) = caller-within graph m n calls

pub through-within : (graph : Graph) (m : ℕ) (through : List ℕ) (end : ℕ) → IsWalk graph m through end →
    All (λ n. n < length graph) through
through-within graph m [] end walk = All-nil (λ n. n < length graph)
through-within graph m (n ∷ through) end (calls, walk) =
    All-cons (λ n. n < length graph) n through (walk-within graph n through end walk) (through-within graph n through end walk)

module _ (graph : Graph) (levels : List ℕ) (never : NeverRise graph levels) where
  walk-falls : (m : ℕ) (through : List ℕ) (end : ℕ) → IsWalk graph m through end → slice_index levels end ≤ slice_index levels m
  walk-falls m [] end walk = never m end walk
  walk-falls m (n ∷ through) end (calls, walk) = omega (arith, never m n calls, walk-falls n through end walk)

  pub no-cycle-above : (m : ℕ) → AllBelow graph levels m → IsOnNoCycle graph m
  no-cycle-above m below [] cycle = absurd (omega (arith, below m cycle))
  no-cycle-above m below (n ∷ through) (calls, walk) = absurd (omega (arith, below n calls, walk-falls n through m walk))

pub no-cycle-beyond : (graph : Graph) (m : ℕ) → length graph ≤ m → IsOnNoCycle graph m
no-cycle-beyond graph m beyond through cycle = absurd (omega (arith, walk-within graph m through m cycle))

pub nothing-before : (those : List ℕ) → IsNotAfter [] those
nothing-before [] = refl
nothing-before (n ∷ those) = refl

-- by the first method, and where that is the same by the others
pub not-after : (m n : ℕ) (these those : List ℕ) → m ≤ n → (m ≡ n → IsNotAfter these those) → IsNotAfter (m ∷ these) (n ∷ those)
not-after m n these those le level =
    elim (cases_lt m n) [
      | inl lower ↦ rw (← nat_cmp_is m n Less lower) refl
      | inr ge ↦ let same : m ≡ n = omega arith in rw (← nat_cmp_is m n Equal same) (level same)
    ]
