-- Ways from call to call.
use Rattle.std.specs.Prelude.{◌≡◌, ℕ, ◌≤◌, List, [], ◌∷◌, length, IsTrue}
use Rattle.std.specs.Ordering.{is_le, nat_cmp}
use Rattle.std.specs.Cmp.Lexicographic.{slice_cmp}
use Rattle.fb_graph.specs.Graph.{Graph, Calls}

-- the first method calls the first of those on the way, each the next, and the last calls the end
abbrev pub IsWalk : Graph → ℕ → List ℕ → ℕ → Type 0
IsWalk graph m [] end = Calls graph m end
IsWalk graph m (n ∷ through) end = Calls graph m n × IsWalk graph n through end

-- the same or earlier in dictionary order
abbrev pub IsNotAfter : List ℕ → List ℕ → Type 0
IsNotAfter these those = IsTrue (is_le (slice_cmp nat_cmp these those))

-- a shortest walk, and the first in dictionary order of those
pub record IsFirstWalk (graph : Graph) (m : ℕ) (through : List ℕ) (end : ℕ) : Type 0 where
  pub walk : IsWalk graph m through end
  pub shortest : (other : List ℕ) → IsWalk graph m other end → length through ≤ length other
  pub first : (other : List ℕ) → IsWalk graph m other end → length other ≡ length through → IsNotAfter through other
