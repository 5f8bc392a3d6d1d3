-- A graph and its calls turned round.
use Rattle.std.specs.Prelude.{◌≡◌, ◌⊎◌, ℕ, ◌<◌, List, Contains, length}
use Rattle.fb_graph.specs.Graph.{Graph, Calls}

-- each call of a method by another, and no other call, turned round
pub record IsReverse (graph reverse : Graph) : Type 0 where
  pub len : length reverse ≡ length graph
  pub only : (m n : ℕ) → Calls reverse n m → Calls graph m n
  pub each : (m n : ℕ) → n < length graph → Calls graph m n → Calls reverse n m

-- the caller became a callee of each of these methods
pub record AddsCaller (called : List ℕ) (caller : ℕ) (before after : Graph) : Type 0 where
  pub len : length after ≡ length before
  pub kept : (m n : ℕ) → Calls before n m → Calls after n m
  pub only : (m n : ℕ) → Calls after n m → Calls before n m ⊎ ((m ≡ caller) × Contains called n)
  pub each : (n : ℕ) → n < length before → Contains called n → Calls after n caller
