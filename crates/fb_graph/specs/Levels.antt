-- Numbers that tell methods that are on no cycle.
use Rattle.std.specs.Prelude.{◌≡◌, ◌⊎◌, ℕ, ◌<◌, ◌≤◌, List, [], length, slice_index}
use Rattle.fb_graph.specs.Graph.{Graph, Calls}

-- no call leads to a higher level
abbrev pub NeverRise : Graph → List ℕ → Type 0
NeverRise graph levels = (m n : ℕ) → Calls graph m n → slice_index levels n ≤ slice_index levels m

-- each method has one, or none has
abbrev pub AreLevels : Graph → List ℕ → Type 0
AreLevels graph levels = (length levels ≡ length graph) ⊎ (levels ≡ [])

-- each call of the method leads to a lower level
abbrev pub AllBelow : Graph → List ℕ → ℕ → Type 0
AllBelow graph levels m = (n : ℕ) → Calls graph m n → slice_index levels n < slice_index levels m
