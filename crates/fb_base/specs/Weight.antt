-- Weights of lists.
use Rattle.std.specs.Prelude.{if◌then◌else◌, nat_le, Option, Some, None, ℕ, ◌+◌, ◌<◌, ◌≤◌, List, length, All}
use Rattle.std.specs.List.{sum_by}

-- the most that a value weighs
abbrev pub heaviest : ℕ
heaviest = 65536

-- what a list weighs, by the weight of an item
abbrev pub weight_of_list : {A : Type 0} → (A → ℕ) → List A → ℕ
weight_of_list weight items = 1 + sum_by weight items

-- a list that a value may hold where it isn't the empty one
pub record IsWeighed {A : Type 0} (weight : A → ℕ) (proper : A → Type 0) (items : List A) : Type 0 where
  pub some : 0 < length items
  pub light : weight_of_list weight items ≤ heaviest
  pub each : All proper items

-- the list where it isn't too heavy
abbrev pub light_list : {A : Type 0} → (A → ℕ) → List A → Option (List A)
light_list weight items = if nat_le (weight_of_list weight items) heaviest then Some items else None
