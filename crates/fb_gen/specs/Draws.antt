-- What the draws of a number decide.
use Rattle.std.specs.Prelude.{ℕ, zero, suc, ◌+◌, ◌-◌, ◌*◌, ◌%◌, ◌==◌, Bool, List, [], ◌∷◌, ◌++◌, filter}

-- the state behind so many draws
unfoldable pub state_after : ℕ → ℕ → ℕ
state_after number zero = number % 65537
state_after number (suc draws) = (75 * state_after number draws + 74) % 65537

-- each service but the first has two draws: behind those of the ones before it, its parent's and its handler's
abbrev pub draws_before : ℕ → ℕ
draws_before service = 2 * (service - 2)

-- the service that calls it, one with a lower number
abbrev pub parent_of : ℕ → ℕ → ℕ
parent_of number service = 1 + state_after number (1 + draws_before service) % (service - 1)

-- whether its parent handles its failure
abbrev pub is_handled : ℕ → ℕ → Bool
is_handled number service = (state_after number (2 + draws_before service) % 2) == 0

-- the services from the second one on, so many
unfoldable pub later_services : ℕ → List ℕ
later_services zero = []
later_services (suc count) = later_services count ++ (count + 2) ∷ []
