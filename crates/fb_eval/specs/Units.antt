-- Units of fuel.
use Rattle.std.specs.Prelude.{◌≡◌, ℕ, ◌+◌, ◌<◌, Result, Ok, Err}
use Rattle.fb_eval.specs.declared.stop.Exhausted.{Exhausted}

-- the units that an evaluation is handed at the most
abbrev pub most_units : ℕ
most_units = 1000000

-- so many units are taken where they are there, and else none
abbrev pub TakesUnits : ℕ → ℕ → ℕ → Result (Unit {0}) Exhausted → Type 0
TakesUnits units before after (Ok _) = before ≡ after + units
TakesUnits units before after (Err _) = (before < units) × (after ≡ before)
