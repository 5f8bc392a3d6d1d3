-- Answers that decide.
use Rattle.std.specs.Prelude.{Bool, true, false}

-- it holds where the answer is true, and doesn't where it is false
abbrev pub Decides : Type 0 → Bool → Type 0
Decides P true = P
Decides P false = ¬ P
