-- What a test tells.
use Rattle.std.specs.Prelude.{Bool, true, false}

-- the fact holds where this is true, and else it doesn't
abbrev pub Decides : Type 0 → Bool → Type 0
Decides P true = P
Decides P false = ¬ P
