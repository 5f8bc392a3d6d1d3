-- What some lines tell, with their places.
use Rattle.std.specs.Prelude.{ℕ, suc, Option, Some, None, List, [], ◌∷◌}
use Rattle.fb_report.specs.declared.line.Line.{Line}

abbrev pub with_told : {A : Type 0} → ℕ → Option A → List (ℕ × A) → List (ℕ × A)
with_told at None rest = rest
with_told at (Some told) rest = (at, told) ∷ rest

-- what is told by each line that tells something, behind the count of lines above it; the first line has this many above it
abbrev pub told_from : {A : Type 0} → (Line → Option A) → ℕ → List Line → List (ℕ × A)
told_from tell at [] = []
told_from tell at (line ∷ lines) = with_told at (tell line) (told_from tell (suc at) lines)
