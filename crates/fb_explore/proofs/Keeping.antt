-- What holds of all lines that are kept holds with one more.
use Rattle.std.proofs.Common.{List, [], ◌∷◌, ◌++◌}
use Rattle.std.specs.List.{All}
use Rattle.std.proofs.lemmas.List.Elements.{All-append, All-cons, All-nil}
use Rattle.fb_report.specs.declared.line.Line.{Line}
use Rattle.fb_report.specs.Ranges.{IsInRange}

pub all_and_one : (lines : List Line) (line : Line) → All IsInRange lines → IsInRange line → All IsInRange (lines ++ line ∷ [])
all_and_one lines line each last = All-append IsInRange lines (line ∷ []) each (All-cons IsInRange line [] last (All-nil IsInRange))
