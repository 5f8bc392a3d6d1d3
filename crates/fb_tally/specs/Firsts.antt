-- The place of the first line that breaks a rule.
use Rattle.std.specs.Prelude.{◌≡◌, ℕ, Option, Some, None, List, length}
use Rattle.fb_report.specs.declared.line.Line.{Line}
use Rattle.fb_valid.specs.Valid.{OfEachLine}
use Rattle.fb_valid.specs.Verdict.{IsFirstLine}

-- so many lines stand above the first line that breaks the rule; none where each line keeps it
abbrev pub FirstBreakAt : (List Line → Line → Type 0) → List Line → Option ℕ → Type 0
FirstBreakAt Keeps lines None = OfEachLine Keeps lines
FirstBreakAt Keeps lines (Some at) = (above : List Line) × (line : Line) × IsFirstLine Keeps lines above line × (length above ≡ at)
