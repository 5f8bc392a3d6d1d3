-- What holds of audits.
use Rattle.std.specs.Prelude.{◌≡◌, ℕ, List}
use Rattle.fb_syntax.specs.Trees.{ServicesTree, TestTree}
use Rattle.fb_campaign.specs.Runs.{Choices}
use Rattle.fb_report.specs.declared.line.Line.{Line}
use Rattle.fb_functest.specs.Reading.{IsReadAs}
use Rattle.fb_valid.specs.Valid.{OfEachLine, IsValid}
use Rattle.fb_valid.specs.Verdict.{KeepsAll}
use Rattle.fb_tally.specs.declared.tally.Totals.{Totals}
use Rattle.fb_audit.specs.Concluded.{IsConcluded, totals_of}

-- bytes are a valid report where they are read as lines that keep the rules on lines and those on all lines; the totals are
-- those of its lines
abbrev pub ConcludedLinesAreValid : Type 0
ConcludedLinesAreValid =
    (services : ServicesTree) (test : TestTree) (choices : Choices) (bytes : List ℕ) (lines : List Line) (totals : Totals) →
    IsReadAs bytes lines → OfEachLine (KeepsAll services test choices) lines → IsConcluded services test choices lines totals →
    (valid : IsValid services test choices bytes) × (totals ≡ totals_of valid.lines)
