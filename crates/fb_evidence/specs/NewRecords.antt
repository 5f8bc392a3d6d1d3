-- The records of inv lines, one by one.
use Rattle.std.specs.Prelude.{◌≡◌, ℕ, Bool, true, false, List, [], ◌∷◌, ◌++◌, Contains, Option, Some, None}
use Rattle.fb_syntax.specs.Trees.{ServicesTree}
use Rattle.fb_tree.specs.declared.recorded.Record.{Record}
use Rattle.fb_meaning.specs.Records.{IsTrueRecord}
use Rattle.fb_report.specs.declared.line.Line.{Line}
use Rattle.fb_report.specs.declared.named.NamedRecord.{NamedRecord}
use Rattle.fb_report.specs.Names.{record_named}
use Rattle.fb_valid.specs.Lines.{made_in, records_told}
use Rattle.fb_valid.specs.Rules.{IsNewRecord}
use Rattle.fb_evidence.specs.Deciding.{Decides}

-- the record by the numbers of its methods, which is true; none exactly where there is no such
abbrev pub IsJudged : ServicesTree → ℕ → NamedRecord → Option Record → Type 0
IsJudged services fuel made (Some item) = (record_named services made ≡ Some item) × IsTrueRecord services fuel item
IsJudged services fuel made None = (item : Record) → record_named services made ≡ Some item → ¬ (IsTrueRecord services fuel item)

-- it comes last where it is new
abbrev pub AddsIfNew : Record → List Record → List Record → Bool → Type 0
AddsIfNew item old new true = (¬ (Contains old item)) × (new ≡ old ++ item ∷ [])
AddsIfNew item old new false = Contains old item × (new ≡ old)

-- the answer is whether the record of a line below any lines that tell the known ones keeps the rule on records
abbrev pub TellsNew : ServicesTree → ℕ → NamedRecord → List Record → Bool → Type 0
TellsNew services fuel made known answer =
    (above : List Line) → records_told services above ≡ known → Decides (IsNewRecord services fuel above made) answer

-- a true record is known too, as the lines tell with its own line below them
pub record IsTaken (services : ServicesTree) (fuel : ℕ) (made : NamedRecord) (old new : List Record) : Type 0 where
  pub item : Record
  pub by_numbers : record_named services made ≡ Some item
  pub is_true : IsTrueRecord services fuel item
  pub added : new ≡ old ++ item ∷ []
  pub told : (above : List Line) (line : Line) → records_told services above ≡ old → made_in line ≡ Some made →
      records_told services (above ++ line ∷ []) ≡ new

-- and else none is added
abbrev pub TakesRecord : ServicesTree → ℕ → NamedRecord → List Record → List Record → Bool → Type 0
TakesRecord services fuel made old new true = IsTaken services fuel made old new
TakesRecord services fuel made old new false = new ≡ old
