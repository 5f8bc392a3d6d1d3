-- What is known once a line or a piece is taken, for private clauses.
use Rattle.std.specs.Prelude.{◌≡◌, ℕ, ◌+◌, ◌≤◌, Option, Some, None, Result, Ok, Err, List, [], ◌∷◌, ◌++◌, length}
use Rattle.fb_syntax.specs.Trees.{ServicesTree, TestTree}
use Rattle.fb_campaign.specs.Runs.{Choices}
use Rattle.fb_report.specs.declared.line.Line.{Line}
use Rattle.fb_report.specs.Lines.{line_feed}
use Rattle.fb_reading.specs.declared.key.LineError.{LineError}
use Rattle.fb_valid.specs.Lines.{owners_told}
use Rattle.fb_valid.specs.Verdict.{line_rules, rule_of, IsFirstNot, Keeps, KeepsAll}
use Rattle.fb_audit.specs.Taken.{Audited}
use Rattle.fb_audit.specs.declared.verdict.Break.{Break}
use Rattle.fb_audit.specs.declared.verdict.Rule.{Rule}
use Rattle.fb_audit.specs.Rules.{rule_told}
use Rattle.fb_audit.specs.Standing.{StandsFor as HasTaken}
use Rattle.fb_verify.specs.declared.reading.Reading.{Reading}
use Rattle.fb_verify.specs.Reading.{HasRead, IsBrokenBy}

-- one for an inv line
abbrev pub invs_in : Result Line LineError → ℕ
invs_in (Ok line) = length (owners_told (line ∷ []))
invs_in (Err why) = 0

-- a line's bytes and its line feed
abbrev pub ended : List ℕ → List ℕ
ended text = text ++ line_feed ∷ []

module _ (services : ServicesTree) (test : TestTree) (choices : Choices) where
  -- a line that was read or not, below these, and the first rule that it breaks
  abbrev pub IsJudged : List Line → Result Line LineError → Option Rule → Audited → Type 0
  IsJudged above (Ok line) None audit = KeepsAll services test choices above line × HasTaken services test choices (above ++ line ∷ []) audit
  IsJudged above (Ok line) (Some rule) audit = IsFirstNot (Keeps services test choices above line) line_rules (rule_told rule)
  IsJudged above (Err why) None audit = ⊥
  IsJudged above (Err why) (Some rule) audit = rule_of why ≡ Some (rule_told rule)

  -- it is read and keeps all rules, or it is the first that breaks one
  abbrev pub IsTaken : List ℕ → List Line → Option Break → Reading → ℕ → ℕ → Type 0
  IsTaken bytes lines None reading before after =
      (line : Line) × HasRead services test choices bytes (lines ++ line ∷ []) reading × (after ≤ before + length (owners_told (line ∷ [])))
  IsTaken bytes lines (Some found) reading before after = IsBrokenBy services test choices bytes found

  -- all lines of the bytes keep the rules on lines, or one is the first that breaks one
  abbrev pub IsFound : List ℕ → Option Break → Reading → Type 0
  IsFound bytes None reading = (lines : List Line) × HasRead services test choices bytes lines reading
  IsFound bytes (Some found) reading = IsBrokenBy services test choices bytes found
