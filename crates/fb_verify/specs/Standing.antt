-- What a checker has been fed.
use Rattle.std.specs.Prelude.{◌≡◌, ℕ, List, ◌++◌}
use Rattle.fb_syntax.specs.Trees.{ServicesTree, TestTree}
use Rattle.fb_campaign.specs.Runs.{Choices}
use Rattle.fb_report.specs.declared.line.Line.{Line}
use Rattle.fb_valid.specs.Verdict.{Rule, BreaksFirst}
use Rattle.fb_verify.specs.declared.checker.Checker.{Checker}
use Rattle.fb_verify.specs.declared.checker.Fed.{Fed}
use Rattle.fb_verify.specs.declared.checker.Fed.TheVariants as fed
use Rattle.fb_verify.specs.declared.checker.State.{State}
use Rattle.fb_verify.specs.declared.checker.State.TheVariants.{Going, Broken, Failed}
use Rattle.fb_verify.specs.Reading.{HasRead, IsUnbroken, IsBrokenBy}

-- memory was refused
abbrev pub HasFailed : Checker → Type 0
HasFailed checker = checker.state ≡ Failed

module _ (services : ServicesTree) (test : TestTree) (choices : Choices) where
  -- a state in which memory was refused is that of no bytes
  abbrev pub IsStateOf : List ℕ → State → Type 0
  IsStateOf bytes (Going reading) = (lines : List Line) × HasRead services test choices bytes lines reading
  IsStateOf bytes (Broken found) = IsBrokenBy services test choices bytes found
  IsStateOf bytes Failed = ⊥

  -- it has been fed these bytes, however they were cut
  abbrev pub StandsFor : List ℕ → Checker → Type 0
  StandsFor bytes checker = IsStateOf bytes checker.state

  -- whether some whole line of these bytes breaks a rule on lines, so that the first break stands, whatever follows
  abbrev pub IsFed : List ℕ → Fed → Type 0
  IsFed bytes fed.Going = IsUnbroken services test choices bytes
  IsFed bytes fed.Broken = (place : ℕ) × (rule : Rule) × ((more : List ℕ) → BreaksFirst services test choices (bytes ++ more) place rule)
