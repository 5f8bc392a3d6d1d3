-- What all lines of a report come to.
use Rattle.std.specs.Prelude.{◌≡◌, ℕ, Bool, true, Option, Some, None, List, ◌∷◌, length}
use Rattle.fb_syntax.specs.Trees.{ServicesTree, TestTree}
use Rattle.fb_campaign.specs.Runs.{Choices}
use Rattle.fb_report.specs.declared.line.Line.{Line}
use Rattle.fb_report.specs.declared.line.Line.TheVariants.{Header}
use Rattle.fb_functest.specs.PlanLines.{plan_lines}
use Rattle.fb_valid.specs.Lines.{run_lines, pruned_lines, failed_lines, owners_told}
use Rattle.fb_valid.specs.Rules.{OfPlan, IsExtended, HasOwner, OwnsSome}
use Rattle.fb_valid.specs.Valid.{OfEachLine, IsEnded}
use Rattle.fb_valid.specs.Verdict.{BreaksAtEnd}
use Rattle.fb_tally.specs.Firsts.{FirstBreakAt}
use Rattle.fb_tally.specs.declared.tally.Totals.{Totals}
use Rattle.fb_audit.specs.declared.verdict.Conclusion.{Conclusion}
use Rattle.fb_audit.specs.declared.verdict.Conclusion.TheVariants.{Valid, Broken}
use Rattle.fb_audit.specs.Rules.{rule_told}

-- the counts of these lines, by their sorts
abbrev pub totals_of : List Line → Totals
totals_of lines = record {
  plans = length (plan_lines lines);
  run = length (run_lines lines);
  pruned = length (pruned_lines lines);
  failed = length (failed_lines lines);
  records = length (owners_told lines);
}

module _ (services : ServicesTree) (test : TestTree) (choices : Choices) where
  -- the lines below a header are ended, keep the rules on all lines, and have these totals
  pub record IsConcluded (lines : List Line) (totals : Totals) : Type 0 where
    pub version : ℕ
    pub fuel : ℕ
    pub reduction : Bool
    pub below : List Line
    pub header : lines ≡ Header version fuel reduction ∷ below
    pub ended : IsEnded below
    pub owned : OfEachLine (HasOwner below) below
    pub reduced : reduction ≡ true → OfEachLine (OfPlan (OwnsSome below)) below
    pub complete : OfEachLine (OfPlan (IsExtended services test choices fuel below)) below
    pub totals_are : totals ≡ totals_of below

  -- or a rule is broken that is tried behind the last line
  abbrev pub Concludes : List Line → Conclusion → Type 0
  Concludes lines (Valid totals) = IsConcluded lines totals
  Concludes lines (Broken broken) = BreaksAtEnd services test choices lines broken.line (rule_told broken.rule)

-- with reduction, the place of the first run line that owns no record
abbrev pub FirstIdleAt : Bool → List Line → Option ℕ → Type 0
FirstIdleAt reduction lines None = reduction ≡ true → OfEachLine (OfPlan (OwnsSome lines)) lines
FirstIdleAt reduction lines (Some at) = (reduction ≡ true) × FirstBreakAt (OfPlan (OwnsSome lines)) lines (Some at)
