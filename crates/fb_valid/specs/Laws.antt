-- What holds of valid reports.
use Rattle.std.specs.Prelude.{◌≡◌, ℕ, ◌+◌, ◌≤◌, true, Some, IsNone, List, [], ◌∷◌, ◌++◌, All, length}
use Rattle.fb_syntax.specs.Trees.{ServicesTree, TestTree}
use Rattle.fb_check.specs.FirstRefusal.{first_refusal, first_refusal_of_test}
use Rattle.fb_tree.specs.declared.recorded.Record.{Record}
use Rattle.fb_campaign.specs.Campaign.{Settings, IsCompleted}
use Rattle.fb_campaign.specs.Plans.{HaveRecordsOfMet}
use Rattle.fb_campaign.specs.Runs.{Choices, AreChoices}
use Rattle.fb_report.specs.declared.line.Line.{Line}
use Rattle.fb_reading.specs.Answers.{IsLine}
use Rattle.fb_functest.specs.Reading.{IsReadAs, bytes_of}
use Rattle.fb_functest.specs.ReportLaws.{campaign_of}
use Rattle.fb_functest.specs.ReportLines.{lines_of_campaign}
use Rattle.fb_functest.specs.Runs.{runs_of, gives_of}
use Rattle.fb_functest.specs.TrueReports.{IsTrueReport}
use Rattle.fb_valid.specs.Lines.{run_lines, end_below}
use Rattle.fb_valid.specs.Valid.{IsValid}
use Rattle.fb_valid.specs.Verdict.{Rule, BreaksFirst}

-- a valid report is true, whoever made it
abbrev pub ValidReportsAreTrue : Type 0
ValidReportsAreTrue =
    (services : ServicesTree) (test : TestTree) (choices : Choices) → AreChoices (gives_of services) choices →
    (bytes : List ℕ) → IsValid services test choices bytes → IsTrueReport services test choices bytes

-- the bytes of a completed campaign's lines, such as a program has, are a valid report, with reduction and without
abbrev pub CompletedReportsAreValid : Type 0
CompletedReportsAreValid =
    (services : ServicesTree) (test : TestTree) → IsNone (first_refusal services) → IsNone (first_refusal_of_test services test) →
    (choices : Choices) → AreChoices (gives_of services) choices →
    (version : ℕ) (settings : Settings) (lines : List Line) → IsCompleted (campaign_of services test choices settings) →
    lines_of_campaign services version settings (campaign_of services test choices settings) ≡ Some lines → All IsLine lines →
    IsValid services test choices (bytes_of lines)

-- with reduction the run lines of a valid report are at most one more than the different records of all met plans
abbrev pub ValidRunsAreFew : Type 0
ValidRunsAreFew =
    (services : ServicesTree) (test : TestTree) (choices : Choices) → AreChoices (gives_of services) choices →
    (bytes : List ℕ) (valid : IsValid services test choices bytes) → valid.reduction ≡ true →
    (known : List Record) → HaveRecordsOfMet (runs_of services test) choices valid.fuel known → length (run_lines valid.lines) ≤ 1 + length known

-- at most one line is the first that breaks a rule, and it breaks one rule first
abbrev pub OneBreaksFirst : Type 0
OneBreaksFirst =
    (services : ServicesTree) (test : TestTree) (choices : Choices) (bytes : List ℕ) (place other : ℕ) (rule another : Rule) →
    BreaksFirst services test choices bytes place rule → BreaksFirst services test choices bytes other another → (place ≡ other) × (rule ≡ another)

-- none does so in a valid report
abbrev pub ValidBreaksNone : Type 0
ValidBreaksNone =
    (services : ServicesTree) (test : TestTree) (choices : Choices) (bytes : List ℕ) (place : ℕ) (rule : Rule) →
    IsValid services test choices bytes → ¬ (BreaksFirst services test choices bytes place rule)

-- where each line is read and none breaks a rule first, the report can't but be valid
abbrev pub UnbrokenIsValid : Type 0
UnbrokenIsValid =
    (services : ServicesTree) (test : TestTree) (choices : Choices) (bytes : List ℕ) (lines : List Line) → IsReadAs bytes lines →
    ((place : ℕ) (rule : Rule) → ¬ (BreaksFirst services test choices bytes place rule)) → ¬ (¬ (IsValid services test choices bytes))

-- the last line of a valid report has the totals of all its lines
abbrev pub ValidReportsTellTotals : Type 0
ValidReportsTellTotals =
    (services : ServicesTree) (test : TestTree) (choices : Choices) (bytes : List ℕ) (valid : IsValid services test choices bytes) →
    (body : List Line) × (valid.lines ≡ body ++ end_below valid.lines ∷ [])
