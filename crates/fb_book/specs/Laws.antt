-- What the book of the lines so far tells of a further line and of all of them.
use Rattle.std.specs.Prelude.{◌≡◌, ℕ, Bool, Option, Some, None, List, [], ◌∷◌, ◌++◌, length}
use Rattle.fb_base.specs.declared.reply.Reply.{Reply}
use Rattle.fb_index.specs.Entry.{Occurrence}
use Rattle.fb_index.specs.declared.fault.Fault.{Fault}
use Rattle.fb_syntax.specs.Trees.{ServicesTree, TestTree}
use Rattle.fb_tree.specs.Calls.{visits_of}
use Rattle.fb_tree.specs.declared.visit.Visit.{Visit}
use Rattle.fb_campaign.specs.Runs.{Choices, Gives, AreChoices}
use Rattle.fb_meaning.specs.Each.{HoldsOfEach}
use Rattle.fb_meaning.specs.Records.{IsTrueRecord}
use Rattle.fb_report.specs.declared.line.Line.{Line}
use Rattle.fb_functest.specs.PlanLines.{PlanLine, plan_line_in}
use Rattle.fb_valid.specs.Lines.{records_told}
use Rattle.fb_valid.specs.Rules.{OfPlan, HasParent, IsExtended}
use Rattle.fb_valid.specs.Trees.{plan_below, IsSpelled}
use Rattle.fb_valid.specs.Valid.{OfEachLine}
use Rattle.fb_valid.specs.Verdict.{LacksLine}
use Rattle.fb_book.specs.declared.missing.Missing.{Missing}
use Rattle.fb_book.specs.Books.{BookOf, with_row}
use Rattle.fb_book.specs.Kept.{IsBookOf}

-- a plan line that names this parent, adds this fault and is run or not
pub record Tells (line : PlanLine) (parent : Option ℕ) (fault : Option (List Occurrence × Reply)) (run : Bool) : Type 0 where
  pub parent_is : line.parent ≡ parent
  pub fault_is : line.fault ≡ fault
  pub run_is : line.run ≡ run

-- the plan of such a line where it has a parent above it, none where it has none
abbrev pub AnswersParent : BookOf → Choices → Option ℕ → Option (List Occurrence × Reply) → Bool → Option (List Fault) → Type 0
AnswersParent book choices parent fault run (Some plan) =
    (services : ServicesTree) (test : TestTree) (fuel : ℕ) (lines : List Line) (line : PlanLine) → IsBookOf services test choices fuel lines book →
    Tells line parent fault run → HasParent services test choices fuel lines line × (plan_below lines line ≡ Some plan)
AnswersParent book choices parent fault run None =
    (services : ServicesTree) (test : TestTree) (fuel : ℕ) (lines : List Line) (line : PlanLine) → IsBookOf services test choices fuel lines book →
    Tells line parent fault run → ¬ (HasParent services test choices fuel lines line)

-- the second book is that of such a line more, which stands at this place, has this plan and spells a run with these calls
abbrev pub AddsLine : BookOf → BookOf → Choices → ℕ → List Fault → Option ℕ → Option (List Occurrence × Reply) → List Visit → Type 0
AddsLine book next choices at plan parent fault visits =
    (services : ServicesTree) (test : TestTree) (fuel : ℕ) (lines : List Line) (line : Line) (tells : PlanLine) → IsBookOf services test choices fuel lines book →
    plan_line_in line ≡ Some tells → tells.parent ≡ parent → tells.fault ≡ fault →
    HasParent services test choices fuel lines tells → plan_below lines tells ≡ Some plan →
    (tree : IsSpelled services test fuel lines tells) → visits_of tree.run ≡ visits → HoldsOfEach (IsTrueRecord services fuel) (records_told services lines) →
    at ≡ length lines → IsBookOf services test choices fuel (lines ++ line ∷ []) next

-- where choices differ, a row more makes it so
abbrev pub BooksGrow : Type 0
BooksGrow =
    (gives : Gives) (choices : Choices) → AreChoices gives choices →
    (book : BookOf) (at : ℕ) (plan : List Fault) (parent : Option ℕ) (fault : Option (List Occurrence × Reply)) (visits : List Visit) →
    AddsLine book (with_row book choices at plan parent fault visits) choices at plan parent fault visits

-- a line of another sort leaves the book as it is
abbrev pub OtherLinesChangeNoBook : Type 0
OtherLinesChangeNoBook =
    (services : ServicesTree) (test : TestTree) (choices : Choices) (fuel : ℕ) (lines : List Line) (line : Line) (book : BookOf) →
    plan_line_in line ≡ None → IsBookOf services test choices fuel lines book → IsBookOf services test choices fuel (lines ++ line ∷ []) book

-- the first extension without a line, none where each has one
abbrev pub AnswersMissing : BookOf → Choices → Option Missing → Type 0
AnswersMissing book choices None =
    (services : ServicesTree) (test : TestTree) (fuel : ℕ) (lines : List Line) → IsBookOf services test choices fuel lines book →
    OfEachLine (OfPlan (IsExtended services test choices fuel lines)) lines
AnswersMissing book choices (Some missing) =
    (services : ServicesTree) (test : TestTree) (fuel : ℕ) (lines : List Line) → IsBookOf services test choices fuel lines book →
    (above : List Line) × (line : Line) × LacksLine services test choices fuel lines above line (missing.index, missing.reply) × (length above ≡ missing.at)
