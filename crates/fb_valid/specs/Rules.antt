-- The rules that a line has to keep, by itself and the lines above it.
use Rattle.std.specs.Prelude.{◌≡◌, ℕ, ◌<◌, true, false, Some, None, List, [], ◌∷◌, ◌++◌, length, slice_get, Contains}
use Rattle.fb_base.specs.declared.reply.Reply.{Reply}
use Rattle.fb_index.specs.Entry.{Occurrence}
use Rattle.fb_index.specs.declared.fault.Fault.{Fault}
use Rattle.fb_syntax.specs.Trees.{ServicesTree, TestTree}
use Rattle.fb_tree.specs.declared.recorded.Record.{Record}
use Rattle.fb_campaign.specs.Runs.{Choices}
use Rattle.fb_meaning.specs.Records.{IsTrueRecord}
use Rattle.fb_report.specs.declared.line.Line.{Line}
use Rattle.fb_report.specs.declared.line.Line.TheVariants.{Header, Inv, Plan, End}
use Rattle.fb_report.specs.declared.named.NamedRecord.{NamedRecord}
use Rattle.fb_report.specs.Names.{record_named}
use Rattle.fb_functest.specs.PlanLines.{PlanLine, plan_line_in, plan_lines, with_fault}
use Rattle.fb_valid.specs.Lines.{owner_in, made_in, owners_told, records_told, is_end, end_below}
use Rattle.fb_valid.specs.Trees.{plan_below, IsSpelled, Extends, HasLine}

-- ---- rules on lines of one sort

abbrev pub OfInv : (List Line → NamedRecord → Type 0) → List Line → Line → Type 0
OfInv Keeps above line = (made : NamedRecord) → made_in line ≡ Some made → Keeps above made

abbrev pub OfPlan : (List Line → PlanLine → Type 0) → List Line → Line → Type 0
OfPlan Keeps above line = (told : PlanLine) → plan_line_in line ≡ Some told → Keeps above told

-- ---- V1: where it stands

-- numbers count the lines of a sort, plan lines have the header's version, and a completed campaign's end line has the
-- totals of the lines above it, of which one is of a plan at least
abbrev pub IsNumbered : ℕ → List Line → Line → Type 0
IsNumbered version above (Header other fuel reduction) = ⊥
IsNumbered version above (Inv id owner made) = id ≡ length (owners_told above)
IsNumbered version above (Plan other id parent fault run uses outcome) = (other ≡ version) × (id ≡ length (plan_lines above))
IsNumbered version above (End cause plans run pruned failed invs stopped) =
    (0 < length (plan_lines above)) × (End cause plans run pruned failed invs stopped ≡ end_below above)

-- no line follows an end line
pub record IsInPlace (version : ℕ) (above : List Line) (line : Line) : Type 0 where
  pub not_behind_end : (other : Line) → Contains above other → is_end other ≡ false
  pub numbered : IsNumbered version above line

-- ---- V2: the record of an inv line

-- the services have its methods, it is true with this fuel, and no inv line above has it
pub record IsNewRecord (services : ServicesTree) (fuel : ℕ) (above : List Line) (made : NamedRecord) : Type 0 where
  pub item : Record
  pub by_numbers : record_named services made ≡ Some item
  pub is_true : IsTrueRecord services fuel item
  pub is_new : ¬ (Contains (records_told services above) item)

-- ---- V3: the parent of a plan line

-- the first one: the empty plan, which is run
pub record IsRoot (line : PlanLine) : Type 0 where
  pub no_parent : line.parent ≡ None
  pub no_fault : line.fault ≡ None
  pub is_run : line.run ≡ true

-- another one: its parent stands above it, and its plan extends the parent's by the calls of the parent's tree
pub record IsChild (services : ServicesTree) (test : TestTree) (choices : Choices) (fuel : ℕ) (above : List Line) (line : PlanLine) : Type 0 where
  pub before : List Line
  pub stands : Line
  pub between : List Line
  pub cut : above ≡ before ++ stands ∷ between
  pub parent : PlanLine
  pub is_parent : plan_line_in stands ≡ Some parent
  pub named : line.parent ≡ Some (length (plan_lines before))
  pub tree : IsSpelled services test fuel before parent
  pub fault : List Occurrence × Reply
  pub has_fault : line.fault ≡ Some fault
  pub extends : Extends choices tree.plan tree.run (with_fault tree.plan fault)

pub record HasParent (services : ServicesTree) (test : TestTree) (choices : Choices) (fuel : ℕ) (above : List Line) (line : PlanLine) : Type 0 where
  pub root : plan_lines above ≡ [] → IsRoot line
  pub child : 0 < length (plan_lines above) → IsChild services test choices fuel above line
  -- no plan line above has its plan
  pub is_new : (plan : List Fault) → plan_below above line ≡ Some plan → ¬ (HasLine above plan)

-- ---- V5: the outcome of a plan line

abbrev pub EndsAsItsTree : ServicesTree → TestTree → ℕ → List Line → PlanLine → Type 0
EndsAsItsTree services test fuel above line = (tree : IsSpelled services test fuel above line) → line.outcome ≡ tree.run.outcome

-- ---- V6: the extensions of a plan line's plan

-- each of them is the plan of a plan line of the report
abbrev pub IsExtended : ServicesTree → TestTree → Choices → ℕ → List Line → List Line → PlanLine → Type 0
IsExtended services test choices fuel lines above line =
    (tree : IsSpelled services test fuel above line) (longer : List Fault) → Extends choices tree.plan tree.run longer → HasLine lines longer

-- ---- V7: the owners of records

-- a pruned line uses only records that plan lines above it own
abbrev pub UsesEarlier : List Line → PlanLine → Type 0
UsesEarlier above line =
    line.run ≡ false → (place owner : ℕ) → Contains line.uses place → slice_get (owners_told above) place ≡ Some owner → owner < length (plan_lines above)

-- the plan line with this number is run and uses this record
pub record IsOwned (lines : List Line) (place owner : ℕ) : Type 0 where
  pub line : PlanLine
  pub there : slice_get (plan_lines lines) owner ≡ Some line
  pub is_run : line.run ≡ true
  pub uses : Contains line.uses place

-- so it is of an inv line's record and the plan line that it names
abbrev pub HasOwner : List Line → List Line → Line → Type 0
HasOwner lines above line = (owner : ℕ) → owner_in line ≡ Some owner → IsOwned lines (length (owners_told above)) owner

-- ---- V8: with reduction

-- a run line behind the first plan line owns a record
abbrev pub OwnsSome : List Line → List Line → PlanLine → Type 0
OwnsSome lines above line = 0 < length (plan_lines above) → line.run ≡ true → Contains (owners_told lines) (length (plan_lines above))
