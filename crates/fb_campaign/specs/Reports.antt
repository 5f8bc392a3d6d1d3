-- The lines of a report, as plain data.
use Rattle.std.specs.Prelude.{ℕ, Bool, true, false, not, Option, Some, None, List, map, filter, filter_map, length}
use Rattle.fb_index.specs.declared.fault.Fault.{Fault}
use Rattle.fb_tree.specs.declared.outcome.Outcome.{Outcome}
use Rattle.fb_tree.specs.declared.outcome.Outcome.TheVariants as outcome
use Rattle.fb_tree.specs.declared.recorded.Record.{Record}
use Rattle.fb_tree.specs.declared.visit.Visit.{Visit}

-- a record and the number of the plan line that owns it
pub record Recorded : Type 0 where
  pub item : Record
  pub owner : ℕ

-- what a report says of a plan
pub record Planned : Type 0 where
  pub plan : List Fault
  -- the number of the plan line that it extends by one fault
  pub parent : Option ℕ
  -- else it is pruned: derived from records
  pub is_run : Bool
  -- the numbers of the records of its run, in the order in which they begin
  pub uses : List ℕ
  -- the calls and the records that these spell
  pub visits : List Visit
  pub records : List Record
  pub outcome : Outcome

-- why a report ends, and the plan at which it stopped
pub data Cause : Type 0 where
  Completed : Cause
  FuelSpent : List Fault → Cause
  BudgetSpent : List Fault → Cause

pub record Totals : Type 0 where
  pub plans : ℕ
  pub run : ℕ
  pub pruned : ℕ
  -- the plans whose outcome isn't that the test passed
  pub failed : ℕ
  pub records : ℕ

-- records and plans are each numbered from 0, in the order of their lines
pub data Line : Type 0 where
  RecordLine : Recorded → Line
  PlanLine : Planned → Line
  EndLine : Cause → Totals → Line

abbrev pub record_of_line : Line → Option Recorded
record_of_line (RecordLine line) = Some line
record_of_line (PlanLine line) = None
record_of_line (EndLine cause totals) = None

abbrev pub plan_of_line : Line → Option Planned
plan_of_line (RecordLine line) = None
plan_of_line (PlanLine line) = Some line
plan_of_line (EndLine cause totals) = None

abbrev pub record_lines : List Line → List Recorded
record_lines lines = filter_map record_of_line lines

abbrev pub plan_lines : List Line → List Planned
plan_lines lines = filter_map plan_of_line lines

abbrev pub records_in : List Line → List Record
records_in lines = map (λ line. line.item) (record_lines lines)

abbrev pub plans_in : List Line → List (List Fault)
plans_in lines = map (λ line. line.plan) (plan_lines lines)

abbrev pub run_lines : List Line → List Planned
run_lines lines = filter (λ line. line.is_run) (plan_lines lines)

abbrev pub has_passed : Outcome → Bool
has_passed outcome.Passed = true
has_passed (outcome.AssertFailed number) = false
has_passed (outcome.CallFailed site code) = false
has_passed (outcome.Fault statement) = false

abbrev pub totals_of : List Line → Totals
totals_of lines = record {
  plans = length (plan_lines lines);
  run = length (run_lines lines);
  pruned = length (filter (λ line. not line.is_run) (plan_lines lines));
  failed = length (filter (λ line. not (has_passed line.outcome)) (plan_lines lines));
  records = length (record_lines lines);
}
