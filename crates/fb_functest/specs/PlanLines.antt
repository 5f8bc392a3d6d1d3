-- The plan lines of a report, and the plan of each.
use Rattle.std.specs.Prelude.{ℕ, Bool, Option, Some, None, option_and_then, option_map, List, [], ◌∷◌, ◌++◌, filter_map, fold, slice_get}
use Rattle.fb_base.specs.declared.reply.Reply.{Reply}
use Rattle.fb_index.specs.Entry.{Occurrence}
use Rattle.fb_index.specs.declared.fault.Fault.{Fault}
use Rattle.fb_tree.specs.declared.outcome.Outcome.{Outcome}
use Rattle.fb_report.specs.declared.line.Line.{Line}
use Rattle.fb_report.specs.declared.line.Line.TheVariants.{Header, Inv, Plan, End}

-- what a plan line tells, but for its number, which is its place among the plan lines
pub record PlanLine : Type 0 where
  -- the number of the plan line whose plan it extends
  pub parent : Option ℕ
  -- the fault by which it does
  pub fault : Option (List Occurrence × Reply)
  -- else it is pruned
  pub run : Bool
  pub uses : List ℕ
  pub outcome : Outcome

abbrev pub plan_line_in : Line → Option PlanLine
plan_line_in (Header version fuel reduction) = None
plan_line_in (Inv id owner made) = None
plan_line_in (Plan version id parent fault run uses outcome) =
    Some (record { parent = parent; fault = fault; run = run; uses = uses; outcome = outcome })
plan_line_in (End cause plans run pruned failed invs stopped) = None

abbrev pub plan_lines : List Line → List PlanLine
plan_lines lines = filter_map plan_line_in lines

-- the plan of an earlier line, by the plans of all of them
abbrev pub earlier_plan : List (Option (List Fault)) → ℕ → Option (List Fault)
earlier_plan earlier number = option_and_then (λ plan. plan) (slice_get earlier number)

abbrev pub with_fault : List Fault → List Occurrence × Reply → List Fault
with_fault plan fault = plan ++ record { index = fault.0; reply = fault.1 } ∷ []

-- the plan of the first line is empty; that of another one is its parent's with its fault added
abbrev pub next_plan : List (Option (List Fault)) → PlanLine → Option (List Fault)
next_plan [] line = Some []
next_plan (first ∷ earlier) line =
    option_and_then (λ plan. option_map (with_fault plan) line.fault) (option_and_then (earlier_plan (first ∷ earlier)) line.parent)

abbrev pub with_next_plan : List (Option (List Fault)) → PlanLine → List (Option (List Fault))
with_next_plan earlier line = earlier ++ next_plan earlier line ∷ []

-- the plans of all lines, none for one that has no fault or whose parent isn't an earlier line with a plan
abbrev pub plans_of : List PlanLine → List (Option (List Fault))
plans_of lines = fold with_next_plan [] lines

-- the plan of the plan line with this number
abbrev pub plan_of_line : List Line → ℕ → Option (List Fault)
plan_of_line lines number = earlier_plan (plans_of (plan_lines lines)) number
