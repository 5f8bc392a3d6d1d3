-- How a campaign's lines end, and what is answered.
use Rattle.std.specs.Prelude.{◌≡◌, ◌⊎◌, ℕ, ◌+◌, ◌≤◌, not, Option, Some, None, List, length, position, Result, Ok, Err}
use Rattle.std.specs.List.{last_or, sum_by}
use Rattle.fb_index.specs.declared.fault.Fault.{Fault}
use Rattle.fb_campaign.specs.Reports.{Cause, Completed, FuelSpent, BudgetSpent, Line, EndLine, Totals, plan_lines, run_lines, has_passed, totals_of}
use Rattle.fb_report.specs.declared.totals.Totals.{Totals as Counted}
use Rattle.fb_explore.specs.declared.error.PutError.{PutError}
use Rattle.fb_explore.specs.declared.error.PutError.TheVariants as put
use Rattle.fb_explore.specs.declared.end.ExploreEnd.{ExploreEnd}
use Rattle.fb_explore.specs.declared.end.ExploreEnd.TheVariants as end

abbrev pub end_of : PutError → ExploreEnd
end_of put.Failed = end.LineFault
end_of put.Memory = end.Memory

-- why no further line was put, where one was missing
abbrev pub stop_before_end : {A : Type 0} → Result A ExploreEnd → Option PutError
stop_before_end (Ok done) = None
stop_before_end (Err (end.FuelSpent plan)) = None
stop_before_end (Err (end.BudgetSpent plan)) = None
stop_before_end (Err end.LineFault) = Some put.Failed
stop_before_end (Err end.Memory) = Some put.Memory

-- the totals, and the number of the first plan line that failed
abbrev pub counted : List Line → Counted
counted report = record {
  plans = (totals_of report).plans;
  run = (totals_of report).run;
  pruned = (totals_of report).pruned;
  failed = (totals_of report).failed;
  invs = (totals_of report).records;
  first_failed = position (λ line. not (has_passed line.outcome)) (plan_lines report);
}

-- the last line is an end line with this cause
abbrev pub EndsBy : List Line → Cause → Type 0
EndsBy report cause = (totals : Totals) × (last_or None report ≡ Some (EndLine cause totals))

-- the answer by the last line; a line that couldn't be put and want of memory come before it
abbrev pub IsAnswerTo : List Line → Result Counted ExploreEnd → Type 0
IsAnswerTo report (Ok totals) = EndsBy report Completed × (totals ≡ counted report)
IsAnswerTo report (Err (end.FuelSpent plan)) = EndsBy report (FuelSpent plan)
IsAnswerTo report (Err (end.BudgetSpent plan)) = EndsBy report (BudgetSpent plan)
IsAnswerTo report (Err end.LineFault) = Unit {0}
IsAnswerTo report (Err end.Memory) = Unit {0}

-- ---- steps

-- the numbers in the uses of all run lines
abbrev pub uses_in : List Line → ℕ
uses_in report = sum_by (λ line. length line.uses) (run_lines report)

-- a run was cut off, and before it and in it there were no more than this
abbrev pub HasCutOff : List Line → ℕ → ℕ → ℕ → Type 0
HasCutOff report fuel before after = (plan : List Fault) × EndsBy report (FuelSpent plan) × (after ≤ before + uses_in report + fuel)

-- at most one for each of them, and as many more as there is fuel where a run was cut off or memory was wanting
abbrev pub TicksAtMost : {A : Type 0} → List Line → ℕ → Result A ExploreEnd → ℕ → ℕ → Type 0
TicksAtMost report fuel (Ok done) before after = after ≤ before + uses_in report
TicksAtMost report fuel (Err (end.BudgetSpent plan)) before after = after ≤ before + uses_in report
TicksAtMost report fuel (Err (end.FuelSpent plan)) before after = after ≤ before + uses_in report + fuel
TicksAtMost report fuel (Err end.LineFault) before after = (after ≤ before + uses_in report) ⊎ HasCutOff report fuel before after
TicksAtMost report fuel (Err end.Memory) before after = after ≤ before + uses_in report + fuel
