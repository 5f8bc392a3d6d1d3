-- Campaigns: the report of a list of plans, gone through in order.
use Rattle.std.specs.Prelude.{◌≡◌, ℕ, ◌+◌, ◌-◌, ◌&&◌, nat_lt, nat_le, Bool, true, false, Option, Some, None, List, [], ◌∷◌, ◌++◌, map, filter_map, length, take, position, if◌then◌else◌}
use Rattle.std.specs.Cmp.Lexicographic.{pointwise}
use Rattle.std.specs.List.{list_any, list_all}
use Rattle.fb_base.specs.Replies.{same_reply}
use Rattle.fb_index.specs.Index.{same_index}
use Rattle.fb_index.specs.declared.fault.Fault.{Fault}
use Rattle.fb_tree.specs.Sameness.{same_record}
use Rattle.fb_tree.specs.declared.recorded.Record.{Record}
use Rattle.fb_campaign.specs.Runs.{Went, Runs}
use Rattle.fb_campaign.specs.Reports.{Cause, Completed, FuelSpent, BudgetSpent, Line, RecordLine, PlanLine, EndLine, Totals, plan_lines, records_in, totals_of}

pub record Settings : Type 0 where
  pub fuel : ℕ
  -- how many plans may be run of those that count
  pub budget : ℕ
  -- whether plans are pruned
  pub reduction : Bool
  -- whether a plan counts against the budget where it is run
  pub counts : List Fault → Bool

abbrev pub same_fault : Fault → Fault → Bool
same_fault a b = same_index a.index b.index && same_reply a.reply b.reply

abbrev pub same_plan : List Fault → List Fault → Bool
same_plan = pointwise same_fault

abbrev pub is_among : List Record → Record → Bool
is_among known item = list_any (same_record item) known

-- each record of a run is one of these
abbrev pub is_covered : List Record → Went → Bool
is_covered known went = list_all (is_among known) went.records

-- the records that aren't known yet, each once
abbrev pub new_records : List Record → List Record → List Record
new_records known [] = []
new_records known (item ∷ items) =
    if is_among known item then new_records known items else item ∷ new_records (known ++ item ∷ []) items

-- the number of each record
abbrev pub uses_of : List Record → List Record → List ℕ
uses_of known records = filter_map (λ item. position (same_record item) known) records

-- without the last fault
abbrev pub shorter : List Fault → List Fault
shorter plan = take (length plan - 1) plan

-- the number of the line whose plan it extends
abbrev pub parent_in : List Line → List Fault → Option ℕ
parent_in lines [] = None
parent_in lines (fault ∷ faults) = position (λ line. same_plan line.plan (shorter (fault ∷ faults))) (plan_lines lines)

-- the lines so far, and how many plans were counted
pub record Progress : Type 0 where
  pub lines : List Line
  pub counted : ℕ

abbrev pub plan_line : Bool → List Line → List Fault → Went → Line
plan_line is_run above plan went = PlanLine (record {
  plan = plan;
  parent = parent_in above plan;
  is_run = is_run;
  uses = uses_of (records_in above) went.records;
  visits = went.visits;
  records = went.records;
  outcome = went.outcome;
})

-- a pruned plan has a line alone
abbrev pub prune : Progress → List Fault → Went → Progress
prune progress plan went = record {
  lines = progress.lines ++ plan_line false progress.lines plan went ∷ [];
  counted = progress.counted;
}

-- the records that it adds, each owned by its line, which comes next
abbrev pub new_lines : List Line → Went → List Line
new_lines lines went =
    map (λ item. RecordLine (record { item = item; owner = length (plan_lines lines) })) (new_records (records_in lines) went.records)

abbrev pub with_records : List Line → Went → List Line
with_records lines went = lines ++ new_lines lines went

-- a plan that is run adds its new records, and then has a line
abbrev pub run : Settings → Progress → List Fault → Went → Progress
run settings progress plan went = record {
  lines = with_records progress.lines went ++ plan_line true (with_records progress.lines went) plan went ∷ [];
  counted = progress.counted + (if settings.counts plan then 1 else 0);
}

-- what a plan's turn comes to
pub data Turn : Type 0 where
  GoesOn : Progress → Turn
  Stops : Cause → Turn

-- the first plan is always run
abbrev pub is_pruned : Settings → Progress → Went → Bool
is_pruned settings progress went =
    settings.reduction && nat_lt 0 (length (plan_lines progress.lines)) && is_covered (records_in progress.lines) went

-- no plan that counts is run after the budget
abbrev pub within_budget : Settings → Progress → List Fault → Turn → Turn
within_budget settings progress plan turn =
    if settings.counts plan && nat_le settings.budget progress.counted then Stops (BudgetSpent plan) else turn

abbrev pub turn_of : Settings → Progress → List Fault → Option Went → Turn
turn_of settings progress plan None = within_budget settings progress plan (Stops (FuelSpent plan))
turn_of settings progress plan (Some went) =
    if is_pruned settings progress went then GoesOn (prune progress plan went)
    else within_budget settings progress plan (GoesOn (run settings progress plan went))

abbrev pub ended : Progress → Cause → List Line
ended progress cause = progress.lines ++ EndLine cause (totals_of progress.lines) ∷ []

-- the lines after a turn, with what is left to do where it goes on
abbrev pub after_turn : Progress → (Progress → List Line) → Turn → List Line
after_turn progress rest (GoesOn next) = rest next
after_turn progress rest (Stops cause) = ended progress cause

unfoldable pub campaign_from : Settings → Runs → List (List Fault) → Progress → List Line
campaign_from settings runs [] progress = ended progress Completed
campaign_from settings runs (plan ∷ plans) progress =
    after_turn progress (campaign_from settings runs plans) (turn_of settings progress plan (runs settings.fuel plan))

-- the report of a list of plans
abbrev pub campaign : Settings → Runs → List (List Fault) → List Line
campaign settings runs plans = campaign_from settings runs plans (record { lines = []; counted = 0 })

-- it went through all its plans
abbrev pub IsCompleted : List Line → Type 0
IsCompleted lines = (body : List Line) × (totals : Totals) × (lines ≡ body ++ EndLine Completed totals ∷ [])
