-- A plan's turn in a campaign: the lines that it adds, and what is answered.
use Rattle.std.specs.Prelude.{◌≡◌, ℕ, All, Bool, true, false, Option, Some, None, List, [], ◌∷◌, ◌++◌, drop, length, Result, Ok, Err}
use Rattle.fb_index.specs.Fault.{IsAtCall}
use Rattle.fb_index.specs.declared.fault.Fault.{Fault}
use Rattle.fb_syntax.specs.Trees.{ServicesTree}
use Rattle.fb_tree.specs.declared.outcome.Outcome.{Outcome}
use Rattle.fb_tree.specs.declared.visit.Visit.{Visit}
use Rattle.fb_campaign.specs.Campaign.{Progress, Settings, Turn, GoesOn, Stops, turn_of, run, within_budget, parent_in, plan_line, new_lines as record_lines_for, with_records as with_records_for}
use Rattle.fb_campaign.specs.Reports.{FuelSpent, BudgetSpent, Line as CampaignLine, EndLine, records_in, totals_of}
use Rattle.fb_campaign.specs.Runs.{Went}
use Rattle.fb_functest.specs.ReportLines.{last_fault, lines_below}
use Rattle.fb_functest.specs.Runs.{runs_of}
use Rattle.fb_report.specs.Ranges.{IsOfVersion}
use Rattle.fb_report.specs.declared.line.Cause.{Cause as CauseTold}
use Rattle.fb_report.specs.declared.line.Line.{Line}
use Rattle.fb_report.specs.declared.line.Line.TheVariants.{Plan, End}
use Rattle.fb_report.specs.declared.totals.Totals.{Totals}
use Rattle.fb_worklist.specs.Worklists.{pending_of}
use Rattle.fb_worklist.specs.declared.pending.Pending.{Pending}
use Rattle.fb_explore.specs.declared.end.ExploreEnd.{ExploreEnd}
use Rattle.fb_explore.specs.declared.end.ExploreEnd.TheVariants as end
use Rattle.fb_explore.specs.declared.explorer.Explorer.{Explorer}
use Rattle.fb_explore.specs.declared.known.Known.{Known}
use Rattle.fb_explore.specs.Ends.{stop_before_end, TicksAtMost}
use Rattle.fb_explore.specs.Explored.{settings_of}
use Rattle.fb_explore.specs.Puts.{HavePutLines}
use Rattle.fb_explore.specs.Tallies.{tallied_of}

-- ---- plans that wait

-- each of its faults is at a call, and is of the version of the report
abbrev pub CanBeTold : ℕ → List Fault → Type 0
CanBeTold version plan = All (λ fault. IsAtCall fault × IsOfVersion version fault.reply) plan

-- the number of the line whose plan it extends; the empty plan extends none
abbrev pub parent_by : ℕ → List Fault → Option ℕ
parent_by number [] = None
parent_by number (fault ∷ faults) = Some number

abbrev pub parent_of : Pending → Option ℕ
parent_of pending = parent_by pending.parent pending.plan

-- the line of a plan that has this number
abbrev pub plan_line_of : ℕ → ℕ → Pending → Bool → List ℕ → Outcome → Line
plan_line_of version number pending is_run uses outcome = Plan version number (parent_of pending) (last_fault pending.plan) is_run uses outcome

-- the end line with these totals
abbrev pub end_line_by : CauseTold → Totals → Option (List Fault) → Line
end_line_by why totals stopped = End why totals.plans totals.run totals.pruned totals.failed totals.invs stopped

-- ---- the lines so far

-- the records of these lines, and what their plan lines come to
pub record IsKnownOf (progress : Progress) (known : Known) : Type 0 where
  pub records : records_in progress.lines ≡ known.store
  pub plans : tallied_of progress.lines ≡ known.tally
  pub counted : progress.counted ≡ known.tally.run

-- so much is known of the lines so far, the plan's parent is one of them, and the report has these lines for those that come next
pub record StandsBefore (services : ServicesTree) (version : ℕ) (progress : Progress) (pending : Pending) (known : Known) (more : List CampaignLine) (lines : List Line) : Type 0 where
  pub knows : IsKnownOf progress known
  pub parent : parent_in progress.lines pending.plan ≡ parent_of pending
  pub told : lines_below services version progress.lines more ≡ Some lines

-- ---- turns

-- what a plan that is pruned adds, and what one adds that is run
abbrev pub added_if_pruned : Progress → List Fault → Went → List CampaignLine
added_if_pruned progress plan went = plan_line false progress.lines plan went ∷ []

abbrev pub added_if_run : Progress → List Fault → Went → List CampaignLine
added_if_run progress plan went = record_lines_for progress.lines went ++ plan_line true (with_records_for progress.lines went) plan went ∷ []

-- what a turn adds below the lines so far
abbrev pub added_by : Progress → Turn → List CampaignLine
added_by progress (GoesOn next) = drop (length progress.lines) next.lines
added_by progress (Stops why) = EndLine why (totals_of progress.lines) ∷ []

abbrev pub settings_by : Explorer → Settings
settings_by explorer = settings_of explorer.fuel explorer.budget explorer.reduction

abbrev pub turn_by : Explorer → Progress → List Fault → Turn
turn_by explorer progress plan =
    turn_of (settings_by explorer) progress plan (runs_of explorer.program.now.tree explorer.test.now.tree explorer.fuel plan)

-- the campaign goes on with what is known then, and the plan's run makes these calls
pub record GoesOnWith (explorer : Explorer) (progress : Progress) (plan : List Fault) (known : Known) (calls : List Visit) : Type 0 where
  pub went : Went
  pub done : runs_of explorer.program.now.tree explorer.test.now.tree explorer.fuel plan ≡ Some went
  pub next : Progress
  pub turn : turn_by explorer progress plan ≡ GoesOn next
  pub longer : next.lines ≡ progress.lines ++ added_by progress (GoesOn next)
  pub knows : IsKnownOf next known
  pub calls_are : calls ≡ went.visits

-- a turn is answered as it ends; a line that couldn't be put and want of memory come before its end
abbrev pub AnswersTurn : {A : Type 0} → (A → Type 0) → Explorer → Progress → List Fault → Result A ExploreEnd → Type 0
AnswersTurn Going explorer progress plan (Ok done) = Going done
AnswersTurn Going explorer progress plan (Err (end.FuelSpent stopped)) = turn_by explorer progress plan ≡ Stops (FuelSpent stopped)
AnswersTurn Going explorer progress plan (Err (end.BudgetSpent stopped)) = turn_by explorer progress plan ≡ Stops (BudgetSpent stopped)
AnswersTurn Going explorer progress plan (Err end.LineFault) = Unit {0}
AnswersTurn Going explorer progress plan (Err end.Memory) = Unit {0}

-- the lines of a turn are put, and it is answered as it ends
pub record IsTurn {A : Type 0} (Going : A → Type 0) (explorer : Explorer) (progress : Progress) (plan : List Fault) (lines : List Line) (result : Result A ExploreEnd)
    (written : Option (List ℕ)) (faults : ℕ) (after : Option (List ℕ)) (faults_after ticked ticked_after : ℕ) : Type 0 where
  pub put : HavePutLines lines (stop_before_end result) written faults after faults_after
  pub answer : AnswersTurn Going explorer progress plan result
  pub ticks : TicksAtMost (added_by progress (turn_by explorer progress plan)) explorer.fuel result ticked ticked_after

-- ---- by the way that a turn takes

-- what a plan's run comes to where the plan is run
abbrev pub ran_or_spent : Settings → Progress → List Fault → Option Went → Turn
ran_or_spent settings progress plan None = Stops (FuelSpent plan)
ran_or_spent settings progress plan (Some went) = GoesOn (run settings progress plan went)

-- the turn of a plan that isn't pruned
abbrev pub turn_if_run : Explorer → Progress → List Fault → Turn
turn_if_run explorer progress plan =
    within_budget (settings_by explorer) progress plan
    (ran_or_spent (settings_by explorer) progress plan (runs_of explorer.program.now.tree explorer.test.now.tree explorer.fuel plan))

-- these are the calls of the plan's run
pub record AreCallsOf (explorer : Explorer) (plan : List Fault) (calls : List Visit) : Type 0 where
  pub went : Went
  pub done : runs_of explorer.program.now.tree explorer.test.now.tree explorer.fuel plan ≡ Some went
  pub calls_are : calls ≡ went.visits

-- it stops so, but for a line that couldn't be put and want of memory
abbrev pub StopsBy : {A : Type 0} → ExploreEnd → Result A ExploreEnd → Type 0
StopsBy why (Ok done) = ⊥
StopsBy why (Err end.LineFault) = Unit {0}
StopsBy why (Err end.Memory) = Unit {0}
StopsBy why (Err other) = other ≡ why

-- the campaign goes on, and the plan's extensions wait
pub record GoesOnWaiting (explorer : Explorer) (progress : Progress) (pending : Pending) (before after : List Pending) (number : ℕ) (known : Known) : Type 0 where
  pub calls : List Visit
  pub goes_on : GoesOnWith explorer progress pending.plan known calls
  pub wait : after ≡ before ++ pending_of explorer.faults.now pending.plan number calls
