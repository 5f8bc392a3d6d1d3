-- When a report is true: it speaks of all plans and of whole runs.
use Rattle.std.specs.Prelude.{◌≡◌, ℕ, ◌<◌, ◌≤◌, true, false, Some, List, slice_get, Contains}
use Rattle.fb_index.specs.declared.fault.Fault.{Fault}
use Rattle.fb_tree.specs.declared.recorded.Record.{Record}
use Rattle.fb_campaign.specs.Runs.{Went, Runs, Choices}
use Rattle.fb_campaign.specs.Plans.{IsMet}
use Rattle.fb_campaign.specs.Reports.{Planned, Line, plan_lines, plans_in}

-- exactly one plan line has this plan
pub record HasOneLine (lines : List Line) (plan : List Fault) : Type 0 where
  pub number : ℕ
  pub there : slice_get (plans_in lines) number ≡ Some plan
  pub only : (other : ℕ) → slice_get (plans_in lines) other ≡ Some plan → other ≡ number

-- with this fuel and with more its plan is met, with the outcome that it says
pub record IsMetAsSaid (runs : Runs) (choices : Choices) (fuel : ℕ) (line : Planned) : Type 0 where
  pub met : (more : ℕ) → fuel ≤ more → IsMet runs choices more line.plan
  pub outcome : (more : ℕ) (went : Went) → fuel ≤ more → runs more line.plan ≡ Some went → line.outcome ≡ went.outcome

-- an earlier line is run, and the run of its plan has this record
pub record IsShown (runs : Runs) (fuel : ℕ) (lines : List Line) (number : ℕ) (item : Record) : Type 0 where
  pub place : ℕ
  pub line : Planned
  pub went : Went
  pub earlier : place < number
  pub there : slice_get (plan_lines lines) place ≡ Some line
  pub is_run : line.is_run ≡ true
  pub done : runs fuel line.plan ≡ Some went
  pub shown : Contains went.records item

pub record IsTrueReport (runs : Runs) (choices : Choices) (fuel : ℕ) (lines : List Line) : Type 0 where
  -- a plan that is met with any fuel whatever has exactly one line
  pub one_line : (any : ℕ) (plan : List Fault) → IsMet runs choices any plan → HasOneLine lines plan
  pub met : (line : Planned) → Contains (plan_lines lines) line → IsMetAsSaid runs choices fuel line
  -- a pruned line follows from records of runs of earlier run lines
  pub derived : (number : ℕ) (line : Planned) (went : Went) → slice_get (plan_lines lines) number ≡ Some line →
      line.is_run ≡ false → runs fuel line.plan ≡ Some went → (item : Record) → Contains went.records item →
      IsShown runs fuel lines number item
