-- When the bytes of a report are true: they speak of all plans and of whole runs.
use Rattle.std.specs.Prelude.{◌≡◌, ℕ, ◌<◌, ◌≤◌, Bool, true, false, Some, List, ◌∷◌, slice_get, Contains}
use Rattle.fb_index.specs.declared.fault.Fault.{Fault}
use Rattle.fb_syntax.specs.Trees.{ServicesTree, TestTree}
use Rattle.fb_tree.specs.declared.recorded.Record.{Record}
use Rattle.fb_campaign.specs.Runs.{Went, Runs, Choices}
use Rattle.fb_campaign.specs.Plans.{IsMet}
use Rattle.fb_report.specs.declared.line.Line.{Line}
use Rattle.fb_report.specs.declared.line.Line.TheVariants.{Header}
use Rattle.fb_functest.specs.PlanLines.{PlanLine, plan_lines, plan_of_line}
use Rattle.fb_functest.specs.Reading.{IsReadAs}
use Rattle.fb_functest.specs.Runs.{runs_of}

-- exactly one plan line has this plan
pub record HasOneLine (lines : List Line) (plan : List Fault) : Type 0 where
  pub number : ℕ
  pub there : plan_of_line lines number ≡ Some plan
  pub only : (other : ℕ) → plan_of_line lines other ≡ Some plan → other ≡ number

-- the line with this number has a plan, which is met with this fuel and with any more, and its run ends as the line says
pub record IsMetAsSaid (runs : Runs) (choices : Choices) (fuel : ℕ) (lines : List Line) (number : ℕ) (line : PlanLine) : Type 0 where
  pub plan : List Fault
  pub has_plan : plan_of_line lines number ≡ Some plan
  pub met : (more : ℕ) → fuel ≤ more → IsMet runs choices more plan
  pub outcome : (more : ℕ) (went : Went) → fuel ≤ more → runs more plan ≡ Some went → line.outcome ≡ went.outcome

-- the plan of a run line before the one with this number has a run with this record
pub record IsShown (runs : Runs) (fuel : ℕ) (lines : List Line) (number : ℕ) (item : Record) : Type 0 where
  pub place : ℕ
  pub earlier : place < number
  pub line : PlanLine
  pub there : slice_get (plan_lines lines) place ≡ Some line
  pub is_run : line.run ≡ true
  pub plan : List Fault
  pub has_plan : plan_of_line lines place ≡ Some plan
  pub went : Went
  pub done : runs fuel plan ≡ Some went
  pub shown : Contains went.records item

-- the bytes are those of a header, which tells the fuel, and of lines below it, for which all of these hold
pub record IsTrueReport (services : ServicesTree) (test : TestTree) (choices : Choices) (bytes : List ℕ) : Type 0 where
  pub version : ℕ
  pub fuel : ℕ
  pub reduction : Bool
  pub lines : List Line
  pub read : IsReadAs bytes (Header version fuel reduction ∷ lines)
  -- a plan that is met with any fuel whatever is the plan of exactly one plan line
  pub one_line : (any : ℕ) (plan : List Fault) → IsMet (runs_of services test) choices any plan → HasOneLine lines plan
  -- the plan of each plan line is met, and its run ends as the line says
  pub met : (number : ℕ) (line : PlanLine) → slice_get (plan_lines lines) number ≡ Some line →
      IsMetAsSaid (runs_of services test) choices fuel lines number line
  -- each record of the run of a pruned line's plan is one of the run of an earlier run line's plan
  pub derived : (number : ℕ) (line : PlanLine) (plan : List Fault) (went : Went) → slice_get (plan_lines lines) number ≡ Some line →
      line.run ≡ false → plan_of_line lines number ≡ Some plan → runs_of services test fuel plan ≡ Some went →
      (item : Record) → Contains went.records item → IsShown (runs_of services test) fuel lines number item
