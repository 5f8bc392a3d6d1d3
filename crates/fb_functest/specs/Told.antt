-- What the plan lines of a report tell of those of a campaign.
use Rattle.std.specs.Prelude.{◌≡◌, ℕ, Bool, Some, List, ◌∷◌, ◌++◌, map}
use Rattle.fb_syntax.specs.Trees.{ServicesTree, TestTree}
use Rattle.fb_campaign.specs.Reports.{Planned, Line as CampaignLine, plan_lines as planned_in}
use Rattle.fb_campaign.specs.Runs.{Choices}
use Rattle.fb_campaign.specs.Truth as campaign
use Rattle.fb_campaign.specs.Valid.{AreParents}
use Rattle.fb_report.specs.declared.line.Line.{Line}
use Rattle.fb_report.specs.declared.line.Line.TheVariants.{Header}
use Rattle.fb_functest.specs.PlanLines.{PlanLine, plan_lines, next_plan, plans_of}
use Rattle.fb_functest.specs.Reading.{IsReadAs}
use Rattle.fb_functest.specs.ReportLines.{last_fault}
use Rattle.fb_functest.specs.Runs.{runs_of}
use Rattle.fb_functest.specs.TrueReports.{IsTrueReport}

-- what the line of a plan tells
abbrev pub told : Planned → PlanLine
told planned = record {
  parent = planned.parent;
  fault = last_fault planned.plan;
  run = planned.is_run;
  uses = planned.uses;
  outcome = planned.outcome;
}

-- by what the plan lines above it tell, the plan of each line is the one that it was made for, where each line extends the plan of its parent
abbrev pub PlansAreTold : Type 0
PlansAreTold =
    (choices : Choices) (report : List CampaignLine) → AreParents choices report → (above : List Planned) (line : Planned) (below : List Planned) →
    planned_in report ≡ above ++ line ∷ below → next_plan (plans_of (map told above)) (told line) ≡ Some line.plan

-- a true report of a campaign's lines is true of the bytes whose plan lines tell the same
abbrev pub TruthIsTold : Type 0
TruthIsTold =
    (services : ServicesTree) (test : TestTree) (choices : Choices) (bytes : List ℕ) (version fuel : ℕ) (reduction : Bool) (lines : List Line) (report : List CampaignLine) →
    IsReadAs bytes (Header version fuel reduction ∷ lines) → AreParents choices report → plan_lines lines ≡ map told (planned_in report) →
    campaign.IsTrueReport (runs_of services test) choices fuel report → IsTrueReport services test choices bytes
