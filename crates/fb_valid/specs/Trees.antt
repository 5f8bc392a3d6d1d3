-- The plan of a plan line and the tree that its uses spell, by the lines above it.
use Rattle.std.specs.Prelude.{◌≡◌, ℕ, Option, Some, List, Contains}
use Rattle.fb_index.specs.declared.fault.Fault.{Fault}
use Rattle.fb_syntax.specs.Trees.{ServicesTree, TestTree}
use Rattle.fb_tree.specs.Calls.{visits_of}
use Rattle.fb_tree.specs.Runs.{TestRun}
use Rattle.fb_campaign.specs.Plans.{extensions_of}
use Rattle.fb_campaign.specs.Runs.{Choices}
use Rattle.fb_meaning.specs.Spelling.{SpellsRun}
use Rattle.fb_report.specs.declared.line.Line.{Line}
use Rattle.fb_functest.specs.PlanLines.{PlanLine, plan_lines, next_plan, plans_of, plan_of_line}
use Rattle.fb_valid.specs.Lines.{records_told}

-- empty for the first one; that of another one is its parent's with its fault added
abbrev pub plan_below : List Line → PlanLine → Option (List Fault)
plan_below above line = next_plan (plans_of (plan_lines above)) line

-- its uses spell a whole tree under its plan, into the records of the inv lines above it
pub record IsSpelled (services : ServicesTree) (test : TestTree) (fuel : ℕ) (above : List Line) (line : PlanLine) : Type 0 where
  pub plan : List Fault
  pub has_plan : plan_below above line ≡ Some plan
  pub run : TestRun
  pub spells : SpellsRun services test fuel (records_told services above) plan line.uses run

-- the plan with a further fault, by the calls of that tree
abbrev pub Extends : Choices → List Fault → TestRun → List Fault → Type 0
Extends choices plan run longer = Contains (extensions_of choices (visits_of run) plan) longer

-- some plan line has this plan
abbrev pub HasLine : List Line → List Fault → Type 0
HasLine lines plan = (number : ℕ) × (plan_of_line lines number ≡ Some plan)
