-- What a line below a header breaks first, by itself and the lines above it.
use Rattle.std.specs.Prelude.{◌≡◌, ℕ, Option, Some, None, List, [], ◌∷◌, ◌++◌, length}
use Rattle.fb_check.specs.Programs.{kinds_given}
use Rattle.fb_index.specs.declared.fault.Fault.{Fault}
use Rattle.fb_meaning.specs.Each.{HoldsOfEach}
use Rattle.fb_report.specs.declared.line.Line.{Line}
use Rattle.fb_report.specs.declared.line.Line.TheVariants.{Header, Inv, Plan, End}
use Rattle.fb_functest.specs.PlanLines.{PlanLine, plan_line_in}
use Rattle.fb_valid.specs.Rules.{IsInPlace, HasParent}
use Rattle.fb_valid.specs.Trees.{plan_below}
use Rattle.fb_valid.specs.Verdict as verdict
use Rattle.fb_valid.specs.Verdict.{KeepsBelow, IsFirstNot, line_rules}
use Rattle.fb_evidence.specs.SpelledTrees.{IsTreeOf}
use Rattle.fb_evidence.specs.declared.spelling.Spelled.{Spelled}
use Rattle.fb_audit.specs.declared.judge.Judge.{Judge}
use Rattle.fb_audit.specs.declared.known.Known.{Known}
use Rattle.fb_audit.specs.declared.told.Told.{Told}
use Rattle.fb_audit.specs.declared.verdict.Rule.{Rule}
use Rattle.fb_audit.specs.Kept.{Basis, IsKnownOf, choices_of}
use Rattle.fb_audit.specs.Rules.{rule_told}

-- at most so many bodies are evaluated for a line
abbrev pub evals_for : Line → ℕ
evals_for (Header version fuel reduction) = 0
evals_for (Inv id owner made) = 1
evals_for (Plan version id parent fault run uses outcome) = 0
evals_for (End cause plans run pruned failed invs stopped) = 0

abbrev pub basis_of : Judge → Basis
basis_of judge = record { services = judge.grounds.program.now.tree; test = judge.grounds.test.now.tree; faults = judge.faults.now }

-- the test and the choices are of the judge's services
pub record IsOfOneProgram (judge : Judge) : Type 0 where
  pub made : judge.grounds.test.now.services ≡ judge.grounds.program.now.tree
  pub kinds : judge.faults.now.kinds ≡ kinds_given judge.grounds.program.now.tree

abbrev pub plan_told : Told → PlanLine
plan_told told = record { parent = told.parent; fault = told.fault.now; run = told.run; uses = told.uses.now; outcome = told.outcome.now }

module _ (basis : Basis) (version fuel : ℕ) where
  abbrev pub KeepsOne : List Line → Line → verdict.Rule → Type 0
  KeepsOne above line rule = KeepsBelow basis.services basis.test (choices_of basis) version fuel above line rule

  -- it keeps all rules, and then this is kept of it too; or it breaks this rule first
  abbrev pub IsJudged : List Line → Line → Known → Option Rule → Type 0
  IsJudged above line known None = HoldsOfEach (KeepsOne above line) line_rules × IsKnownOf basis fuel (above ++ line ∷ []) known
  IsJudged above line known (Some rule) = IsFirstNot (KeepsOne above line) line_rules (rule_told rule)

  -- it stands in its place below those of which this is kept
  pub record ComesNext (above : List Line) (line : Line) (at : ℕ) (known : Known) : Type 0 where
    pub in_place : IsInPlace version above line
    pub at_is : at ≡ length above
    pub kept : IsKnownOf basis fuel above known

  -- a plan line that tells this does
  pub record PlanComesNext (above : List Line) (line : Line) (at : ℕ) (known : Known) (told : Told) : Type 0 where
    pub comes : ComesNext above line at known
    pub tells : plan_line_in line ≡ Some (plan_told told)

  -- and has this plan
  pub record ChildComesNext (above : List Line) (line : Line) (at : ℕ) (known : Known) (told : Told) (plan : List Fault) : Type 0 where
    pub plan_comes : PlanComesNext above line at known told
    pub parent : HasParent basis.services basis.test (choices_of basis) fuel above (plan_told told)
    pub has_plan : plan_below above (plan_told told) ≡ Some plan

  -- and spells this tree
  pub record TreeComesNext (above : List Line) (line : Line) (at : ℕ) (known : Known) (told : Told) (plan : List Fault) (spelled : Spelled) : Type 0 where
    pub child_comes : ChildComesNext above line at known told plan
    pub tree : IsTreeOf basis.services basis.test fuel plan above (plan_told told) spelled
