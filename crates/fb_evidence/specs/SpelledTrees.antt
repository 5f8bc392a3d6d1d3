-- What is told of the trees that uses spell.
use Rattle.std.specs.Prelude.{◌≡◌, ℕ, ◌<◌, Option, Some, None, IfSome, List, All, length}
use Rattle.fb_index.specs.declared.fault.Fault.{Fault}
use Rattle.fb_syntax.specs.Trees.{ServicesTree, TestTree}
use Rattle.fb_check.specs.Programs.{kinds_given}
use Rattle.fb_tree.specs.Calls.{visits_of}
use Rattle.fb_tree.specs.Runs.{TestRun}
use Rattle.fb_tree.specs.declared.recorded.Record.{Record}
use Rattle.fb_tree.specs.declared.visit.Visit.{Visit}
use Rattle.fb_meaning.specs.Spelling.{SpellsRun}
use Rattle.fb_report.specs.declared.line.Line.{Line}
use Rattle.fb_functest.specs.PlanLines.{PlanLine}
use Rattle.fb_stitch.specs.declared.derivation.Derived.{Derived}
use Rattle.fb_valid.specs.Lines.{records_told}
use Rattle.fb_valid.specs.Trees.{plan_below, IsSpelled}
use Rattle.fb_evidence.specs.declared.spelling.Spelled.{Spelled}

-- the calls and the outcome of a run
abbrev pub TellsRun : Spelled → TestRun → Type 0
TellsRun spelled run = (spelled.calls ≡ visits_of run) × (spelled.outcome ≡ run.outcome)

-- ---- by records

-- the run that these uses spell
pub record SpellsTold (services : ServicesTree) (test : TestTree) (fuel : ℕ) (records : List Record) (plan : List Fault) (uses : List ℕ) (spelled : Spelled) : Type 0 where
  pub run : TestRun
  pub spells : SpellsRun services test fuel records plan uses run
  pub tells : TellsRun spelled run

-- or none exactly where they spell none
abbrev pub GivesSpelled : ServicesTree → TestTree → ℕ → List Record → List Fault → List ℕ → Option Spelled → Type 0
GivesSpelled services test fuel records plan uses (Some spelled) = SpellsTold services test fuel records plan uses spelled
GivesSpelled services test fuel records plan uses None = (run : TestRun) → ¬ (SpellsRun services test fuel records plan uses run)

-- ---- by lines

-- the only tree that the line's uses spell
pub record IsTreeOf (services : ServicesTree) (test : TestTree) (fuel : ℕ) (plan : List Fault) (above : List Line) (line : PlanLine) (spelled : Spelled) : Type 0 where
  pub tree : IsSpelled services test fuel above line
  pub plans : (other : IsSpelled services test fuel above line) → other.plan ≡ plan
  pub tells : (other : IsSpelled services test fuel above line) → TellsRun spelled other.run

-- or none exactly where they spell none
abbrev pub TellsTree : ServicesTree → TestTree → ℕ → List Fault → List Line → PlanLine → Option Spelled → Type 0
TellsTree services test fuel plan above line (Some spelled) = IsTreeOf services test fuel plan above line spelled
TellsTree services test fuel plan above line None = ¬ (IsSpelled services test fuel above line)

-- of any line that has this plan and these uses, below lines that tell these records
abbrev pub TellsTreeOf : ServicesTree → TestTree → ℕ → List Record → List Fault → List ℕ → Option Spelled → Type 0
TellsTreeOf services test fuel records plan uses told =
    (above : List Line) (line : PlanLine) → records_told services above ≡ records → plan_below above line ≡ Some plan → line.uses ≡ uses →
    TellsTree services test fuel plan above line told

-- ---- calls

abbrev pub HasMethod : ServicesTree → Visit → Type 0
HasMethod services visit = visit.callee.0 < length (kinds_given services)

-- each call's callee is one of the services' methods
abbrev pub CallMethods : ServicesTree → Option Spelled → Type 0
CallMethods services told = IfSome told (λ spelled. All (HasMethod services) spelled.calls)

-- ---- of a derivation

-- where it injects the plan and has these uses
pub record IsOfUses (derived : Derived) (plan : List Fault) (uses : List ℕ) : Type 0 where
  pub injected : derived.injected ≡ plan
  pub used : derived.uses ≡ uses

abbrev pub TakesSpelled : Derived → List Fault → List ℕ → Option Spelled → Type 0
TakesSpelled derived plan uses (Some spelled) =
    IsOfUses derived plan uses × (spelled.calls ≡ derived.calls) × (spelled.outcome ≡ derived.outcome)
TakesSpelled derived plan uses None = ¬ (IsOfUses derived plan uses)
