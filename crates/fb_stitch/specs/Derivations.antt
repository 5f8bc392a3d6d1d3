-- What is derived of a plan's run.
use Rattle.std.specs.Prelude.{◌≡◌, ℕ, List, [], map, filter_map, Contains, Result, Ok, Err}
use Rattle.fb_index.specs.declared.fault.Fault.{Fault}
use Rattle.fb_syntax.specs.Trees.{ServicesTree, TestTree}
use Rattle.fb_tree.specs.Runs.{CallList, TestRun}
use Rattle.fb_tree.specs.Records.{records_in, steps_of_run}
use Rattle.fb_tree.specs.Calls.{calls_within, injection_of, injections_of, visit_of, visits_of}
use Rattle.fb_tree.specs.declared.recorded.Record.{Record}
use Rattle.fb_meaning.specs.CallLaws.{AreDecided}
use Rattle.fb_meaning.specs.DecisionLaws.{ArePartsOf}
use Rattle.fb_meaning.specs.Each.{HoldsOfEach}
use Rattle.fb_meaning.specs.Evaluations.{Done}
use Rattle.fb_meaning.specs.Runs.{run_of, IsCovered}
use Rattle.fb_meaning.specs.Spelling.{AreAt, SpellsRun}
use Rattle.fb_eval.specs.declared.stop.Stop.{Stop}
use Rattle.fb_eval.specs.declared.stop.Stop.TheVariants as stop
use Rattle.fb_stitch.specs.Stitched.{Ground}
use Rattle.fb_stitch.specs.declared.found.Found.{Found}
use Rattle.fb_stitch.specs.declared.derivation.Derived.{Derived}
use Rattle.fb_stitch.specs.declared.derivation.NotDerived.{NotDerived}
use Rattle.fb_stitch.specs.declared.derivation.NotDerived.TheVariants.{NotCovered, Memory}

-- it tells of the plan's run, and its uses spell the run's tree under what it injects
pub record IsDerived (services : ServicesTree) (test : TestTree) (fuel : ℕ) (records : List Record) (plan : List Fault) (derived : Derived) : Type 0 where
  pub run : TestRun
  pub left : ℕ
  pub done : run_of services test fuel plan ≡ Done run left
  pub outcome : derived.outcome ≡ run.outcome
  pub calls : derived.calls ≡ visits_of run
  pub injected : derived.injected ≡ injections_of run
  pub steps : derived.steps ≡ steps_of_run run
  pub spelled : SpellsRun services test fuel records (injections_of run) derived.uses run

-- a derivation, or NotCovered exactly where the records don't cover the plan; want of memory says nothing
abbrev pub GivesDerived : ServicesTree → TestTree → ℕ → List Record → List Fault → Result Derived NotDerived → Type 0
GivesDerived services test fuel records plan (Ok derived) = IsDerived services test fuel records plan derived
GivesDerived services test fuel records plan (Err NotCovered) = ¬ (IsCovered services test fuel records plan)
GivesDerived services test fuel records plan (Err Memory) = Unit {0}

-- there is a derivation only of a plan that the records cover
abbrev pub DerivedIsCovered : Type 0
DerivedIsCovered =
    (services : ServicesTree) (test : TestTree) (fuel : ℕ) (records : List Record) (plan : List Fault) (derived : Derived) →
    IsDerived services test fuel records plan derived → IsCovered services test fuel records plan

-- why nothing is derived where the evaluation of the test stops
abbrev pub not_derived_of : Stop → NotDerived
not_derived_of stop.Spent = NotCovered
not_derived_of stop.Missing = NotCovered
not_derived_of stop.Memory = Memory

-- nothing has been found
pub record IsNothing (found : Found) : Type 0 where
  pub uses : found.uses.items ≡ []
  pub visits : found.visits ≡ []
  pub injected : found.injected ≡ []
  pub steps : found.steps ≡ 0

-- calls of a test, each of whose parts is known, were found with all below them
pub record HasCalls (ground : Ground) (found : Found) (parts : CallList) : Type 0 where
  pub calls : CallList
  pub parts_are : ArePartsOf parts calls
  pub recorded : HoldsOfEach (Contains ground.records) (records_in calls)
  pub decided : AreDecided ground.source [] calls
  pub are_at : AreAt ground.records found.uses.items (records_in calls)
  pub visits : found.visits ≡ map visit_of (calls_within [] calls)

-- the same of what is derived
pub record IsListed (ground : Ground) (parts : CallList) (derived : Derived) : Type 0 where
  pub calls : CallList
  pub parts_are : ArePartsOf parts calls
  pub recorded : HoldsOfEach (Contains ground.records) (records_in calls)
  pub decided : AreDecided ground.source [] calls
  pub are_at : AreAt ground.records derived.uses (records_in calls)
  pub visits : derived.calls ≡ map visit_of (calls_within [] calls)
  pub injected : derived.injected ≡ filter_map injection_of derived.calls
