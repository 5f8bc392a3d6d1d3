-- Which runs are spelled by numbers into a list of records, under a plan.
use Rattle.std.specs.Prelude.{◌≡◌, ◌≤◌, ◌-◌, ◌↔◌, ℕ, ⊤, List, map, slice_get, Some, None}
use Rattle.fb_index.specs.declared.fault.Fault.{Fault}
use Rattle.fb_syntax.specs.Trees.{ServicesTree, TestTree}
use Rattle.fb_tree.specs.Runs.{Invocation, CallList, NoCalls, AndCall, How, Faulted, Ran, Known as KnownHow, TestRun}
use Rattle.fb_tree.specs.Calls.{fault_of, injections_of}
use Rattle.fb_tree.specs.Records.{records_in, steps_of_run}
use Rattle.fb_tree.specs.declared.asked.Asked.{Asked}
use Rattle.fb_tree.specs.declared.recorded.Record.{Record}
use Rattle.fb_meaning.specs.Each.{HoldsOfEach}
use Rattle.fb_meaning.specs.Evaluations.{Done}
use Rattle.fb_meaning.specs.Records.{IsTrueRecord}
use Rattle.fb_meaning.specs.Replays.{IsPartsRun}
use Rattle.fb_meaning.specs.Runs.{run_of, IsCovered}

-- these are the items at those places, one by one
abbrev pub AreAt : {A : Type 0} → List A → List ℕ → List A → Type 0
AreAt all places items = map (slice_get all) places ≡ map Some items

-- each call, also below, has what its subtree has: the method, the arguments and the reply. A fault has the reply that
-- it gave, and no call is known.
unfoldable mutual
  pub AreJoined : CallList → Type 0
  AreJoined NoCalls = ⊤
  AreJoined (AndCall before asked how) = AreJoined before × IsJoined asked how

  pub IsJoined : Asked → How → Type 0
  IsJoined asked Faulted = ⊤
  IsJoined asked (Ran (Invocation method args calls got steps)) = (method ≡ asked.callee) × (args ≡ asked.args) × (got ≡ asked.reply) × AreJoined calls
  IsJoined asked (KnownHow steps injected) = ⊥

-- none of these calls is a fault
abbrev pub NoneFails : CallList → Type 0
NoneFails NoCalls = ⊤
NoneFails (AndCall before asked how) = NoneFails before × (fault_of asked.reply how ≡ None)

pub record SpellsRun (services : ServicesTree) (test : TestTree) (fuel : ℕ) (records : List Record) (plan : List Fault) (uses : List ℕ) (run : TestRun) : Type 0 where
  -- the numbers are the places of its invocations' records
  pub recorded : AreAt records uses (records_in run.calls)
  pub joined : AreJoined run.calls
  -- the test alone, where its calls get the replies of the run, asks for the same, ends alike and takes as many steps
  pub by_parts : IsPartsRun services test fuel run
  pub none_fails : NoneFails run.calls
  pub injected : injections_of run ≡ plan
  pub enough : steps_of_run run ≤ fuel

-- what is spelled by records that are true with this fuel is the run of the plan
abbrev pub SpelledIsRun : Type 0
SpelledIsRun =
    (services : ServicesTree) (test : TestTree) (fuel : ℕ) (records : List Record) (plan : List Fault) (uses : List ℕ) (run : TestRun) →
    HoldsOfEach (IsTrueRecord services fuel) records → SpellsRun services test fuel records plan uses run →
    run_of services test fuel plan ≡ Done run (fuel - steps_of_run run)

-- so these spell at most one run
abbrev pub OneIsSpelled : Type 0
OneIsSpelled =
    (services : ServicesTree) (test : TestTree) (fuel : ℕ) (records : List Record) (plan : List Fault) (uses others : List ℕ) (run other : TestRun) →
    HoldsOfEach (IsTrueRecord services fuel) records →
    SpellsRun services test fuel records plan uses run → SpellsRun services test fuel records plan others other → run ≡ other

-- a run is that of what it injects
abbrev pub RunsAreOfInjections : Type 0
RunsAreOfInjections =
    (services : ServicesTree) (test : TestTree) (fuel : ℕ) (plan : List Fault) (run : TestRun) (left : ℕ) →
    run_of services test fuel plan ≡ Done run left → run_of services test fuel (injections_of run) ≡ Done run left

-- and is spelled so by the places of its records, in any list that has them
abbrev pub RunsAreSpelled : Type 0
RunsAreSpelled =
    (services : ServicesTree) (test : TestTree) (fuel : ℕ) (records : List Record) (plan : List Fault) (uses : List ℕ) (run : TestRun) (left : ℕ) →
    run_of services test fuel plan ≡ Done run left → AreAt records uses (records_in run.calls) →
    SpellsRun services test fuel records (injections_of run) uses run

-- the plan's run is done, and some numbers spell it under what it injects
pub record IsSpelled (services : ServicesTree) (test : TestTree) (fuel : ℕ) (records : List Record) (plan : List Fault) : Type 0 where
  pub run : TestRun
  pub left : ℕ
  pub done : run_of services test fuel plan ≡ Done run left
  pub uses : List ℕ
  pub spelled : SpellsRun services test fuel records (injections_of run) uses run

-- records cover a plan exactly where they spell its run
abbrev pub CoveredIsSpelled : Type 0
CoveredIsSpelled =
    (services : ServicesTree) (test : TestTree) (fuel : ℕ) (records : List Record) (plan : List Fault) →
    IsCovered services test fuel records plan ↔ IsSpelled services test fuel records plan
