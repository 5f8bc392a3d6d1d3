-- Each call of a run has a callee among the services' methods.
use Rattle.std.proofs.Common.{◌≡◌, ℕ, ◌<◌, Option, Some, List, [], ◌∷◌, ◌++◌, length, refl, ap, subst, arith}
use Rattle.std.specs.Prelude.{All, IsNone}
use Rattle.std.proofs.lemmas.List.{length-map}
use Rattle.std.proofs.lemmas.List.Elements.{All-append, All-cons, All-map, All-nil}
use Rattle.std.proofs.lemmas.Option.{same_Some, slice_get_within}
use Rattle.fb_index.specs.Entry.{Occurrence}
use Rattle.fb_index.specs.declared.fault.Fault.{Fault}
use Rattle.fb_syntax.specs.Trees.{MethodTree, ServicesTree, TestTree}
use Rattle.fb_check.specs.FirstRefusal.{first_refusal, first_refusal_of_test}
use Rattle.fb_check.specs.Programs.{callee_at, kinds_given, methods_of, test_callee_at}
use Rattle.fb_config.specs.declared.choices.ChoiceTable.{ChoiceTable}
use Rattle.fb_tree.specs.Calls.{PlacedCall, calls_within, calls_below, call_at, calls_of, visit_of}
use Rattle.fb_tree.specs.Runs.{CallList, NoCalls, AndCall, How, Faulted, Ran, Known, Invocation, TestRun}
use Rattle.fb_tree.specs.declared.asked.Asked.{Asked}
use Rattle.fb_campaign.specs.Runs.{Went}
use Rattle.fb_transport.specs.Sources.{plan_source}
use Rattle.fb_meaning.specs.Evaluations.{Evaluation, Spent, Missing, Done}
use Rattle.fb_meaning.specs.Kinds.{CallsFit, FitsBelow, IsFittingCall, PlansGiveKinds, TestsKeepKinds}
use Rattle.fb_meaning.specs.Runs.{run_of}
use Rattle.fb_functest.specs.Runs.{runs_of, went_if_done, went_of}
use Rattle.fb_worklist.specs.Worklists.{HasMethod}

module _ (services : ServicesTree) (faults : ChoiceTable) (same : faults.kinds ≡ kinds_given services) where
  -- the call's callee is a method
  abbrev HasCallee : PlacedCall → Type 0
  HasCallee call = HasMethod faults (visit_of call)

  callee_there : (callee_of : ℕ → Option ℕ) (asked : Asked) → IsFittingCall services callee_of asked → asked.callee.0 < length faults.kinds
  callee_there callee_of asked fits =
      let low = slice_get_within (methods_of services) asked.callee.0 fits.callee fits.there in
      let many : length (kinds_given services) ≡ length (methods_of services) = length-map (methods_of services) (λ (method : MethodTree). method.gives) in
      let all : length faults.kinds ≡ length (kinds_given services) = ap length same in
      omega (arith, low, many, all)

  mutual
    unfolding CallsFit calls_within

    there_within : (callee_of : ℕ → Option ℕ) (index : List Occurrence) (calls : CallList) → CallsFit services callee_of calls → All HasCallee (calls_within index calls)
    there_within callee_of index NoCalls fit = All-nil HasCallee
    there_within callee_of index (AndCall before asked how) fit =
        let at = index ++ asked.entry ∷ [] in
        All-append HasCallee (calls_within index before) (call_at at asked how ∷ calls_below at how)
        (there_within callee_of index before fit.0)
        (All-cons HasCallee (call_at at asked how) (calls_below at how) (callee_there callee_of asked fit.1) (there_below at how fit.2))

    there_below : (index : List Occurrence) (how : How) → FitsBelow services how → All HasCallee (calls_below index how)
    there_below index Faulted fits = All-nil HasCallee
    there_below index (Ran (Invocation method args calls reply steps)) fits = there_within (callee_at services method.0) index calls fits.1
    there_below index (Known steps injected) fits = All-nil HasCallee

  visits_there : (run : TestRun) (went : Went) (callee_of : ℕ → Option ℕ) → CallsFit services callee_of run.calls → went_of run ≡ went → All (HasMethod faults) went.visits
  visits_there run went callee_of fit is =
      subst (λ (w : Went). All (HasMethod faults) w.visits) is
      (All-map (HasMethod faults) visit_of (calls_of run) (there_within callee_of [] run.calls fit))

-- as faults have their kinds that are for the services
pub callees_there : (services : ServicesTree) (test : TestTree) → IsNone (first_refusal services) → IsNone (first_refusal_of_test services test)
    → TestsKeepKinds → PlansGiveKinds → (fuel : ℕ) (plan : List Fault) (went : Went) → runs_of services test fuel plan ≡ Some went
    → (faults : ChoiceTable) → faults.kinds ≡ kinds_given services → All (HasMethod faults) went.visits
callees_there services test accepted accepted_test keep give fuel plan went is faults same = by (run_of services test fuel plan) refl is
  where
    by : (evaluated : Evaluation TestRun ℕ) → run_of services test fuel plan ≡ evaluated → went_if_done evaluated ≡ Some went → All (HasMethod faults) went.visits
    by Spent means told = absurd (cc)
    by Missing means told = absurd (cc)
    by (Done run left) means told =
        visits_there services faults same run went (test_callee_at services test)
        (keep services test (plan_source (kinds_given services) plan) accepted accepted_test (give services plan) fuel run left means)
        (same_Some (went_of run) went told)
