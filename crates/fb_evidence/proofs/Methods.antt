-- Each call of a run has a callee among the services' methods.
use Rattle.std.proofs.Common.{◌≡◌, ℕ, ◌<◌, Option, List, [], ◌∷◌, ◌++◌, length, sym, subst}
use Rattle.std.specs.Prelude.{All, IsNone}
use Rattle.std.proofs.lemmas.List.{length-map}
use Rattle.std.proofs.lemmas.List.Elements.{All-append, All-cons, All-map, All-nil}
use Rattle.std.proofs.lemmas.Option.{slice_get_within}
use Rattle.fb_index.specs.Entry.{Occurrence}
use Rattle.fb_index.specs.declared.fault.Fault.{Fault}
use Rattle.fb_syntax.specs.Trees.{MethodTree, ServicesTree, TestTree}
use Rattle.fb_check.specs.FirstRefusal.{first_refusal, first_refusal_of_test}
use Rattle.fb_check.specs.Programs.{callee_at, kinds_given, methods_of, test_callee_at}
use Rattle.fb_tree.specs.Calls.{PlacedCall, call_at, calls_below, calls_of, calls_within, visit_of, visits_of}
use Rattle.fb_tree.specs.Runs.{CallList, NoCalls, AndCall, How, Faulted, Ran, Known, Invocation, TestRun}
use Rattle.fb_tree.specs.declared.asked.Asked.{Asked}
use Rattle.fb_transport.specs.Sources.{plan_source}
use Rattle.fb_meaning.specs.Evaluations.{Done}
use Rattle.fb_meaning.specs.Kinds.{CallsFit, FitsBelow, IsFittingCall, PlansGiveKinds, TestsKeepKinds}
use Rattle.fb_meaning.specs.Runs.{run_of}
use Rattle.fb_evidence.specs.SpelledTrees.{HasMethod}

module _ (services : ServicesTree) where
  abbrev HasCallee : PlacedCall → Type 0
  HasCallee call = HasMethod services (visit_of call)

  callee_within : (callee_of : ℕ → Option ℕ) (asked : Asked) → IsFittingCall services callee_of asked → asked.callee.0 < length (kinds_given services)
  callee_within callee_of asked fits =
      let low = slice_get_within (methods_of services) asked.callee.0 fits.callee fits.there in
      subst (λ n. asked.callee.0 < n) (sym (length-map (methods_of services) (λ (method : MethodTree). method.gives))) low

  mutual
    unfolding CallsFit calls_within

    within_calls : (callee_of : ℕ → Option ℕ) (index : List Occurrence) (calls : CallList) → CallsFit services callee_of calls → All HasCallee (calls_within index calls)
    within_calls callee_of index NoCalls fit = All-nil HasCallee
    within_calls callee_of index (AndCall before asked how) fit =
        let at = index ++ asked.entry ∷ [] in
        All-append HasCallee (calls_within index before) (call_at at asked how ∷ calls_below at how)
        (within_calls callee_of index before fit.0)
        (All-cons HasCallee (call_at at asked how) (calls_below at how) (callee_within callee_of asked fit.1) (within_below at how fit.2))

    within_below : (index : List Occurrence) (how : How) → FitsBelow services how → All HasCallee (calls_below index how)
    within_below index Faulted fits = All-nil HasCallee
    within_below index (Ran (Invocation method args calls reply steps)) fits = within_calls (callee_at services method.0) index calls fits.1
    within_below index (Known steps injected) fits = All-nil HasCallee

-- of accepted services and tests
pub visits_have_methods : (services : ServicesTree) (test : TestTree) → IsNone (first_refusal services) → IsNone (first_refusal_of_test services test)
    → TestsKeepKinds → PlansGiveKinds → (fuel : ℕ) (plan : List Fault) (run : TestRun) (left : ℕ) → run_of services test fuel plan ≡ Done run left
    → All (HasMethod services) (visits_of run)
visits_have_methods services test accepted accepted_test keep give fuel plan run left done =
    All-map (HasMethod services) visit_of (calls_of run)
    (within_calls services (test_callee_at services test) [] run.calls
    (keep services test (plan_source (kinds_given services) plan) accepted accepted_test (give services plan) fuel run left done))
