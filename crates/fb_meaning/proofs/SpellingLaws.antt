-- A run is that of what it injects, and its records spell it.
use Rattle.std.specs.Prelude.{◌≡◌, ℕ, ◌+◌, List, [], ◌∷◌, ◌++◌, Contains, map, slice_get, Option, Some, None}
use Rattle.std.proofs.Common.{refl, ap, ◌∙◌, subst, arith}
use Rattle.std.proofs.lemmas.Option.{slice_get_within, slice_get-get_or, get_or_from_slice_get}
use Rattle.fb_base.specs.declared.kind.Kind.{Kind}
use Rattle.fb_base.specs.declared.reply.Reply.{Reply}
use Rattle.fb_index.specs.Entry.{Occurrence}
use Rattle.fb_index.specs.declared.fault.Fault.{Fault}
use Rattle.fb_syntax.specs.Trees.{ServicesTree, TestTree}
use Rattle.fb_check.specs.Programs.{kinds_given}
use Rattle.fb_tree.specs.Runs.{Invocation, CallList, NoCalls, AndCall, How, Faulted, Ran, Known as KnownHow}
use Rattle.fb_tree.specs.Calls.{PlacedCall, calls_of, injections_of, fault_of}
use Rattle.fb_tree.specs.Records.{records_in, steps_of_run}
use Rattle.fb_tree.specs.declared.asked.Asked.{Asked}
use Rattle.fb_tree.specs.declared.recorded.Record.{Record}
use Rattle.fb_transport.specs.Sources.{Source, plan_source, injected_at, fault_or_forward}
use Rattle.fb_transport.specs.declared.decision.Decision.{Decision}
use Rattle.fb_transport.specs.declared.decision.Decision.TheVariants.{Known}
use Rattle.fb_meaning.specs.CallLaws.{AreDecided, IsDecidedSo}
use Rattle.fb_meaning.specs.Each.{HoldsOfEach}
use Rattle.fb_meaning.specs.RunLaws.{failure_of, IsAnswered}
use Rattle.fb_meaning.specs.Runs.{IsCovered}
use Rattle.fb_meaning.specs.Spelling.{AreAt, AreJoined, IsJoined, NoneFails, RunsAreOfInjections, RunsAreSpelled, IsSpelled, CoveredIsSpelled}
use Rattle.fb_meaning.proofs.CallRecords.{test_decided}
use Rattle.fb_meaning.proofs.Units.{Costs, test_costs}
use Rattle.fb_meaning.proofs.DecisionLaws.{same_decisions_same_run}
use Rattle.fb_meaning.proofs.MadeAgain.{runs_are_made_again}
use Rattle.fb_meaning.proofs.PlacedCalls.{each_so, runs_are_lawful}
use Rattle.fb_meaning.proofs.PlanAnswers.{MayFail, may_be_injected, plan_decides}

-- ---- what a plan decided

failure_is : (fault : Option Reply) → failure_of (Some (fault_or_forward fault)) ≡ fault
failure_is None = refl
failure_is (Some given) = refl

answered_may : (kinds : List Kind) (plan : List Fault) (call : PlacedCall) → IsAnswered (plan_source kinds plan) call → MayFail kinds call
answered_may kinds plan call e =
    may_be_injected kinds call.index call.asked.callee.0 plan call.fault (e ∙ failure_is (injected_at kinds plan call.index call.asked.callee.0))

module _ (kinds : List Kind) (plan : List Fault) where
  mutual
    unfolding AreDecided AreJoined

    joined_calls : (index : List Occurrence) (calls : CallList) → AreDecided (plan_source kinds plan) index calls → AreJoined calls
    joined_calls index NoCalls decided = tt
    joined_calls index (AndCall before asked how) decided = (joined_calls index before decided.0, joined_below (index ++ asked.entry ∷ []) asked how decided.1)

    joined_below : (index : List Occurrence) (asked : Asked) (how : How) → IsDecidedSo (plan_source kinds plan) index asked how → IsJoined asked how
    joined_below index asked Faulted decided = tt
    joined_below index asked (Ran (Invocation method args calls answer steps)) decided = (decided.1, decided.2, decided.3, joined_calls index calls decided.4)
    joined_below index asked (KnownHow steps injected) decided = not_known (injected_at kinds plan index asked.callee.0) decided
      where
        not_known : (fault : Option Reply) → ◌≡◌ {A = Option Decision} (Some (fault_or_forward fault)) (Some (Known asked.reply steps injected)) → ⊥
        not_known None e = absurd (cc)
        not_known (Some given) e = absurd (cc)

  -- a call of the test itself is made
  not_failed : (asked : Asked) (how : How) → IsDecidedSo (plan_source kinds plan) (asked.entry ∷ []) asked how → fault_of asked.reply how ≡ None
  unfolding AreDecided
  not_failed asked Faulted decided = absurd (cc)
  not_failed asked (Ran tree) decided = refl
  not_failed asked (KnownHow steps injected) decided = refl

  none_failed : (calls : CallList) → AreDecided (plan_source kinds plan) [] calls → NoneFails calls
  unfolding AreDecided
  none_failed NoCalls decided = tt
  none_failed (AndCall before asked how) decided = (none_failed before decided.0, not_failed asked how decided.1)

-- ---- runs

pub runs_are_of_injections : RunsAreOfInjections
runs_are_of_injections services test fuel plan run left e =
    let kinds : List Kind = kinds_given services in
    let source : Source = plan_source kinds plan in
    let lawful = runs_are_lawful services test source fuel run left e in
    let may : HoldsOfEach (MayFail kinds) (calls_of run) = each_so (IsAnswered source) (MayFail kinds) (answered_may kinds plan) (calls_of run) lawful.answered in
    same_decisions_same_run services test source (plan_source kinds (injections_of run)) fuel run left e
    (plan_decides kinds run.calls (joined_calls kinds plan [] run.calls (test_decided services source test fuel run left e)) lawful.apart may)

pub runs_are_spelled : RunsAreSpelled
runs_are_spelled services test fuel records plan uses run left e recorded =
    let source : Source = plan_source (kinds_given services) plan in
    let decided = test_decided services source test fuel run left e in
    let costs : left + steps_of_run run ≡ fuel = subst (Costs steps_of_run fuel) e (test_costs services source test fuel) in
    record {
      recorded = recorded;
      joined = joined_calls (kinds_given services) plan [] run.calls decided;
      by_parts = runs_are_made_again services test source fuel fuel run left e (omega (arith, costs));
      none_fails = none_failed (kinds_given services) plan run.calls decided;
      injected = refl;
      enough = omega (arith, costs);
    }

-- ---- what is covered

place_of : {A : Type 0} (all : List A) (item : A) → Contains all item → (k : ℕ) × (slice_get all k ≡ Some item)
place_of all item has = (has.0, slice_get-get_or all has.0 item has.1 ∙ ap Some has.2)

places_of : {A : Type 0} (all items : List A) → HoldsOfEach (Contains all) items → (places : List ℕ) × AreAt all places items
places_of all [] h = ([], refl)
places_of all (item ∷ items) h =
    let first = place_of all item h.0 in
    let rest = places_of all items h.1 in
    (first.0 ∷ rest.0, ap (λ found. found ∷ map (slice_get all) rest.0) first.1 ∙ ap (λ found. Some item ∷ found) rest.1)

there : {A : Type 0} (all : List A) (places : List ℕ) (items : List A) → AreAt all places items → HoldsOfEach (Contains all) items
there all [] [] e = tt
there all [] (x ∷ items) e = absurd (cc)
there all (k ∷ places) [] e = absurd (cc)
there all (k ∷ places) (x ∷ items) e =
    let first : slice_get all k ≡ Some x = cc in
    let rest : AreAt all places items = cc in
    ((k, slice_get_within all k x first, get_or_from_slice_get all k x x first), there all places items rest)

covered_spelled : (services : ServicesTree) (test : TestTree) (fuel : ℕ) (records : List Record) (plan : List Fault) → IsCovered services test fuel records plan → IsSpelled services test fuel records plan
covered_spelled services test fuel records plan covered =
    let uses = places_of records (records_in covered.run.calls) covered.recorded in
    record {
      run = covered.run;
      left = covered.left;
      done = covered.done;
      uses = uses.0;
      spelled = runs_are_spelled services test fuel records plan uses.0 covered.run covered.left covered.done uses.1;
    }

spelled_covered : (services : ServicesTree) (test : TestTree) (fuel : ℕ) (records : List Record) (plan : List Fault) → IsSpelled services test fuel records plan → IsCovered services test fuel records plan
spelled_covered services test fuel records plan is = record {
  run = is.run;
  left = is.left;
  done = is.done;
  recorded = there records is.uses (records_in is.run.calls) is.spelled.recorded;
}

pub covered_is_spelled : CoveredIsSpelled
covered_is_spelled services test fuel records plan = (covered_spelled services test fuel records plan, spelled_covered services test fuel records plan)
