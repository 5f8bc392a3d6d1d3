-- Each record of a run of accepted sources is true.
use Rattle.std.specs.Prelude.{ℕ, ◌-◌, ◌≤◌, List, [], ◌∷◌, ◌++◌, Option}
use Rattle.std.proofs.Common.{subst, arith}
use Rattle.fb_index.specs.Entry.{Occurrence}
use Rattle.fb_syntax.specs.Trees.{ServicesTree}
use Rattle.fb_check.specs.Programs.{callee_at, kinds_given, test_callee_at}
use Rattle.fb_tree.specs.Runs.{Invocation, CallList, NoCalls, AndCall, How, Faulted, Ran, Known as KnownHow}
use Rattle.fb_tree.specs.Records.{asked_of, records_of, records_in, records_below, steps_of, steps_in, steps_below, steps_of_run}
use Rattle.fb_tree.specs.declared.asked.Asked.{Asked}
use Rattle.fb_transport.specs.Sources.{Source, plan_source}
use Rattle.fb_meaning.specs.Each.{HoldsOfEach}
use Rattle.fb_meaning.specs.Kinds.{CallsFit, FitsBelow, RecordsOfRunsAreTrue, StepsAreWithinFuel, TrueRecordsStayTrue}
use Rattle.fb_meaning.specs.Records.{IsCallOf, IsTrueRecord, record_source}
use Rattle.fb_meaning.proofs.EvaluatedCalls.{IsEvaluated, AreEvaluated, method_evaluated, test_evaluated}
use Rattle.fb_meaning.proofs.ExpressionValues.{FitTables}
use Rattle.fb_meaning.proofs.FuelLaws.{method_follows_fuel}
use Rattle.fb_meaning.proofs.KeptKinds.{Acceptance, plans_give_kinds, tests_keep_kinds}
use Rattle.fb_meaning.proofs.MadeAgain.{records_are_made_again}
use Rattle.fb_meaning.proofs.PlacedCalls.{each_joined}
use Rattle.fb_meaning.proofs.Units.{Costs, test_costs}

-- ---- calls

each_call_of : (services : ServicesTree) (m : ℕ) (calls : CallList) → CallsFit services (callee_at services m) calls → HoldsOfEach (IsCallOf services m) (asked_of calls)
unfolding CallsFit
each_call_of services m NoCalls h = tt
each_call_of services m (AndCall before asked how) h =
    each_joined (IsCallOf services m) (asked_of before) (asked ∷ []) (each_call_of services m before h.0)
    (record { callee = (h.1).callee; at_site = (h.1).at_site; there = (h.1).there; fits = (h.1).gives }, tt)

module _ (services : ServicesTree) (source : Source) (more : ℕ) where
  mutual
    unfolding CallsFit records_of steps_of

    true_within : (callee_of : ℕ → Option ℕ) (index : List Occurrence) (calls : CallList) → CallsFit services callee_of calls → AreEvaluated services source index calls → steps_in calls ≤ more
        → HoldsOfEach (IsTrueRecord services more) (records_in calls)
    true_within callee_of index NoCalls fit evaluated few = tt
    true_within callee_of index (AndCall before asked how) fit evaluated few =
        each_joined (IsTrueRecord services more) (records_in before) (records_below how)
        (true_within callee_of index before fit.0 evaluated.0 (omega (arith, few)))
        (true_below (index ++ asked.entry ∷ []) asked how fit.2 evaluated.1 (omega (arith, few)))

    true_below : (index : List Occurrence) (asked : Asked) (how : How) → FitsBelow services how → IsEvaluated services source index asked how → steps_below how ≤ more
        → HoldsOfEach (IsTrueRecord services more) (records_below how)
    true_below index asked Faulted fits evaluated few = tt
    true_below index asked (Ran (Invocation m args calls answer steps)) fits evaluated few =
        let made = records_are_made_again services source evaluated.0 more asked.callee asked.args index (Invocation m args calls answer steps) evaluated.1 evaluated.2 (omega (arith, few)) in (
          record {
            method = (fits.0).callee;
            there = (fits.0).there;
            args_fit = (fits.0).takes;
            calls_fit = each_call_of services m.0 calls fits.1;
            tree = made.tree;
            left = made.left;
            evaluated = made.done;
            recorded = made.recorded;
          },
          true_within (callee_at services m.0) index calls fits.1
              (method_evaluated services source evaluated.0 asked.callee asked.args index (Invocation m args calls answer steps) evaluated.1 evaluated.2) (omega (arith, few)),
        )
    true_below index asked (KnownHow steps injected) fits evaluated few = tt

-- ---- steps

mutual
  unfolding records_of steps_of

  few_within : (fuel : ℕ) (calls : CallList) → steps_in calls ≤ fuel → HoldsOfEach (λ item. item.steps ≤ fuel) (records_in calls)
  few_within fuel NoCalls few = tt
  few_within fuel (AndCall before asked how) few =
      each_joined (λ item. item.steps ≤ fuel) (records_in before) (records_below how) (few_within fuel before (omega (arith, few))) (few_below fuel how (omega (arith, few)))

  few_below : (fuel : ℕ) (how : How) → steps_below how ≤ fuel → HoldsOfEach (λ item. item.steps ≤ fuel) (records_below how)
  few_below fuel Faulted few = tt
  few_below fuel (Ran (Invocation m args calls answer steps)) few = (omega (arith, few), few_within fuel calls (omega (arith, few)))
  few_below fuel (KnownHow steps injected) few = tt

-- ---- runs

pub steps_are_within_fuel : StepsAreWithinFuel
steps_are_within_fuel services test source fuel run left e =
    let costs = subst (Costs steps_of_run fuel) e (test_costs services source test fuel) in
    few_within fuel run.calls (omega (arith, costs))

pub records_of_runs_are_true : FitTables → Acceptance → RecordsOfRunsAreTrue
records_of_runs_are_true tables acceptance services test none none_of_test fuel more plan run left e enough =
    let source : Source = plan_source (kinds_given services) plan in
    let costs = subst (Costs steps_of_run fuel) e (test_costs services source test fuel) in
    true_within services source more (test_callee_at services test) [] run.calls
    (tests_keep_kinds tables acceptance services test source none none_of_test (plans_give_kinds services plan) fuel run left e)
    (test_evaluated services source test fuel run left e) (omega (arith, costs, enough))

pub true_records_stay_true : TrueRecordsStayTrue
true_records_stay_true services fuel more item is enough =
    let law = method_follows_fuel services (record_source item) item.method item.args [] in
    let taken = law.taken fuel is.left is.tree is.evaluated in
    record {
      method = is.method;
      there = is.there;
      args_fit = is.args_fit;
      calls_fit = is.calls_fit;
      tree = is.tree;
      left = more - steps_of is.tree;
      evaluated = law.enough fuel is.left more is.tree is.evaluated (omega (arith, taken, enough));
      recorded = is.recorded;
    }
