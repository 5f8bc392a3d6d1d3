-- A run is made by the decisions on its calls.
use Rattle.std.specs.Prelude.{◌≡◌, ◌+◌, List, [], ◌∷◌, ◌++◌, map, Some}
use Rattle.std.proofs.Common.{refl, sym, ap, ◌∙◌, subst, arith}
use Rattle.fb_syntax.specs.Trees.{ServicesTree}
use Rattle.fb_tree.specs.Runs.{Tree, Invocation, CallList, NoCalls, AndCall, Faulted, Ran, Known as KnownHow}
use Rattle.fb_tree.specs.Calls.{injected_by}
use Rattle.fb_tree.specs.Records.{asked_of, record_of, records_of, records_in, steps_of, steps_in, steps_below, steps_of_run}
use Rattle.fb_tree.specs.declared.asked.Asked.{Asked}
use Rattle.fb_tree.specs.declared.recorded.Record.{Record}
use Rattle.fb_transport.specs.declared.decision.Decision.TheVariants.{Known}
use Rattle.fb_meaning.specs.CallLaws.{Answer, extended, AreDecided}
use Rattle.fb_meaning.specs.DecisionLaws.{SameDecisionsSameTree, SameDecisionsSameRun, IsTrueOnce, JoinedIsMade, JoinedIsRun, ArePartsOf, PartsAreOfRun}
use Rattle.fb_meaning.specs.Each.{AreApart}
use Rattle.fb_meaning.specs.Evaluations.{Done}
use Rattle.fb_meaning.specs.Meaning.{method_meaning}
use Rattle.fb_meaning.specs.Records.{parts_source}
use Rattle.fb_meaning.proofs.CallRecords.{method_decided, test_counted}
use Rattle.fb_meaning.proofs.DecidedRuns.{IsMadeSo, EachComes, each_comes, tree_comes}
use Rattle.fb_meaning.proofs.DecidedTests.{part_found, test_comes}
use Rattle.fb_meaning.proofs.Entries.{entries_of, entries_apart}
use Rattle.fb_meaning.proofs.EvaluatedCalls.{made_within, method_evaluated, run_made}
use Rattle.fb_meaning.proofs.FuelLaws.{method_follows_fuel}
use Rattle.fb_meaning.proofs.MadeAgain.{records_are_made_again, runs_are_made_again}
use Rattle.fb_meaning.proofs.PlacedCalls.{each_so}
use Rattle.fb_meaning.proofs.Units.{Costs, test_costs}

-- ---- invocations

pub same_decisions_same_tree : SameDecisionsSameTree
unfolding steps_of
same_decisions_same_tree services one other fuel method args here there (Invocation m given calls answer steps) left e decided =
    let tree : Tree = Invocation m given calls answer steps in
    let taken : left + (steps + steps_in calls) ≡ fuel = (method_follows_fuel services one method args here).taken fuel left tree e in
    let is = method_decided services one fuel method args here tree left e in
    let made = records_are_made_again services one fuel (record_of tree).steps method args here tree left e (omega arith) in
    let each : EachComes services other there calls = each_comes services other there calls decided (made_within services one here calls (method_evaluated services one fuel method args here tree left e)) in
    ap (λ x. method_meaning services other fuel x args there) (sym is.0)
    ∙ ap (λ xs. method_meaning services other fuel m xs there) (sym is.1)
    ∙ tree_comes services other m given there calls answer steps each fuel (omega (arith, taken)) ((record_of tree).steps, made)
    ∙ ap (Done tree) (omega (arith, taken))

pub once_made : (services : ServicesTree) (item : Record) → IsTrueOnce services item → IsMadeSo services item
once_made services item is = (is.0, record { tree = (is.1).tree; left = (is.1).left; done = (is.1).evaluated; recorded = (is.1).recorded })

pub joined_is_made : JoinedIsMade
unfolding steps_of records_of
joined_is_made services source fuel index (Invocation m args calls answer steps) true_records decided enough =
    tree_comes services source m args index calls answer steps
    (each_comes services source index calls decided (each_so (IsTrueOnce services) (IsMadeSo services) (once_made services) (records_in calls) true_records.1)) fuel enough
    (once_made services (record_of (Invocation m args calls answer steps)) true_records.0)

-- ---- tests

pub same_decisions_same_run : SameDecisionsSameRun
same_decisions_same_run services test one other fuel run left e decided =
    let costs : left + steps_of_run run ≡ fuel = subst (Costs steps_of_run fuel) e (test_costs services one test fuel) in
    test_comes services other test run fuel fuel (runs_are_made_again services test one fuel fuel run left e (omega (arith, costs)))
    (entries_apart run.calls (test_counted services one test fuel run left e))
    (each_comes services other [] run.calls decided (run_made services one test fuel run left e)) (omega (arith, costs))
    ∙ ap (Done run) (omega (arith, costs))

pub joined_is_run : JoinedIsRun
joined_is_run services test source fuel run true_records parts decided enough =
    let apart : AreApart (entries_of run.calls) =
    subst (λ xs. AreApart (map (λ (a : Asked). a.entry) xs)) parts.asked
    (entries_apart parts.parts.calls (test_counted services (parts_source run.calls) test fuel parts.parts parts.left parts.done)) in
    test_comes services source test run fuel fuel parts apart
    (each_comes services source [] run.calls decided (each_so (IsTrueOnce services) (IsMadeSo services) (once_made services) (records_in run.calls) true_records)) enough

-- ---- parts

parts_asked : (parts calls : CallList) → ArePartsOf parts calls → asked_of parts ≡ asked_of calls
parts_asked NoCalls NoCalls h = refl
parts_asked NoCalls (AndCall before other how) h = absurd h
parts_asked (AndCall parts asked Faulted) calls h = absurd h
parts_asked (AndCall parts asked (Ran tree)) calls h = absurd h
parts_asked (AndCall parts asked (KnownHow steps injected)) NoCalls h = absurd h
parts_asked (AndCall parts asked (KnownHow steps injected)) (AndCall before other how) h =
    ap (λ xs. xs ++ asked ∷ []) (parts_asked parts before h.0) ∙ ap (λ a. asked_of before ++ a ∷ []) h.1

parts_decided : (whole : CallList) → AreApart (entries_of whole) → (parts front : CallList) (more : List Answer) → whole ≡ extended front more → ArePartsOf parts front
    → AreDecided (parts_source whole) [] parts
unfolding AreDecided
parts_decided whole apart NoCalls front more e h = tt
parts_decided whole apart (AndCall parts asked Faulted) front more e h = absurd h
parts_decided whole apart (AndCall parts asked (Ran tree)) front more e h = absurd h
parts_decided whole apart (AndCall parts asked (KnownHow steps injected)) NoCalls more e h = absurd h
parts_decided whole apart (AndCall parts asked (KnownHow steps injected)) (AndCall before other how) more e h = (
  parts_decided whole apart parts before ((other, how) ∷ more) e h.0,
  ap (λ (a : Asked). parts_source whole (a.entry ∷ []) asked.callee.0 asked.args) h.1
      ∙ part_found whole apart before other how more e asked.callee.0 asked.args
      ∙ ap (λ (a : Asked). Some (Known a.reply (steps_below how) (injected_by a.callee how))) (sym h.1)
      ∙ ap (λ n. Some (Known asked.reply n (injected_by asked.callee how))) (sym h.2)
      ∙ ap (λ xs. Some (Known asked.reply steps xs)) (sym h.3),
)

pub parts_are_of_run : PartsAreOfRun
parts_are_of_run services test source fuel parts run left e are outcome steps =
    let asked : asked_of parts.calls ≡ asked_of run.calls = parts_asked parts.calls run.calls are in
    let apart : AreApart (entries_of run.calls) =
    subst (λ xs. AreApart (map (λ (a : Asked). a.entry) xs)) asked (entries_apart parts.calls (test_counted services source test fuel parts left e)) in
    record {
      parts = parts;
      left = left;
      done = same_decisions_same_run services test source (parts_source run.calls) fuel parts left e (parts_decided run.calls apart parts.calls run.calls [] refl are);
      asked = asked;
      outcome = outcome;
      steps = steps;
    }
