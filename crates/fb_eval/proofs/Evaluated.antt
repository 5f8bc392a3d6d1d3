-- What methods and tests mean, by how their bodies end.
use Rattle.std.proofs.Common.{◌≡◌, ℕ, ◌+◌, ◌≤◌, List, [], length, Some, Result, Ok, Err, IsErrAnd, refl, sym, ap, ◌∙◌, subst, arith}
use Rattle.fb_base.specs.declared.method.MethodId.{MethodId}
use Rattle.fb_base.specs.declared.value.Value.{Value}
use Rattle.fb_index.specs.Entry.{Occurrence}
use Rattle.fb_syntax.specs.Trees.{ServicesTree, Statements, TestTree}
use Rattle.fb_check.specs.Counts.{entries_of}
use Rattle.fb_syntax.specs.Kept.{KeepsTestLimits}
use Rattle.fb_tree.specs.Calls.{injected_in}
use Rattle.fb_tree.specs.Records.{records_in}
use Rattle.fb_tree.specs.Runs.{NoCalls, TestRun}
use Rattle.fb_tree.specs.Views.{calls_and, view_calls}
use Rattle.fb_tree.specs.declared.recorded.Record.{Record}
use Rattle.fb_transport.specs.Sources.{Source}
use Rattle.fb_meaning.specs.Evaluations.{Evaluation, Done, Flow, NamedValue, State, then_on}
use Rattle.fb_meaning.specs.Positions.{beginning}
use Rattle.fb_meaning.specs.Bodies.{OfTest, method_goes, questions}
use Rattle.fb_meaning.specs.Meaning.{meaning, method_meaning, outcome_of_flow, test_frame, test_meaning, test_run_of, test_state}
use Rattle.fb_eval.specs.declared.body.Body.{Body}
use Rattle.fb_eval.specs.declared.body.Whose.TheVariants as whose
use Rattle.fb_eval.specs.declared.progress.Progress.{Progress}
use Rattle.fb_eval.specs.declared.stop.Stop.{Stop}
use Rattle.fb_eval.specs.Locals.{EndsWithRecord}
use Rattle.fb_eval.specs.Means.{Here, invocation_means, statements_mean}
use Rattle.fb_eval.specs.Places.{StatementsStand}
use Rattle.fb_eval.specs.States.{Begins, Ends, IsReady, Stops, calls_of, here_of, invocations, state_of, whose_of}
use Rattle.fb_eval.specs.Units.{most_units}
use Rattle.fb_eval.proofs.Called.{no_calls, none_first, ready_at_first}
use Rattle.fb_eval.proofs.Ends.{stops_as, stops_by}
use Rattle.fb_eval.proofs.Limits.{test_is_small}
use Rattle.fb_eval.proofs.Places.{whole_body_stands}

-- what stops for a cause, and means the same
pub ends_stopped : {A W S : Type 0} (means other : Evaluation W S) (done : A → Evaluation W S) (why : Stop) (result : Result A Stop) → IsErrAnd result (λ w. w ≡ why)
    → means ≡ other → Stops other why → Ends means done result
ends_stopped means other done why (Ok x) is same stops = absurd is
ends_stopped means other done why (Err also) is same stops = subst (λ w. Stops means w) (sym is) (stops_as means other why same stops)

-- ---- a method

pub method_is_invoked : (services given : ServicesTree) (source : Source) (fuel : ℕ) (method : MethodId) (args copies : List Value) (index at : List Occurrence)
    → given ≡ services → copies ≡ args → at ≡ index → method_meaning services source fuel method args index ≡ invocation_means given source method copies at fuel
unfolding method_meaning invocation_means
method_is_invoked services given source fuel method args copies index at same copied there =
    (λ i. method_goes (sym same i) (meaning (sym same i) source) method (sym copied i) (sym there i) fuel)

-- by the script that was moved
pub method_by_script : {S : Type 0} (gives : S → Source) (script moved : S) (services given : ServicesTree) (fuel left : ℕ) (method : MethodId) (args : List Value) (at : List Occurrence)
    (result : Result Record Stop) → moved ≡ script → given ≡ services → at ≡ []
    → EndsWithRecord (invocation_means given (gives moved) method args at fuel) left result → EndsWithRecord (method_meaning services (gives script) fuel method args []) left result
method_by_script gives script moved services given fuel left method args at result same also there ends =
    subst (λ means. EndsWithRecord means left result) (sym (method_is_invoked services given (gives script) fuel method args args [] at also refl there))
    (subst (λ s. EndsWithRecord (invocation_means given (gives s) method args at fuel) left result) same ends)

-- ---- a test

abbrev here_of_test : ServicesTree → Source → Here
here_of_test services source = record { services = services; source = source; frame = test_frame }

test_rule : (services : ServicesTree) (tree : TestTree) (source : Source) (fuel : ℕ)
    → test_meaning services tree source fuel ≡ then_on (statements_mean (here_of_test services source) beginning tree.body (test_state fuel)) test_run_of
unfolding test_meaning statements_mean
test_rule services tree source fuel = refl

told_of_test : questions OfTest NoCalls ≡ Some []
unfolding injected_in
told_of_test = refl

pub begins_so : (variables : List NamedValue) (callees : List MethodId) (progress : Progress) → Begins variables (Some callees) progress → variables ≡ [] → callees ≡ []
    → Begins [] (Some []) progress
begins_so variables callees progress begins none nobody = record {
  variables = begins.variables ∙ none;
  injected = begins.injected ∙ ap Some nobody;
  calls = begins.calls;
  sites = begins.sites;
  steps = begins.steps;
}

module _ (body : Body) (progress : Progress) (begins : Begins [] (Some []) progress) where
  pub test_ready : (fuel : ℕ) → body.whose ≡ whose.Test → fuel ≤ most_units → IsReady body progress fuel
  test_ready fuel of few = ready_at_first body progress fuel [] (Some []) begins (sym (ap (λ w. questions (whose_of w) NoCalls) of ∙ told_of_test)) few

  pub none_before : invocations progress ≡ 0
  none_before = none_first progress begins.calls

  module _ (services : ServicesTree) (tree : TestTree) (source : Source) (fuel : ℕ) (stmts : Statements) (same : body.program.now.tree ≡ services)
      (of : body.whose ≡ whose.Test) (index : body.index ≡ []) (written : stmts ≡ tree.body) where
    here_is : here_of body source ≡ here_of_test services source
    here_is = (λ i. record { services = same i; source = source; frame = record { whose = whose_of (of i); index = index i } })

    starts : state_of progress fuel ≡ test_state fuel
    starts = (λ i. record { variables = begins.variables i; calls = no_calls progress begins.calls i; fuel = fuel; steps = begins.steps i })

    goes : test_meaning services tree source fuel ≡ then_on (statements_mean (here_of body source) beginning stmts (state_of progress fuel)) test_run_of
    goes =
        test_rule services tree source fuel
        ∙ (λ i. then_on (statements_mean (sym here_is i) beginning (sym written i) (sym starts i)) test_run_of)

    pub test_done : (flow : Flow) (after : State) → statements_mean (here_of body source) beginning stmts (state_of progress fuel) ≡ Done flow after
        → test_meaning services tree source fuel ≡ Done (record { calls = after.calls; outcome = outcome_of_flow flow; steps = after.steps }) after.fuel
    test_done flow after e = goes ∙ ap (λ x. then_on x test_run_of) e

    pub test_stops : (why : Stop) → Stops (statements_mean (here_of body source) beginning stmts (state_of progress fuel)) why → Stops (test_meaning services tree source fuel) why
    test_stops why e = stops_by (test_meaning services tree source fuel) (statements_mean (here_of body source) beginning stmts (state_of progress fuel)) test_run_of why goes e

pub test_stands : (body : Body) (tree : TestTree) (stmts : Statements) → stmts ≡ tree.body → body.counts.now ≡ entries_of tree.body → ∥ KeepsTestLimits tree ∥₁
    → StatementsStand body.counts.now beginning stmts
test_stands body tree stmts written counted limits =
    subst (λ ss. StatementsStand body.counts.now beginning ss) (sym written) (whole_body_stands body.counts.now tree.body counted (test_is_small tree limits))

-- a run's evaluations are its invocations
pub ticks_of_run : (run other : TestRun) (start evals after below : ℕ) → run ≡ other → start ≡ 0 → after + start ≡ evals + below → below ≡ length (records_in other.calls)
    → after ≡ evals + length (records_in run.calls)
ticks_of_run run other start evals after below same none ticks count = omega (arith, none, ticks, count, ap (λ (r : TestRun). length (records_in r.calls)) same)
