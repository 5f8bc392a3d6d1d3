-- Calls and invocations, by how their parts end.
use Rattle.std.specs.Option.{option_map}
use Rattle.std.proofs.Common.{◌≡◌, ℕ, suc, ◌<◌, ◌≤◌, List, [], ◌∷◌, length, drop, get_or, map, Option, Some, None, sym, ap, ◌∙◌, subst, arith}
use Rattle.fb_base.specs.declared.method.MethodId.{MethodId}
use Rattle.fb_base.specs.declared.reply.Reply.{Reply}
use Rattle.fb_base.specs.declared.value.Value.{Value}
use Rattle.fb_index.specs.Entry.{Occurrence}
use Rattle.fb_syntax.specs.declared.stmt.Handler.{Handler}
use Rattle.fb_syntax.specs.Trees.{MethodTree, ServicesTree, Statements, AndHandlers}
use Rattle.fb_syntax.specs.Views.{view_block, view_handler, handlers_of}
use Rattle.fb_check.specs.Counts.{AreSmall, all_counts, entries_of}
use Rattle.fb_check.specs.Programs.{method_at}
use Rattle.fb_tree.specs.Records.{records_in, records_of}
use Rattle.fb_tree.specs.Runs.{Tree, Invocation, CallList, NoCalls}
use Rattle.fb_tree.specs.Calls.{calls_at}
use Rattle.fb_tree.specs.Views.{calls_and, view_calls}
use Rattle.fb_transport.specs.Sources.{Source}
use Rattle.fb_meaning.specs.Evaluations.{Done, Flow, State, then_on}
use Rattle.fb_meaning.specs.Positions.{Position, beginning}
use Rattle.fb_meaning.specs.Bodies.{method_frame, method_state, invocation_of, reply_of_flow, questions, unhandled_flow}
use Rattle.fb_eval.specs.declared.body.Body.{Body}
use Rattle.fb_eval.specs.declared.progress.Progress.{Progress}
use Rattle.fb_eval.specs.declared.stop.Stop.{Stop}
use Rattle.fb_eval.specs.Units.{most_units}
use Rattle.fb_eval.specs.Places.{StatementsStand}
use Rattle.fb_eval.specs.Means.{Here, statements_mean, handled_means, invocation_means}
use Rattle.fb_eval.specs.States.{Begins, BeginsMethod, IsBodyOf, IsReady, Stops, calls_of, here_of, invocations, state_of, whose_of}
use Rattle.fb_eval.proofs.Ends.{stops_as, stops_by}
use Rattle.fb_eval.proofs.Limits.{method_is_small}
use Rattle.fb_eval.proofs.Places.{whole_body_stands}
use Rattle.fb_eval.proofs.Rules.{handled_none, invocation_rule}

-- the first of some handlers, and the rest
pub handlers_split : (hs rest : List Handler) (h : Handler) → 0 < length hs → h ≡ get_or hs 0 h → rest ≡ drop 1 hs
    → handlers_of (map view_handler hs) ≡ AndHandlers h.code (view_block h.body) (handlers_of (map view_handler rest))
handlers_split [] rest h some first behind = absurd (omega arith)
handlers_split (x ∷ hs) rest h some first behind =
    (λ i. AndHandlers (sym first i).code (view_block (sym first i).body) (handlers_of (map view_handler (sym behind i))))

pub handlers_over : (here : Here) (site : ℕ) (at : Position) (code : List ℕ) (hs : List Handler) (state : State) → length hs < 1
    → handled_means here site at code (handlers_of (map view_handler hs)) state ≡ Done (unhandled_flow here.frame.whose site code) state
handlers_over here site at code [] state none = handled_none here site at code state
handlers_over here site at code (h ∷ hs) state none = absurd (omega (arith, none))

abbrev pub method_here : ServicesTree → Source → List Occurrence → Here
method_here services source index = record { services = services; source = source; frame = method_frame index }

module _ (services : ServicesTree) (source : Source) (method : MethodId) (args : List Value) (index : List Occurrence) (fuel : ℕ) (tree : MethodTree)
    (there : method_at services method.0 ≡ Some tree) (state : State) (begins : state ≡ method_state tree args fuel) where
  pub invocation_done : (flow : Flow) (after : State) → statements_mean (method_here services source index) beginning tree.body state ≡ Done flow after
      → invocation_means services source method args index fuel ≡ Done (Invocation method args after.calls (reply_of_flow flow) after.steps) after.fuel
  invocation_done flow after e =
      invocation_rule services source method args index fuel tree there
      ∙ ap (λ s. then_on (statements_mean (method_here services source index) beginning tree.body s) (invocation_of method args)) (sym begins)
      ∙ ap (λ x. then_on x (invocation_of method args)) e

  pub invocation_stops : (why : Stop)
      → Stops (statements_mean (method_here services source index) beginning tree.body state) why
      → Stops (invocation_means services source method args index fuel) why
  invocation_stops why e =
      stops_by (invocation_means services source method args index fuel) (statements_mean (method_here services source index) beginning tree.body state)
      (invocation_of method args) why
      (invocation_rule services source method args index fuel tree there
      ∙ ap (λ s. then_on (statements_mean (method_here services source index) beginning tree.body s) (invocation_of method args)) (sym begins)) e

-- ---- the beginning

pub no_calls : (progress : Progress) → progress.calls.items ≡ [] → calls_of progress ≡ NoCalls
unfolding calls_and
no_calls progress e = ap view_calls e

pub method_begins : (services : ServicesTree) (method : MethodId) (args : List Value) (progress : Progress) (fuel : ℕ) (begins : BeginsMethod services method args progress)
    → state_of progress fuel ≡ method_state begins.tree args fuel
method_begins services method args progress fuel begins = λ i. record {
  variables = begins.begins.variables i;
  calls = no_calls progress begins.begins.calls i;
  fuel = fuel;
  steps = begins.begins.steps i;
}

pub ready_at_first : (body : Body) (progress : Progress) (fuel : ℕ) (variables : _) (told : Option (List MethodId)) → Begins variables told progress
    → told ≡ questions (whose_of body.whose) NoCalls → fuel ≤ most_units → IsReady body progress fuel
ready_at_first body progress fuel variables told begins asks few = record {
  counted = λ site. begins.sites site ∙ sym (ap (calls_at site) (no_calls progress begins.calls));
  told = begins.injected ∙ asks ∙ sym (ap (questions (whose_of body.whose)) (no_calls progress begins.calls));
  taken = omega (arith, begins.steps, few);
  few = omega (arith, ap length begins.calls, few);
}

pub none_first : (progress : Progress) → progress.calls.items ≡ [] → invocations progress ≡ 0
unfolding records_of
none_first progress e = ap (λ calls. length (records_in calls)) (no_calls progress e)

pub one_more : (tree : Tree) (callee : MethodId) (args : List Value) (calls : CallList) (got : Reply) (steps : ℕ) → tree ≡ Invocation callee args calls got steps
    → length (records_of tree) ≡ suc (length (records_in calls))
unfolding records_of
one_more tree callee args calls got steps is = ap (λ t. length (records_of t)) is

-- ---- the method whose body this is

module _ (body : Body) (source : Source) (method : MethodId) (args given : List Value) (fuel : ℕ) (tree : MethodTree) (progress : Progress) (stmts : Statements) (of : IsBodyOf body method)
    (there : method_at body.program.now.tree method.0 ≡ Some tree) (begins : BeginsMethod body.program.now.tree method given progress) (same : given ≡ args) (written : stmts ≡ tree.body) where
  here_is : here_of body source ≡ method_here body.program.now.tree source body.index
  here_is = (λ i. record { services = body.program.now.tree; source = source; frame = record { whose = whose_of (of.whose i); index = body.index } })

  tree_is : begins.tree ≡ tree
  tree_is = let e = sym begins.there ∙ there in cc

  starts : state_of progress fuel ≡ method_state tree args fuel
  starts = method_begins body.program.now.tree method given progress fuel begins ∙ (λ i. method_state (tree_is i) (same i) fuel)

  goes_there : statements_mean (method_here body.program.now.tree source body.index) beginning tree.body (state_of progress fuel)
      ≡ statements_mean (here_of body source) beginning stmts (state_of progress fuel)
  goes_there = (λ i. statements_mean (sym here_is i) beginning (sym written i) (state_of progress fuel))

  pub invoked : (flow : Flow) (after : State) → statements_mean (here_of body source) beginning stmts (state_of progress fuel) ≡ Done flow after
      → invocation_means body.program.now.tree source method args body.index fuel ≡ Done (Invocation method args after.calls (reply_of_flow flow) after.steps) after.fuel
  invoked flow after e = invocation_done body.program.now.tree source method args body.index fuel tree there (state_of progress fuel) starts flow after (goes_there ∙ e)

  pub invoked_stops : (why : Stop) → Stops (statements_mean (here_of body source) beginning stmts (state_of progress fuel)) why
      → Stops (invocation_means body.program.now.tree source method args body.index fuel) why
  invoked_stops why e =
      invocation_stops body.program.now.tree source method args body.index fuel tree there (state_of progress fuel) starts why
      (stops_as (statements_mean (method_here body.program.now.tree source body.index) beginning tree.body (state_of progress fuel))
      (statements_mean (here_of body source) beginning stmts (state_of progress fuel)) why goes_there e)

  pub ready_invoked : fuel ≤ most_units → IsReady body progress fuel
  ready_invoked few = ready_at_first body progress fuel _ None begins.begins (sym (ap (λ w. questions (whose_of w) NoCalls) of.whose)) few

  pub none_invoked : invocations progress ≡ 0
  none_invoked = none_first progress begins.begins.calls

  counts_are : body.counts.now ≡ entries_of stmts
  counts_are =
      let e : Some (entries_of tree.body) ≡ Some body.counts.now = sym (ap (option_map (λ m. entries_of m.body)) there) ∙ of.counts in
      let kept : body.counts.now ≡ entries_of tree.body = cc in
      kept ∙ ap entries_of (sym written)

  pub body_invoked : StatementsStand body.counts.now beginning stmts
  body_invoked =
      whole_body_stands body.counts.now stmts counts_are
      (subst (λ ss. AreSmall (all_counts ss)) (sym written) (method_is_small body.program.now.tree body.program.now.limits method.0 tree there))
