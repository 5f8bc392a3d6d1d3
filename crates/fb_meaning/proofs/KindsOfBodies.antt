-- Calls, statements and methods keep kinds.
use Rattle.std.specs.Prelude.{◌≡◌, ℕ, zero, suc, ◌+◌, ◌-◌, nat_le, Bool, true, false, if◌then◌else◌, List, [], ◌∷◌, length, slice_get, codes, Option, Some, None, ⊤}
use Rattle.std.specs.Option.{option_and_then}
use Rattle.std.proofs.Common.{refl, sym, ap, ◌∙◌, subst, append-nil, arith}
use Rattle.fb_base.specs.declared.kind.Kind.{Kind}
use Rattle.fb_base.specs.declared.method.MethodId.{MethodId}
use Rattle.fb_base.specs.declared.method.MethodName.{MethodName}
use Rattle.fb_base.specs.declared.reply.Reply.{Reply}
use Rattle.fb_base.specs.declared.reply.Reply.TheVariants as reply
use Rattle.fb_base.specs.declared.value.Value.{Value}
use Rattle.fb_base.specs.Kinds.{kind_of_list}
use Rattle.fb_base.specs.Values.{HasKind}
use Rattle.fb_index.specs.Entry.{Occurrence}
use Rattle.fb_syntax.specs.Trees.{Expression, Expressions, Statement, Let, Assign, If, IfElse, Repeat, For, Break, Return, Fail, Call, Assert, Statements, Handlers, MethodTree, ServicesTree}
use Rattle.fb_check.specs.Accepted.{Variables, HasMethod, HasKind as HasKindIn, HaveKinds as HaveKindsIn, with_variable as and_variable, behind, Fits, BlockFits, HandlersFit, has_parameters, IsAcceptedMethod}
use Rattle.fb_check.specs.Declarations.{declarations_of, number_in, kinds_of_parameters}
use Rattle.fb_check.specs.Programs.{method_at, item_numbered, callee_at}
use Rattle.fb_check.specs.Scopes.{Scope, kind_named}
use Rattle.fb_check.specs.Sites.{statement_sites, sites, handler_sites, callee_number}
use Rattle.fb_check.specs.declared.owner.Owner.{Owner}
use Rattle.fb_check.specs.declared.owner.Owner.TheVariants as owner
use Rattle.fb_tree.specs.Runs.{Tree, CallList, AndCall, How, Faulted, Ran, Known as KnownHow}
use Rattle.fb_tree.specs.declared.asked.Asked.{Asked}
use Rattle.fb_tree.specs.declared.outcome.Outcome.TheVariants as outcome
use Rattle.fb_transport.specs.Sources.{Source}
use Rattle.fb_transport.specs.declared.decision.Decision.{Decision}
use Rattle.fb_transport.specs.declared.decision.Decision.TheVariants.{Forward, Fault, Known}
use Rattle.fb_meaning.specs.Bodies.{Whose, OfMethod, OfTest, Frame, Meaning, PreparedCall, environment, value_here, truth_of, items_of, answer_flow, assert_flow, prepared, decided, decided_by, index_of_call, returned, with_call, asked_and_got, entry_at, taken, inside_of, chosen, for_goes, with_some, with_variables, fault_flow, method_frame, method_state, invocation_of, body_goes, method_goes, reply_of, reply_of_flow, block_goes, act}
use Rattle.fb_meaning.specs.Evaluations.{Evaluation, Spent, Missing, Done, then_on, Flow, Next, Broke, Gave, Ended, NamedValue, State, begun, Going, with_unit_of}
use Rattle.fb_meaning.specs.Expressions.{◌>>=◌, values_of}
use Rattle.fb_meaning.specs.Kinds.{GivesKind, GivesKinds, AnswerFits, FlowFits, IsOf, IsFittingInvocation, CallsFit, FitsBelow}
use Rattle.fb_meaning.specs.Meaning.{within, meaning}
use Rattle.fb_meaning.specs.Positions.{Position, beginning, past, block_counts}
use Rattle.fb_meaning.specs.Records.{HaveKinds, IsOkOfKind}
use Rattle.fb_meaning.specs.Variables.{with_variable, with_value_of}
use Rattle.fb_meaning.proofs.CallRecords.{some_of}
use Rattle.fb_meaning.proofs.ExpressionValues.{FitTables, value_fits, arguments_fit}
use Rattle.fb_meaning.proofs.KindsKept.{Body, err_fits, IsSite, Holds, GoesAt, GoesIn, GoesSo, EndsSo, at_so, some_at, variables_at, statements_in, block_at, chosen_at, repeat_at, for_at, taken_at}
use Rattle.fb_meaning.proofs.KindsOfItems.{given_some, list_items, parameters_scope, hold_parameters, declare_parameters}
use Rattle.fb_meaning.proofs.OneKind.{one_found, one_kind}
use Rattle.fb_meaning.proofs.ScopeValues.{Declares, binding_of, added, assigned, declares_more}
use Rattle.fb_meaning.proofs.SitePlaces.{SitesAre, sites_moved, sites_front, sites_behind, all_sites, sites_count}

-- what is known of the methods of accepted services
pub record KnowsMethods (services : ServicesTree) : Type 0 where
  pub named : (service method : List ℕ) (params : List Kind) (gives : Kind) (n : ℕ) → HasMethod services service method params gives
      → number_in (declarations_of services) service method ≡ Some n
      → (m : MethodTree) × (method_at services n ≡ Some m) × (kinds_of_parameters m.params ≡ params) × (m.gives ≡ gives)
  pub accepted : (n : ℕ) (m : MethodTree) → method_at services n ≡ Some m → IsAcceptedMethod services m

-- ---- flows

answer_fits : (whose : Owner) (of : Whose) (got : Reply) (flow : Flow) → answer_flow of got ≡ Some flow → AnswerFits whose got → FlowFits whose flow
answer_fits whose OfMethod got flow e h = let same : Gave got ≡ flow = cc in subst (FlowFits whose) same h
answer_fits whose OfTest got flow e h = absurd (cc)

assert_fits : (whose : Owner) (of : Whose) (number : ℕ) (decides : Bool) (flow : Flow) → assert_flow of number decides ≡ Some flow → FlowFits whose flow
assert_fits whose OfMethod number decides flow e = absurd (cc)
assert_fits whose OfTest number true flow e = let same : Next ≡ flow = cc in subst (FlowFits whose) same tt
assert_fits whose OfTest number false flow e = let same : Ended (outcome.AssertFailed number) ≡ flow = cc in subst (FlowFits whose) same tt

reply_fits : (whose : Owner) (flow : Flow) → FlowFits whose flow → AnswerFits whose (reply_of_flow flow)
reply_fits whose (Gave got) h = h
reply_fits whose Next h = err_fits whose _
reply_fits whose Broke h = err_fits whose _
reply_fits whose (Ended how) h = err_fits whose _

module _ (services : ServicesTree) (source : Source) (gives_kinds : GivesKinds services source) (tables : FitTables) (knows : KnowsMethods services) where
  -- statements do so
  abbrev pub RunsSo : Meaning → Type 1
  RunsSo run =
      (body : Body services) (frame : Frame) → IsOf body.whose frame.whose → (looping : Bool) (declared : Variables) (at : Position) (s : Statement) (scope : Scope) (t : State)
      → Fits services body.whose looping declared s → SitesAre (IsSite services body) at.sites (statement_sites s) → Declares scope declared → Holds services body scope t
      → GoesSo services body scope (behind services body.whose declared s) (run frame at s t)

  -- ---- methods

  pub add_call : (callee_of : ℕ → Option ℕ) (before : CallList) (asked : Asked) (how : How) → CallsFit services callee_of before → callee_of asked.entry.site ≡ Some asked.callee.0
      → IsFittingInvocation services asked.callee.0 asked.args asked.reply → FitsBelow services how → CallsFit services callee_of (AndCall before asked how)
  unfolding CallsFit
  add_call callee_of before asked how h at fits below =
      (h, record { callee = fits.callee; at_site = at; there = fits.there; takes = fits.takes; gives = fits.gives }, below)

  -- a body whose sites have these callees
  abbrev pub body_with : Owner → (ℕ → Option ℕ) → Body services
  body_with whose callee_of = record {
    whose = whose;
    At = λ site callee. callee_of site ≡ Some callee;
    Hold = CallsFit services callee_of;
    more = add_call callee_of;
  }

  pub sites_with : (whose : Owner) (callee_of : ℕ → Option ℕ) (names : List MethodName)
      → ((k : ℕ) (name : MethodName) → slice_get names k ≡ Some name → callee_of (suc k) ≡ callee_number (declarations_of services) name)
      → SitesAre (IsSite services (body_with whose callee_of)) 0 names
  sites_with whose callee_of names h =
      all_sites (IsSite services (body_with whose callee_of)) 0 names
      (λ k name e callee is. ap callee_of (let one : 0 + suc k ≡ suc k = omega arith in one) ∙ h k name e ∙ is)

  abbrev pub BelowFits : Kind → Evaluation Tree ℕ → Type 0
  BelowFits gives Spent = ⊤
  BelowFits gives Missing = ⊤
  BelowFits gives (Done tree left) = FitsBelow services (Ran tree) × IsOkOfKind gives (reply_of tree)

  module _ (id : MethodId) (m : MethodTree) (there : method_at services id.0 ≡ Some m) where
    abbrev method_body : Body services
    method_body = body_with (owner.Method m.gives) (callee_at services id.0)

    method_sites : SitesAre (IsSite services method_body) 0 (sites m.body)
    method_sites =
        sites_with (owner.Method m.gives) (callee_at services id.0) (sites m.body)
        (λ k name e. ap (option_and_then (callee_number (declarations_of services)))
        (ap (option_and_then (λ (method : MethodTree). item_numbered (sites method.body) (suc k))) there ∙ e))

    made_fits : (args : List Value) → HaveKinds args (kinds_of_parameters m.params) → (scope : Scope) (x : Going) → GoesIn services method_body scope x
        → BelowFits m.gives (then_on x (invocation_of id args))
    unfolding CallsFit
    made_fits args takes scope Spent h = tt
    made_fits args takes scope Missing h = tt
    made_fits args takes scope (Done flow u) h = (
      (record { callee = m; there = there; takes = takes; gives = reply_fits (owner.Method m.gives) flow h.fits }, h.holds.calls),
      reply_fits (owner.Method m.gives) flow h.fits,
    )

    pub method_so : (run : Meaning) → RunsSo run → (args : List Value) (index : List Occurrence) (fuel : ℕ) → HaveKinds args (kinds_of_parameters m.params)
        → BelowFits m.gives (method_goes services run id args index fuel)
    unfolding CallsFit
    method_so run runs args index fuel takes =
        let accepted = knows.accepted id.0 m there in
        subst (λ o. BelowFits m.gives (body_goes run o id args index fuel)) (sym there)
        (made_fits args takes (parameters_scope m.params) _
        (statements_in services method_body run (method_frame index) (runs method_body (method_frame index) tt) false (has_parameters m) beginning m.body (parameters_scope m.params)
        (method_state m args fuel) accepted.body_fits method_sites (declare_parameters m accepted.parameters_differ)
        (record { variables = hold_parameters m.params args takes; calls = tt })))

  -- ---- calls

  abbrev CallGoes : Body services → Scope → Kind → Evaluation Reply State → Type 0
  CallGoes body scope gives Spent = ⊤
  CallGoes body scope gives Missing = ⊤
  CallGoes body scope gives (Done got u) = IsOkOfKind gives got × Holds services body scope u

  call_then : (body : Body services) (scope : Scope) (gives : Kind) (x : Evaluation Reply State) (go : Reply → State → Going) → CallGoes body scope gives x
      → ((got : Reply) (u : State) → IsOkOfKind gives got → Holds services body scope u → GoesAt services body scope (go got u)) → GoesAt services body scope (then_on x go)
  call_then body scope gives Spent go h k = tt
  call_then body scope gives Missing go h k = tt
  call_then body scope gives (Done got u) go h k = k got u h.0 h.1

  module _ (run : Meaning) (runs : RunsSo run) (body : Body services) (scope : Scope) (request : PreparedCall) (t : State) (m : MethodTree)
      (there : method_at services request.callee.0 ≡ Some m) (takes : HaveKinds request.args (kinds_of_parameters m.params))
      (may : body.At request.entry.site request.callee.0) (h : Holds services body scope t) where
    holds_with : (how : How) (got : Reply) (left : ℕ) → IsOkOfKind m.gives got → FitsBelow services how → Holds services body scope (with_call t request how got left)
    holds_with how got left fits below = record {
      variables = h.variables;
      calls = body.more t.calls (asked_and_got request got) how h.calls may (record { callee = m; there = there; takes = takes; gives = fits }) below;
    }

    ran_goes : (x : Evaluation Tree ℕ) → BelowFits m.gives x → CallGoes body scope m.gives (then_on x (λ tree left. returned t request (Ran tree) (reply_of tree) left))
    ran_goes Spent k = tt
    ran_goes Missing k = tt
    ran_goes (Done tree left) k = (k.1, holds_with (Ran tree) (reply_of tree) left k.1 k.0)

    known_goes : (got : Reply) (steps : ℕ) (injected : List MethodId) (fits : Bool) → IsOkOfKind m.gives got
        → CallGoes body scope m.gives (if fits then returned t request (KnownHow steps injected) got (t.fuel - steps) else Spent)
    unfolding CallsFit
    known_goes got steps injected false ok = tt
    known_goes got steps injected true ok = (ok, holds_with (KnownHow steps injected) got (t.fuel - steps) ok tt)

    decision_goes : (index : List Occurrence) (decision : Option Decision) → GivesKind m.gives decision → CallGoes body scope m.gives (decided_by services run index decision request t)
    unfolding CallsFit
    decision_goes index None ok = tt
    decision_goes index (Some Forward) ok = ran_goes _ (method_so request.callee m there run runs request.args index t.fuel takes)
    decision_goes index (Some (Fault got)) ok = (ok, holds_with Faulted got t.fuel ok tt)
    decision_goes index (Some (Known got steps injected)) ok = known_goes got steps injected (nat_le steps t.fuel) ok

    call_goes_so : (frame : Frame) → CallGoes body scope m.gives (decided services source run frame request t)
    call_goes_so frame = decision_goes (index_of_call frame request) _ (gives_kinds (index_of_call frame request) request.callee.0 request.args m there)

  -- what is prepared of a call
  record IsPrepared (whose : Whose) (at : Position) (service method : List ℕ) (args : Expressions) (t : State) (request : PreparedCall) : Type 0 where
    number : number_in (declarations_of services) service method ≡ Some request.callee.0
    values : values_of services (environment whose t) args ≡ Some request.args
    site : request.entry.site ≡ at.sites + 1

  is_prepared : (whose : Whose) (at : Position) (service method : List ℕ) (args : Expressions) (t : State) (request : PreparedCall)
      → prepared services whose at service method args t ≡ Some request → IsPrepared whose at service method args t request
  is_prepared whose at service method args t request e =
      let callee = some_of (number_in (declarations_of services) service method) _ request e in
      let values = some_of (values_of services (environment whose t) args) _ request callee.2 in
      let made : PreparedCall = record { entry = entry_at (at.sites + 1) t.calls; callee = record { 0 = callee.0 }; args = values.0 } in
      let same : made ≡ request = cc in
      record {
        number = callee.1 ∙ ap (λ (r : PreparedCall). Some r.callee.0) same;
        values = values.1 ∙ ap (λ (r : PreparedCall). Some r.args) same;
        site = sym (ap (λ (r : PreparedCall). r.entry.site) same);
      }

  -- ---- statements

  module _ (run : Meaning) (runs : RunsSo run) (body : Body services) (frame : Frame) (is : IsOf body.whose frame.whose)
      (looping : Bool) (declared : Variables) (at : Position) (scope : Scope) (t : State) (d : Declares scope declared) (h : Holds services body scope t) where
    one_declared : (name : List ℕ) (k l : Kind) → declared name k → declared name l → k ≡ l
    one_declared name k l a b = one_found (kind_named scope name) k l ((d name k).0 a) ((d name l).0 b)

    has_value : (e : Expression) (kind : Kind) (v : Value) → HasKindIn services body.whose declared e kind → value_here services frame.whose t e ≡ Some v → HasKind v kind
    has_value e kind v has found =
        given_some (λ w. HasKind w kind) (value_here services frame.whose t e) v
        (value_fits tables services body.whose declared (environment frame.whose t) scope d h.variables e kind has) found

    abbrev stays : Going → Type 0
    stays x = GoesAt services body scope x

    fault_ends : (of : Whose) (number : ℕ) (after : Variables) → EndsSo services body scope after (fault_flow of number) t
    fault_ends OfMethod number after = record {
      more = [];
      holds = subst (λ s. Holds services body s t) (sym (append-nil scope)) h;
      fits = err_fits body.whose (codes "internal");
      next = tt;
    }
    fault_ends OfTest number after = record { more = []; holds = subst (λ s. Holds services body s t) (sym (append-nil scope)) h; fits = tt; next = tt }

    let_ends : (name : List ℕ) (value : Expression) (kind : Kind) → HasKindIn services body.whose declared value kind → (o : Option (List NamedValue))
        → (value_here services frame.whose t value >>= λ v. with_variable name v t.variables) ≡ o
        → GoesSo services body scope (and_variable name (HasKindIn services body.whose declared value) declared) (with_variables frame.whose at t o (Done Next))
    let_ends name value kind has None e = fault_ends frame.whose (at.statements + 1) _
    let_ends name value kind has (Some vs) e =
        let parts = some_of (value_here services frame.whose t value) (λ v. with_variable name v t.variables) vs e in
        let more = added scope t.variables vs name parts.0 kind h.variables (has_value value kind parts.0 has parts.1) parts.2 in
        record {
          more = binding_of name kind ∷ [];
          holds = record { variables = more.hold; calls = h.calls };
          fits = tt;
          next = declares_more scope declared name kind (HasKindIn services body.whose declared value) d more.new has
              (λ other also. one_kind services body.whose declared one_declared value other kind also has);
        }

    assign_stays : (name : List ℕ) (value : Expression) (kind : Kind) → HasKindIn services body.whose declared value kind → declared name kind
        → stays (with_variables frame.whose at t (value_here services frame.whose t value >>= λ v. with_value_of name v t.variables) (Done Next))
    assign_stays name value kind has there =
        variables_at services body scope frame.whose at t (value_here services frame.whose t value >>= λ v. with_value_of name v t.variables) (Done Next) h
        (λ vs e. (let parts = some_of (value_here services frame.whose t value) (λ v. with_value_of name v t.variables) vs e in
        record {
          holds = record {
            variables = assigned scope t.variables vs name parts.0 kind h.variables ((d name kind).0 there) (has_value value kind parts.0 has parts.1) parts.2;
            calls = h.calls;
          };
          fits = tt;
        }))

    if_stays : (inside : Position) (cond : Expression) (ss : Statements) (other : State → Going) → BlockFits services body.whose looping declared ss
        → SitesAre (IsSite services body) inside.sites (sites ss) → stays (other t)
        → stays (with_some frame.whose at t (value_here services frame.whose t cond >>= truth_of) (λ decides. chosen run frame inside ss other decides t))
    if_stays inside cond ss other fits placed k =
        some_at services body scope frame.whose at t (value_here services frame.whose t cond >>= truth_of) (λ decides. chosen run frame inside ss other decides t) h
        (λ decides e. chosen_at services body run frame (runs body frame is) looping declared inside ss other decides scope t fits placed d h k)

    for_stays : (inside : Position) (name : List ℕ) (over : Expression) (ss : Statements) (list item : Kind) → HasKindIn services body.whose declared over list → kind_of_list item ≡ Some list
        → BlockFits services body.whose true (and_variable name (λ kind. kind ≡ item) declared) ss → SitesAre (IsSite services body) inside.sites (sites ss)
        → stays (with_some frame.whose at t (value_here services frame.whose t over >>= items_of) (λ vs. for_goes run frame at inside name ss vs t))
    for_stays inside name over ss list item has made fits placed =
        some_at services body scope frame.whose at t (value_here services frame.whose t over >>= items_of) (λ vs. for_goes run frame at inside name ss vs t) h
        (λ vs e. (let parts = some_of (value_here services frame.whose t over) items_of vs e in
        for_at services body run frame (runs body frame is) declared at inside name item ss fits placed scope d vs t
        (list_items parts.0 vs list item (has_value over list parts.0 has parts.1) made parts.2) h))

    return_stays : (value : Expression) (gives : Kind) → body.whose ≡ owner.Method gives → HasKindIn services body.whose declared value gives
        → stays (with_some frame.whose at t (value_here services frame.whose t value >>= λ v. answer_flow frame.whose (reply.Ok v)) (λ flow. Done flow t))
    return_stays value gives of has =
        some_at services body scope frame.whose at t (value_here services frame.whose t value >>= λ v. answer_flow frame.whose (reply.Ok v)) (λ flow. Done flow t) h
        (λ flow e. (let parts = some_of (value_here services frame.whose t value) (λ v. answer_flow frame.whose (reply.Ok v)) flow e in
        let fits : AnswerFits body.whose (reply.Ok parts.0) = subst (λ w. AnswerFits w (reply.Ok parts.0)) (sym of) (has_value value gives parts.0 has parts.1) in
        record { holds = h; fits = answer_fits body.whose frame.whose (reply.Ok parts.0) flow parts.2 fits }))

    fail_stays : (code : List ℕ) → stays (with_some frame.whose at t (answer_flow frame.whose (reply.Err code)) (λ flow. Done flow t))
    fail_stays code =
        some_at services body scope frame.whose at t (answer_flow frame.whose (reply.Err code)) (λ flow. Done flow t) h
        (λ flow e. record { holds = h; fits = answer_fits body.whose frame.whose (reply.Err code) flow e (err_fits body.whose code) })

    assert_stays : (cond : Expression)
        → stays (with_some frame.whose at t (value_here services frame.whose t cond >>= truth_of >>= assert_flow frame.whose (at.asserts + 1)) (λ flow. Done flow t))
    assert_stays cond =
        some_at services body scope frame.whose at t (value_here services frame.whose t cond >>= truth_of >>= assert_flow frame.whose (at.asserts + 1)) (λ flow. Done flow t) h
        (λ flow e. (let parts = some_of (value_here services frame.whose t cond >>= truth_of) (assert_flow frame.whose (at.asserts + 1)) flow e in
        record { holds = h; fits = assert_fits body.whose frame.whose (at.asserts + 1) parts.0 flow parts.2 }))

    call_stays : (inside : Position) (target service method : List ℕ) (args : Expressions) (hs : Handlers) (params : List Kind) (gives : Kind) → HasMethod services service method params gives
        → HaveKindsIn services body.whose declared args params → declared target gives → HandlersFit services body.whose looping declared hs
        → IsSite services body (at.sites + 1) (record { service = service; method = method }) → SitesAre (IsSite services body) inside.sites (handler_sites hs)
        → stays (with_some frame.whose at t (prepared services frame.whose at service method args t)
        (λ request. then_on (decided services source run frame request t) (taken run frame at inside target hs)))
    call_stays inside target service method args hs params gives has fit there fits site placed =
        some_at services body scope frame.whose at t (prepared services frame.whose at service method args t)
        (λ request. then_on (decided services source run frame request t) (taken run frame at inside target hs)) h
        (λ request e. (let parts = is_prepared frame.whose at service method args t request e in
        let found = knows.named service method params gives request.callee.0 has parts.number in
        let takes : HaveKinds request.args (kinds_of_parameters (found.0).params) =
        subst (HaveKinds request.args) (sym found.2)
        (given_some (λ vs. HaveKinds vs params) (values_of services (environment frame.whose t) args) request.args
        (arguments_fit tables services body.whose declared (environment frame.whose t) scope d h.variables args params fit) parts.values) in
        let may : body.At request.entry.site request.callee.0 = subst (λ k. body.At k request.callee.0) (sym parts.site) (site request.callee.0 parts.number) in
        call_then body scope (found.0).gives (decided services source run frame request t) (taken run frame at inside target hs)
        (call_goes_so run runs body scope request t found.0 found.1 takes may h frame)
        (λ got u ok holds. taken_at services body run frame (runs body frame is) looping declared at inside target gives hs got scope u
        (subst (λ k. IsOkOfKind k got) found.3 ok) there fits placed d holds)))

    act_so : (s : Statement) → Fits services body.whose looping declared s → SitesAre (IsSite services body) at.sites (statement_sites s)
        → GoesSo services body scope (behind services body.whose declared s) (act services source run frame at s t)
    unfolding act block_counts
    act_so (Let name value) fits placed = let_ends name value fits.1.0 fits.1.1 _ refl
    act_so (Assign name value) fits placed = at_so services body scope declared _ d (assign_stays name value fits.0 fits.1 fits.2)
    act_so (If cond ss) fits placed =
        at_so services body scope declared _ d
        (if_stays (inside_of at (If cond ss)) cond ss (Done Next) fits.1 (sites_moved (IsSite services body) at.sites ((inside_of at (If cond ss)).sites) (sites ss) (omega arith) placed)
        (record { holds = h; fits = tt }))
    act_so (IfElse cond ss other) fits placed =
        let inside = inside_of at (IfElse cond ss other) in
        let first = sites_front (IsSite services body) at.sites (sites ss) (sites other) placed in
        let second = sites_behind (IsSite services body) at.sites (sites ss) (sites other) placed in
        at_so services body scope declared _ d
        (if_stays inside cond ss (block_goes run frame (past inside (block_counts ss)) other) fits.1
        (sites_moved (IsSite services body) at.sites (inside.sites) (sites ss) (omega arith) first)
        (block_at services body run frame (runs body frame is) looping declared (past inside (block_counts ss)) other scope t fits.2
        (sites_moved (IsSite services body) (at.sites + length (sites ss)) ((past inside (block_counts ss)).sites) (sites other) (omega (arith, sites_count ss)) second) d h))
    act_so (Repeat times ss) fits placed =
        at_so services body scope declared _ d
        (repeat_at services body run frame (runs body frame is) declared (inside_of at (Repeat times ss)) ss times scope t fits
        (sites_moved (IsSite services body) at.sites ((inside_of at (Repeat times ss)).sites) (sites ss) (omega arith) placed) d h)
    act_so (For name over ss) fits placed =
        at_so services body scope declared _ d
        (for_stays (inside_of at (For name over ss)) name over ss fits.0 fits.1 fits.2 fits.3 fits.5
        (sites_moved (IsSite services body) at.sites ((inside_of at (For name over ss)).sites) (sites ss) (omega arith) placed))
    act_so Break fits placed = at_so services body scope declared (Done Broke t) d (record { holds = h; fits = tt })
    act_so (Return value) fits placed = at_so services body scope declared _ d (return_stays value fits.0 fits.1 fits.2)
    act_so (Fail code) fits placed = at_so services body scope declared _ d (fail_stays code)
    act_so (Call target service method args hs) fits placed =
        at_so services body scope declared _ d
        (call_stays (inside_of at (Call target service method args hs)) target service method args hs fits.0 fits.1 fits.2 fits.3 fits.4 fits.5 placed.0 placed.1)
    act_so (Assert cond) fits placed = at_so services body scope declared _ d (assert_stays cond)

  -- ---- every bound, and so the meaning

  unit_so : (body : Body services) (scope : Scope) (after : Variables) (t : State) (go : State → Going) (fuel : ℕ) → Holds services body scope t
      → ((u : State) → Holds services body scope u → GoesSo services body scope after (go u)) → GoesSo services body scope after (with_unit_of t go fuel)
  unit_so body scope after t go zero h k = tt
  unit_so body scope after t go (suc left) h k = k (begun left t) (record { variables = h.variables; calls = h.calls })

  pub within_so : (bound : ℕ) → RunsSo (within services source bound)
  unfolding within
  within_so zero body frame is looping declared at s scope t fits placed d h = tt
  within_so (suc bound) body frame is looping declared at s scope t fits placed d h =
      unit_so body scope (behind services body.whose declared s) t (act services source (within services source bound) frame at s) t.fuel h
      (λ u holds. act_so (within services source bound) (within_so bound) body frame is looping declared at scope u d holds s fits placed)

  pub meaning_so : RunsSo (meaning services source)
  unfolding meaning
  meaning_so body frame is looping declared at s scope t fits placed d h = within_so t.fuel body frame is looping declared at s scope t fits placed d h
