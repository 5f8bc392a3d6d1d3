-- The laws of kinds at run time.
use Rattle.std.specs.Prelude.{◌≡◌, ◌↔◌, ℕ, zero, suc, List, [], ◌∷◌, ◌++◌, All, Contains, flat_map, slice_get, IsNone, Option, Some, None, true, false, ⊤}
use Rattle.std.specs.Option.{option_map, option_and_then}
use Rattle.std.proofs.Common.{refl, sym, ap, ◌∙◌, subst}
use Rattle.std.proofs.lemmas.List.Elements.{All-nil, All-append, All-head, All-tail, All-contains}
use Rattle.std.proofs.lemmas.Option.{slice_get_within, get_or_from_slice_get}
use Rattle.fb_base.specs.declared.kind.Kind.{Kind}
use Rattle.fb_base.specs.declared.method.MethodName.{MethodName}
use Rattle.fb_base.specs.declared.reply.Reply.{Reply}
use Rattle.fb_base.specs.declared.reply.Reply.TheVariants as reply
use Rattle.fb_syntax.specs.Trees.{MethodTree, ServiceTree, ServicesTree, TestTree}
use Rattle.fb_check.specs.Accepted.{Variables, HasMethod, no_variables, IsAcceptedMethod, IsAcceptedService, IsAccepted, IsAcceptedTest, behind, has_parameters}
use Rattle.fb_check.specs.Declarations.{declarations_of, number_in, kinds_of_parameters}
use Rattle.fb_check.specs.FirstRefusal.{first_refusal, first_refusal_of_test}
use Rattle.fb_check.specs.Programs.{methods_of, method_at, signature_at, item_numbered, IsMethodAt, kinds_given, test_callee_at}
use Rattle.fb_check.specs.Scopes.{Scope}
use Rattle.fb_check.specs.Sites.{statement_sites, sites, callee_number}
use Rattle.fb_check.specs.declared.owner.Owner.{Owner}
use Rattle.fb_check.specs.declared.owner.Owner.TheVariants as owner
use Rattle.fb_check.specs.declared.signature.Signature.{Signature}
use Rattle.fb_check.proofs.DeclarationLaws.{unique}
use Rattle.fb_tree.specs.Runs.{TestRun}
use Rattle.fb_transport.specs.Sources.{fits_kind, injected_at, fault_or_forward}
use Rattle.fb_meaning.specs.Evaluations.{Spent, Missing, Done, Going, Next}
use Rattle.fb_meaning.specs.Kinds.{in_scope, EndsInKind, MethodsBeginSo, TestsBeginSo, BodiesGoOnSo, GivesKind, PlansGiveKinds, CallsFit, KeepsKinds, StatementsKeepKinds, MethodsKeepKinds, TestsKeepKinds}
use Rattle.fb_meaning.specs.Meaning.{meaning, method_meaning, test_meaning, test_frame, test_state}
use Rattle.fb_meaning.specs.Positions.{beginning}
use Rattle.fb_meaning.specs.Records.{IsOkOfKind}
use Rattle.fb_meaning.proofs.ExpressionValues.{FitTables}
use Rattle.fb_meaning.proofs.KindsKept.{Body, IsSite, EndsIn, GoesIn, GoesSo, statements_in}
use Rattle.fb_meaning.proofs.KindsOfBodies.{KnowsMethods, body_with, sites_with, BelowFits, method_so, meaning_so}
use Rattle.fb_meaning.proofs.MadeAgain.{test_made_by}
use Rattle.fb_meaning.proofs.OneKind.{one_found}
use Rattle.fb_meaning.proofs.PlanAnswers.{MayBeGiven, may_be_injected}
use Rattle.fb_meaning.proofs.SameVariables.{block_along}
use Rattle.fb_meaning.proofs.ScopeValues.{Declares}
use Rattle.fb_meaning.proofs.KindsOfItems.{parameters_scope, hold_parameters, declare_parameters}
use Rattle.fb_meaning.proofs.SitePlaces.{all_sites}
use Rattle.fb_meaning.proofs.SpelledRuns.{kind_there}

-- ---- methods by their names and numbers

-- what the laws of acceptance say
abbrev pub AcceptsExactly : Type 0
AcceptsExactly = (tree : ServicesTree) → IsNone (first_refusal tree) ↔ IsAccepted tree

abbrev pub AcceptsTestsExactly : Type 0
AcceptsTestsExactly = (tree : ServicesTree) (test : TestTree) → IsNone (first_refusal tree) → IsNone (first_refusal_of_test tree test) ↔ IsAcceptedTest tree test

abbrev pub NumbersJoin : Type 0
NumbersJoin =
    (tree : ServicesTree) → IsNone (first_refusal tree) → (method : ℕ) (name : MethodName) →
    (option_map (λ s. s.name) (signature_at tree method) ≡ Some name) ↔ (number_in (declarations_of tree) name.service name.method ≡ Some method)

abbrev pub TreesJoin : Type 0
TreesJoin =
    (tree : ServicesTree) (method position : ℕ) (name : MethodName) → option_map (λ s. s.name) (signature_at tree method) ≡ Some name →
    option_map (λ s. s.service) (signature_at tree method) ≡ Some position → IsMethodAt tree method position name

pub record Acceptance : Type 0 where
  pub exactly : AcceptsExactly
  pub tests_exactly : AcceptsTestsExactly
  pub numbers : NumbersJoin
  pub trees : TreesJoin

contained : {A : Type 0} (xs : List A) (k : ℕ) (x : A) → slice_get xs k ≡ Some x → Contains xs x
contained xs k x e = (k, slice_get_within xs k x e, get_or_from_slice_get xs k x x e)

numbered_contained : {A : Type 0} (xs : List A) (k : ℕ) (x : A) → item_numbered xs k ≡ Some x → Contains xs x
numbered_contained xs zero x e = absurd (cc)
numbered_contained xs (suc k) x e = contained xs k x e

mapped_some : {A B : Type 0} (f : A → B) (o : Option A) (y : B) → option_map f o ≡ Some y → (x : A) × (o ≡ Some x)
mapped_some f None y e = absurd (cc)
mapped_some f (Some x) y e = (x, refl)

all_accepted : (P : MethodTree → Type 0) (services : List ServiceTree) → All (λ service. All P service.methods) services → All P (flat_map (λ (service : ServiceTree). service.methods) services)
all_accepted P [] all = All-nil P
all_accepted P (service ∷ services) all =
    All-append P service.methods (flat_map (λ (x : ServiceTree). x.methods) services) (All-head (λ (x : ServiceTree). All P x.methods) service services all)
    (all_accepted P services (All-tail (λ (x : ServiceTree). All P x.methods) service services all))

module _ (acceptance : Acceptance) (services : ServicesTree) (none : IsNone (first_refusal services)) where
  accepted : IsAccepted services
  accepted = (acceptance.exactly services).0 none

  named_method : (service method : List ℕ) (params : List Kind) (gives : Kind) (n : ℕ) → HasMethod services service method params gives
      → number_in (declarations_of services) service method ≡ Some n
      → (m : MethodTree) × (method_at services n ≡ Some m) × (kinds_of_parameters m.params ≡ params) × (m.gives ≡ gives)
  named_method service method params gives n has number =
      let name : MethodName = record { service = service; method = method } in
      let signed : option_map (λ (s : Signature). s.name) (signature_at services n) ≡ Some name = (acceptance.numbers services none n name).1 number in
      let found = mapped_some (λ (s : Signature). s.name) (signature_at services n) name signed in
      let is = acceptance.trees services n (found.0).service name signed (ap (option_map (λ (s : Signature). s.service)) found.1) in
      let placed : Contains services.services is.service = numbered_contained services.services (found.0).service is.service is.placed in
      let same_service : is.service ≡ has.service =
      unique (λ (s : ServiceTree). s.name) services.services accepted.services_differ is.service has.service placed has.has_service (is.service_named ∙ sym has.service_named) in
      let fits : IsAcceptedService services is.service = All-contains (IsAcceptedService services) services.services is.service accepted.services_accepted placed in
      let there : Contains (is.service).methods has.method = subst (λ (s : ServiceTree). Contains s.methods has.method) (sym same_service) has.has_method in
      let same : is.method ≡ has.method =
      unique (λ (m : MethodTree). m.name) (is.service).methods fits.methods_differ is.method has.method is.has_method there (is.method_named ∙ sym has.method_named) in (
        is.method,
        is.numbered,
        ap (λ (m : MethodTree). kinds_of_parameters m.params) same ∙ has.takes_kinds,
        ap (λ (m : MethodTree). m.gives) same ∙ has.gives_kind,
      )

  accepted_at : (n : ℕ) (m : MethodTree) → method_at services n ≡ Some m → IsAcceptedMethod services m
  accepted_at n m e =
      All-contains (IsAcceptedMethod services) (methods_of services) m
      (all_accepted (IsAcceptedMethod services) services.services (λ k d within. (accepted.services_accepted k d within).methods_accepted)) (contained (methods_of services) n m e)

  pub knows_methods : KnowsMethods services
  knows_methods = record { named = named_method; accepted = accepted_at }

-- ---- plans

fits_ok : (kind : Kind) (given : Reply) → fits_kind given kind ≡ true → IsOkOfKind kind given
fits_ok kind (reply.Ok v) h = h
fits_ok kind (reply.Err code) h = tt

pub plans_give_kinds : PlansGiveKinds
plans_give_kinds services plan index callee args method there = by_fault (injected_at (kinds_given services) plan index callee) refl
  where
    by_fault : (fault : Option Reply) → fault ≡ injected_at (kinds_given services) plan index callee → GivesKind method.gives (Some (fault_or_forward fault))
    by_fault None e = tt
    by_fault (Some given) e =
        let may : MayBeGiven (kinds_given services) index callee (Some given) = may_be_injected (kinds_given services) index callee plan (Some given) e in
        let same : (may.1).0 ≡ method.gives = one_found (slice_get (kinds_given services) callee) (may.1).0 method.gives (may.1).1 (kind_there services callee method there) in
        fits_ok method.gives given (ap (fits_kind given) (sym same) ∙ (may.1).2)

-- ---- the laws

pub methods_keep_kinds : FitTables → Acceptance → MethodsKeepKinds
unfolding method_meaning
methods_keep_kinds tables acceptance services source none gives fuel m method args index tree left there takes e =
    let knows = knows_methods acceptance services none in
    (subst (BelowFits services source gives tables knows method.gives) e
    (method_so services source gives tables knows m method there (meaning services source) (meaning_so services source gives tables knows) args index fuel takes)).0

nothing_declared : Declares [] no_variables
nothing_declared name kind = (λ has. absurd has, λ is. absurd (cc))

pub tests_keep_kinds : FitTables → Acceptance → TestsKeepKinds
unfolding test_meaning CallsFit
tests_keep_kinds tables acceptance services test source none none_of_test gives fuel run left e =
    let knows = knows_methods acceptance services none in
    let body : Body services = body_with services source gives tables knows owner.Test (test_callee_at services test) in
    let goes = statements_in services body (meaning services source) test_frame (meaning_so services source gives tables knows body test_frame tt)
    false no_variables beginning test.body [] (test_state fuel) ((acceptance.tests_exactly services test none).0 none_of_test)
    (sites_with services source gives tables knows owner.Test (test_callee_at services test) (sites test.body)
    (λ k name found. ap (option_and_then (callee_number (declarations_of services))) found))
    nothing_declared (record { variables = tt; calls = tt }) in
    let by = test_made_by _ run left e in
    let ends : EndsIn services body [] by.flow by.after = subst (GoesIn services body []) by.done goes in
    subst (λ (r : TestRun). CallsFit services (test_callee_at services test) r.calls) (sym by.made) ends.holds.calls

-- nothing is asked of the sites
abbrev any_body : (services : ServicesTree) → Owner → Body services
any_body services whose = record {
  whose = whose;
  At = λ site callee. ⊤;
  Hold = λ calls. ⊤;
  more = λ before asked how h at fits below. tt;
}

keeps_kinds : (services : ServicesTree) (whose : Owner) (scope : Scope) (declared : Variables) (x : Going) → GoesSo services (any_body services whose) scope declared x → KeepsKinds whose scope declared x
keeps_kinds services whose scope declared Spent h = tt
keeps_kinds services whose scope declared Missing h = tt
keeps_kinds services whose scope declared (Done flow u) h = record { more = h.more; hold = h.holds.variables; next = h.next; fits = h.fits }

pub statements_keep_kinds : FitTables → Acceptance → StatementsKeepKinds
statements_keep_kinds tables acceptance services source none gives whose looping scope frame at s before is fits hold =
    keeps_kinds services whose scope _ (meaning services source frame at s before)
    (meaning_so services source gives tables (knows_methods acceptance services none) (any_body services whose) frame is looping (in_scope scope) at s scope before fits
    (all_sites (IsSite services (any_body services whose)) at.sites (statement_sites s) (λ k name found callee number. tt)) (λ name kind. (λ is. is, λ is. is)) (record { variables = hold; calls = tt }))

-- ---- where bodies begin and go on

pub methods_begin_so : Acceptance → MethodsBeginSo
methods_begin_so acceptance services none m method args there takes =
    let is = (knows_methods acceptance services none).accepted m method there in (
      parameters_scope method.params,
      hold_parameters method.params args takes,
      block_along services (owner.Method method.gives) false (has_parameters method) (in_scope (parameters_scope method.params))
          (declare_parameters method is.parameters_differ) method.body is.body_fits,
    )

pub tests_begin_so : Acceptance → TestsBeginSo
tests_begin_so acceptance services test none none_of_test =
    ([], tt, block_along services owner.Test false no_variables (in_scope []) nothing_declared test.body ((acceptance.tests_exactly services test none).0 none_of_test))

pub bodies_go_on_so : FitTables → Acceptance → BodiesGoOnSo
bodies_go_on_so tables acceptance services source none gives whose looping frame at s ss before after is there e =
    let kept : EndsInKind whose there.0 (behind services whose (in_scope there.0) s) Next after =
    subst (KeepsKinds whose there.0 (behind services whose (in_scope there.0) s)) e
    (statements_keep_kinds tables acceptance services source none gives whose looping there.0 frame at s before is there.2.0 there.1) in (
      there.0 ++ kept.more,
      kept.hold,
      block_along services whose looping (behind services whose (in_scope there.0) s) (in_scope (there.0 ++ kept.more)) kept.next ss there.2.1,
    )
