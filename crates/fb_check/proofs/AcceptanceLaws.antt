-- A source is accepted exactly where nothing is refused.
use Rattle.std.proofs.Common.{◌≡◌, ◌↔◌, ℕ, suc, Bool, true, false, ◌||◌, cond, is_some, IsNone, bytes_eq, List, [], ◌∷◌, ◌++◌, map, All, Contains, Some, None, Ok, Err, refl, sym, ap, subst, inl, inr, ◌⊎◌, ⊎_elim, arith}
use Rattle.std.specs.List.{list_any}
use Rattle.std.proofs.lemmas.List.{map-append}
use Rattle.std.proofs.lemmas.List.Elements.{All-nil, All-cons, All-head, All-tail, All-weaker}
use Rattle.fb_base.specs.declared.kind.Kind.{Kind}
use Rattle.fb_syntax.specs.Trees.{Parameter, MethodTree, ServiceTree, ServicesTree, TestTree}
use Rattle.fb_check.specs.declared.binding.Binding.{Binding}
use Rattle.fb_check.specs.declared.owner.Owner.TheVariants as owner
use Rattle.fb_check.specs.declared.declarations.Declarations.{Declarations}
use Rattle.fb_check.specs.Scopes.{Scope, kind_named, with_binding, with_parameters}
use Rattle.fb_check.specs.Declarations.{service_names, declarations_of}
use Rattle.fb_graph.specs.FirstCycle.{first_cycle}
use Rattle.fb_check.specs.Calls.{rank_limit, graph_of, first_deep}
use Rattle.fb_check.specs.ExpressionKinds.{Context}
use Rattle.fb_check.specs.StatementChecks.{statements_check}
use Rattle.fb_check.specs.Ends.{block_ends}
use Rattle.fb_check.specs.FirstRefusal.{Checked, refusal_in, body_check, missing_end_unless, method_check, methods_check, services_check, services_named, source_check, test_check, first_refusal, first_refusal_of_test}
use Rattle.fb_check.specs.Accepted.{AllDiffer, Variables, with_variable, no_variables, BlockFits, Ends, has_parameters, IsAcceptedMethod, IsAcceptedService, IsAccepted, IsAcceptedTest}
use Rattle.fb_base.proofs.Results.{ok_then, then_is}
use Rattle.fb_check.proofs.KindLaws.{Agrees, Knows}
use Rattle.fb_check.proofs.CallLaws.{Tested, ChainsEnd, FirstCycles, AreShallow, rank-not_deep, ranked_below, none-shallow, shallow-none, nothing_refused, nothing_refused-none}
use Rattle.fb_check.proofs.MethodTables.{length-graph}
use Rattle.fb_check.proofs.ScopeLaws.{agrees-declare}
use Rattle.fb_check.proofs.StatementLaws.{block_sound, block_complete}
use Rattle.fb_check.proofs.NameLaws.{Fresh, differ_fresh, ParametersDiffer, ServiceDiffers, names_sound, names_complete}
use Rattle.fb_check.proofs.EndLaws.{ends_block, block_has_end}
use Rattle.fb_check.proofs.DeclarationLaws.{contains_head, contains_tail, contains_cases, knows_declarations}

-- ---- the variables with which a body begins

abbrev binding_names : Scope → List (List ℕ)
binding_names = map (λ binding. binding.name)

none_at : (name : List ℕ) (kind : Kind) (scope : Scope) (b : Bool) → (b || list_any (bytes_eq name) (binding_names scope)) ≡ false
    → (list_any (bytes_eq name) (binding_names scope) ≡ false → kind_named scope name ≡ None) → cond b (Some kind) (kind_named scope name) ≡ None
none_at name kind scope true none later = absurd (cc)
none_at name kind scope false none later = later none

none_named : (name : List ℕ) (scope : Scope) → list_any (bytes_eq name) (binding_names scope) ≡ false → kind_named scope name ≡ None
none_named name [] none = refl
none_named name (binding ∷ scope) none = none_at name binding.kind scope (bytes_eq name binding.name) none (none_named name scope)

like : (scope : Scope) (these those : Variables) → ((name : List ℕ) (kind : Kind) → these name kind → those name kind)
    → ((name : List ℕ) (kind : Kind) → those name kind → these name kind) → Agrees scope these → Agrees scope those
like scope these those on back agrees = record {
  found = λ name kind is. on name kind (agrees.found name kind is);
  there = λ name kind has. agrees.there name kind (back name kind has);
}

-- the variables, and those of the parameters
abbrev and_parameters : Variables → List Parameter → Variables
and_parameters variables params name kind = variables name kind ⊎ Contains params (record { name = name; kind = kind })

with_first : (param : Parameter) (variables : Variables) (params : List Parameter) (name : List ℕ) (kind : Kind)
    → and_parameters (with_variable param.name (λ k. k ≡ param.kind) variables) params name kind → and_parameters variables (param ∷ params) name kind
with_first param variables params name kind (inl (inl here)) =
    inr (subst (λ (p : Parameter). Contains (param ∷ params) p) (λ i. record { name = sym here.0 i; kind = sym here.1 i }) (contains_head param params))
with_first param variables params name kind (inl (inr before)) = inl before
with_first param variables params name kind (inr later) = inr (contains_tail param (record { name = name; kind = kind }) params later)

first_with : (param : Parameter) (variables : Variables) (params : List Parameter) (name : List ℕ) (kind : Kind)
    → and_parameters variables (param ∷ params) name kind → and_parameters (with_variable param.name (λ k. k ≡ param.kind) variables) params name kind
first_with param variables params name kind (inl before) = inl (inr before)
first_with param variables params name kind (inr has) =
    ⊎_elim (λ same. inl (inl (ap (λ (p : Parameter). p.name) (sym same), ap (λ (p : Parameter). p.kind) (sym same)))) inr
    (contains_cases param (record { name = name; kind = kind }) params has)

parameters_agree : (params : List Parameter) (scope : Scope) (variables : Variables) → Agrees scope variables → Fresh (binding_names scope) (map (λ param. param.name) params)
    → Agrees (with_parameters scope params) (and_parameters variables params)
parameters_agree [] scope variables agrees fresh =
    like scope variables (and_parameters variables []) (λ name kind has. inl has)
    (λ name kind. ⊎_elim (λ has. has) (λ has. absurd (nothing_in (record { name = name; kind = kind }) has))) agrees where
      nothing_in : (param : Parameter) → Contains [] param → ⊥
      nothing_in param has = absurd (omega (arith, has.1))
parameters_agree (param ∷ params) scope variables agrees fresh =
    let binding : Binding = record { name = param.name; kind = param.kind } in
    let none = none_named param.name scope fresh.0 in
    let declared = agrees-declare scope variables agrees param.name param.kind none (λ k. k ≡ param.kind) refl (λ other same. same) in
    let names : binding_names (scope ++ binding ∷ []) ≡ binding_names scope ++ param.name ∷ [] = map-append (λ (b : Binding). b.name) scope (binding ∷ []) in
    let rest = parameters_agree params (scope ++ binding ∷ []) (with_variable param.name (λ k. k ≡ param.kind) variables) declared
    (subst (λ earlier. Fresh earlier (map (λ p. p.name) params)) (sym names) fresh.1) in
    let same : with_binding scope binding ≡ scope ++ binding ∷ [] = ap (λ found. cond (is_some found) scope (scope ++ binding ∷ [])) none in
    subst (λ s. Agrees (with_parameters s params) (and_parameters variables (param ∷ params))) (sym same)
    (like (with_parameters (scope ++ binding ∷ []) params) (and_parameters (with_variable param.name (λ k. k ≡ param.kind) variables) params) (and_parameters variables (param ∷ params))
    (with_first param variables params) (first_with param variables params) rest)

nothing_agrees : Agrees [] no_variables
nothing_agrees = record {
  found = λ name kind is. absurd (cc);
  there = λ name kind has. absurd has;
}

method_agrees : (method : MethodTree) → ParametersDiffer method → Agrees (with_parameters [] method.params) (has_parameters method)
method_agrees method differ =
    like (with_parameters [] method.params) (and_parameters no_variables method.params) (has_parameters method)
    (λ name kind. ⊎_elim (λ has. absurd has) (λ has. has)) (λ name kind has. inr has)
    (parameters_agree method.params [] no_variables nothing_agrees (differ_fresh (map (λ param. param.name) method.params) [] differ))

-- ---- bodies

body_sound : (tree : ServicesTree) (about : Context) → Knows about.declared tree → (scope : Scope) (variables : Variables) → Agrees scope variables → (body : _) (x : Unit {0})
    → body_check about scope body ≡ Ok x → BlockFits tree about.owner false variables body
body_sound tree about knows scope variables agrees body x h =
    let parts = ok_then (statements_check about false body (record { scope = scope; number = 0 })) _ x h in
    block_sound tree about knows false variables body (record { scope = scope; number = 0 }) parts.0.1 agrees parts.1

body_complete : (tree : ServicesTree) (about : Context) → Knows about.declared tree → (scope : Scope) (variables : Variables) → Agrees scope variables → (body : _)
    → BlockFits tree about.owner false variables body → body_check about scope body ≡ Ok tt
body_complete tree about knows scope variables agrees body fits =
    let passed = block_complete tree about knows false variables body (record { scope = scope; number = 0 }) agrees fits in
    then_is (statements_check about false body (record { scope = scope; number = 0 })) _ (tt, passed.0) tt passed.1 refl

ended_ok : (s m : ℕ) (ends : Bool) (x : Unit {0}) → missing_end_unless s m ends ≡ Ok x → ends ≡ true
ended_ok s m true x h = refl
ended_ok s m false x h = absurd (cc)

-- what the check of bodies says of a method whose parameters differ
record BodyFits (tree : ServicesTree) (method : MethodTree) : Type 0 where
  fits : BlockFits tree (owner.Method method.gives) false (has_parameters method) method.body
  ends : Ends method.body

module _ (tree : ServicesTree) (declared : Declarations) (knows : Knows declared tree) where
  method_sound : (s m : ℕ) (method : MethodTree) (x : Unit {0}) → ParametersDiffer method → method_check declared s m method ≡ Ok x → BodyFits tree method
  unfolding method_check
  method_sound s m method x differ h =
      let about : Context = record { declared = declared; owner = owner.Method method.gives; service = s; method = m } in
      let first = ok_then (body_check about (with_parameters [] method.params) method.body) _ x h in
      record {
        fits = body_sound tree about knows (with_parameters [] method.params) (has_parameters method) (method_agrees method differ) method.body first.0 first.1;
        ends = ends_block method.body (ended_ok s m (block_ends method.body) x first.2);
      }

  method_complete : (s m : ℕ) (method : MethodTree) → ParametersDiffer method → BodyFits tree method → method_check declared s m method ≡ Ok tt
  unfolding method_check
  method_complete s m method differ fits =
      let about : Context = record { declared = declared; owner = owner.Method method.gives; service = s; method = m } in
      then_is (body_check about (with_parameters [] method.params) method.body) _ tt tt
      (body_complete tree about knows (with_parameters [] method.params) (has_parameters method) (method_agrees method differ) method.body fits.fits)
      (ap (missing_end_unless s m) (block_has_end method.body fits.ends))

  methods_sound : (s m : ℕ) (methods : List MethodTree) (x : Unit {0}) → All ParametersDiffer methods → methods_check declared s m methods ≡ Ok x → All (BodyFits tree) methods
  unfolding methods_check
  methods_sound s m [] x differ h = All-nil (BodyFits tree)
  methods_sound s m (method ∷ methods) x differ h =
      let first = ok_then (method_check declared s m method) _ x h in
      All-cons (BodyFits tree) method methods (method_sound s m method first.0 (All-head ParametersDiffer method methods differ) first.1)
      (methods_sound s (suc m) methods x (All-tail ParametersDiffer method methods differ) first.2)

  methods_complete : (s m : ℕ) (methods : List MethodTree) → All ParametersDiffer methods → All (BodyFits tree) methods → methods_check declared s m methods ≡ Ok tt
  unfolding methods_check
  methods_complete s m [] differ fit = refl
  methods_complete s m (method ∷ methods) differ fit =
      then_is (method_check declared s m method) _ tt tt (method_complete s m method (All-head ParametersDiffer method methods differ) (All-head (BodyFits tree) method methods fit))
      (methods_complete s (suc m) methods (All-tail ParametersDiffer method methods differ) (All-tail (BodyFits tree) method methods fit))

  abbrev BodiesFit : ServiceTree → Type 0
  BodiesFit service = All (BodyFits tree) service.methods

  services_sound : (s : ℕ) (services : List ServiceTree) (x : Unit {0}) → All ServiceDiffers services → services_check declared s services ≡ Ok x → All BodiesFit services
  unfolding services_check
  services_sound s [] x differ h = All-nil BodiesFit
  services_sound s (service ∷ services) x differ h =
      let first = ok_then (methods_check declared s 1 service.methods) _ x h in
      All-cons BodiesFit service services (methods_sound s 1 service.methods first.0 (All-head ServiceDiffers service services differ).params_differ first.1)
      (services_sound (suc s) services x (All-tail ServiceDiffers service services differ) first.2)

  services_complete : (s : ℕ) (services : List ServiceTree) → All ServiceDiffers services → All BodiesFit services → services_check declared s services ≡ Ok tt
  unfolding services_check
  services_complete s [] differ fit = refl
  services_complete s (service ∷ services) differ fit =
      then_is (methods_check declared s 1 service.methods) _ tt tt
      (methods_complete s 1 service.methods (All-head ServiceDiffers service services differ).params_differ (All-head BodiesFit service services fit))
      (services_complete (suc s) services (All-tail ServiceDiffers service services differ) (All-tail BodiesFit service services fit))

-- ---- the whole

nothing_found : (found : Checked) → IsNone (refusal_in found) → found ≡ Ok tt
nothing_found (Ok x) none = refl
nothing_found (Err refusal) none = absurd (cc)

-- names that differ and bodies that fit are accepted methods
join_methods : (tree : ServicesTree) (methods : List MethodTree) → All ParametersDiffer methods → All (BodyFits tree) methods → All (IsAcceptedMethod tree) methods
join_methods tree methods differ fit k d within = record {
  parameters_differ = differ k d within;
  body_fits = (fit k d within).fits;
  body_ends = (fit k d within).ends;
}

join_services : (tree : ServicesTree) (services : List ServiceTree) → All ServiceDiffers services → All (λ service. All (BodyFits tree) service.methods) services
    → All (IsAcceptedService tree) services
join_services tree services differ fit k d within = record {
  methods_differ = (differ k d within).methods_differ;
  methods_accepted = join_methods tree _ (differ k d within).params_differ (fit k d within);
}

service_differs : (tree : ServicesTree) (service : ServiceTree) → IsAcceptedService tree service → ServiceDiffers service
service_differs tree service accepted = record {
  methods_differ = accepted.methods_differ;
  params_differ = λ k d within. (accepted.methods_accepted k d within).parameters_differ;
}

bodies_fit : (tree : ServicesTree) (service : ServiceTree) → IsAcceptedService tree service → All (BodyFits tree) service.methods
bodies_fit tree service accepted k d within = record {
  fits = (accepted.methods_accepted k d within).body_fits;
  ends = (accepted.methods_accepted k d within).body_ends;
}

-- what holds of accepted services, their calls left aside
pub record AreWellFormed (tree : ServicesTree) : Type 0 where
  pub services_differ : AllDiffer (service_names tree.services)
  pub services_accepted : All (IsAcceptedService tree) tree.services

-- what a program keeps of its services
pub accepted_from : (tree : ServicesTree) → IsNone (first_refusal tree) → AreWellFormed tree
unfolding source_check
accepted_from tree none =
    let passed = nothing_found (source_check tree) none in
    let first = ok_then (services_named 1 [] tree.services) _ tt passed in
    let bodies = ok_then (services_check (declarations_of tree) 1 tree.services) _ tt first.2 in
    let names = names_sound tree.services first.0 first.1 in
    let knows = knows_declarations tree names.0 names.1 in
    record {
      services_differ = names.0;
      services_accepted = join_services tree tree.services names.1 (services_sound tree (declarations_of tree) knows 1 tree.services bodies.0 names.1 bodies.1);
    }

pub calls_sound : (tree : ServicesTree) → IsNone (first_refusal tree) → first_deep (graph_of tree) ≡ None
unfolding source_check
calls_sound tree none =
    let passed = nothing_found (source_check tree) none in
    let first = ok_then (services_named 1 [] tree.services) _ tt passed in
    let bodies = ok_then (services_check (declarations_of tree) 1 tree.services) _ tt first.2 in
    nothing_refused-none (declarations_of tree) (first_cycle (graph_of tree)) (first_deep (graph_of tree)) tt bodies.2

accepted_sound : Tested → (tree : ServicesTree) → IsNone (first_refusal tree) → IsAccepted tree
accepted_sound tested tree none =
    let formed = accepted_from tree none in
    let shallow = none-shallow tested (graph_of tree) (calls_sound tree none) in
    record {
      services_differ = formed.services_differ;
      services_accepted = formed.services_accepted;
      ranked = λ m within. ranked_below tested (graph_of tree) m rank_limit (shallow m (omega (arith, within, length-graph tree)));
    }

-- each method has a rank, so no chain is too deep
pub accepted_shallow : (tree : ServicesTree) → IsAccepted tree → AreShallow (graph_of tree)
accepted_shallow tree accepted m within =
    let ranked = accepted.ranked m (omega (arith, within, length-graph tree)) in
    rank-not_deep (graph_of tree) m ranked.0 ranked.1 ranked.2

accepted_complete : Tested → ChainsEnd → FirstCycles → (tree : ServicesTree) → IsAccepted tree → IsNone (first_refusal tree)
unfolding source_check
accepted_complete tested ends first tree accepted =
    let differ = All-weaker (IsAcceptedService tree) ServiceDiffers (service_differs tree) tree.services accepted.services_accepted in
    let fit = All-weaker (IsAcceptedService tree) (λ service. All (BodyFits tree) service.methods) (bodies_fit tree) tree.services accepted.services_accepted in
    let knows = knows_declarations tree accepted.services_differ differ in
    let shallow = accepted_shallow tree accepted in
    ap (λ found. is_some (refusal_in found))
    (then_is (services_named 1 [] tree.services) _ tt tt (names_complete tree.services accepted.services_differ differ)
    (then_is (services_check (declarations_of tree) 1 tree.services) _ tt tt (services_complete tree (declarations_of tree) knows 1 tree.services differ fit)
    (nothing_refused ends first (graph_of tree) (declarations_of tree) shallow (shallow-none tested (graph_of tree) shallow))))

pub accepted_exactly : Tested → ChainsEnd → FirstCycles → (tree : ServicesTree) → IsNone (first_refusal tree) ↔ IsAccepted tree
accepted_exactly tested ends first tree = (accepted_sound tested tree, accepted_complete tested ends first tree)

-- what accepted services declare is known
pub accepted_knows : (tree : ServicesTree) → AreWellFormed tree → Knows (declarations_of tree) tree
accepted_knows tree accepted =
    knows_declarations tree accepted.services_differ (All-weaker (IsAcceptedService tree) ServiceDiffers (service_differs tree) tree.services accepted.services_accepted)

-- an accepted test of accepted services
pub accepted_test_from : (tree : ServicesTree) (test : TestTree) → IsNone (first_refusal tree) → IsNone (first_refusal_of_test tree test) → IsAcceptedTest tree test
unfolding test_check
accepted_test_from tree test accepted none =
    let about : Context = record { declared = declarations_of tree; owner = owner.Test; service = 0; method = 0 } in
    body_sound tree about (accepted_knows tree (accepted_from tree accepted)) [] no_variables nothing_agrees test.body tt (nothing_found (test_check tree test) none)

accepted_test_complete : (tree : ServicesTree) (test : TestTree) → IsNone (first_refusal tree) → IsAcceptedTest tree test → IsNone (first_refusal_of_test tree test)
unfolding test_check
accepted_test_complete tree test accepted fits =
    let about : Context = record { declared = declarations_of tree; owner = owner.Test; service = 0; method = 0 } in
    ap (λ found. is_some (refusal_in found))
    (body_complete tree about (accepted_knows tree (accepted_from tree accepted)) [] no_variables nothing_agrees test.body fits)

pub test_accepted_exactly : (tree : ServicesTree) (test : TestTree) → IsNone (first_refusal tree) → IsNone (first_refusal_of_test tree test) ↔ IsAcceptedTest tree test
test_accepted_exactly tree test accepted = (accepted_test_from tree test accepted, accepted_test_complete tree test accepted)
