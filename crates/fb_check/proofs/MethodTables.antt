-- Methods by number: the signatures are those of the methods.
use Rattle.std.proofs.Common.{◌≡◌, ℕ, zero, suc, ◌+◌, ◌-◌, ◌*◌, ◌≤◌, ◌<◌, List, [], ◌∷◌, ◌++◌, map, flat_map, length, get_or, slice_get, option_map, Some, All, refl, sym, ap, ◌∙◌, subst, inl, inr, ◌⊎◌, ⊎_elim, length-append, arith}
use Rattle.std.proofs.lemmas.List.{map-append, length-map, get_or-map}
use Rattle.std.proofs.lemmas.List.Elements.{All-head, All-tail}
use Rattle.std.proofs.lemmas.Option.{slice_get-map, slice_get_within, get_or_from_slice_get}
use Rattle.fb_syntax.specs.Trees.{MethodTree, ServiceTree, ServicesTree}
use Rattle.fb_syntax.specs.declared.services.Service.{Service}
use Rattle.fb_syntax.specs.declared.services.Method.{Method}
use Rattle.fb_syntax.specs.Views.{view_method, view_service}
use Rattle.fb_syntax.specs.Limits.{most_methods, most_services}
use Rattle.fb_syntax.specs.Kept.{KeepsService, KeepsServicesLimits}
use Rattle.fb_check.specs.declared.body_tables.BodyTables.{BodyTables}
use Rattle.fb_check.specs.declared.declarations.Declarations.{Declarations}
use Rattle.fb_check.specs.declared.signature.Signature.{Signature}
use Rattle.fb_check.specs.Declarations.{kinds_of_parameters, signature_of, service_signatures, signatures_from, declarations_of}
use Rattle.fb_check.specs.Sites.{sites, callee_numbers}
use Rattle.fb_check.specs.Programs.{methods_of, kinds_given, callees_of}
use Rattle.fb_check.specs.Calls.{known_callees, graph_of}
use Rattle.fb_check.specs.Tables.{body_tables}
use Rattle.fb_check.proofs.DeclarationLemmas.{length-service_signatures}

-- what is the same of a method and of its signature
module _ {A : Type 0} (of_signature : Signature → A) (of_method : MethodTree → A) (same : (service : List ℕ) (s m : ℕ) (method : MethodTree) → of_signature (signature_of service s m method) ≡ of_method method) where
  map-service_signatures : (service : List ℕ) (s m : ℕ) (methods : List MethodTree) → map of_signature (service_signatures service s m methods) ≡ map of_method methods
  map-service_signatures service s m [] = refl
  map-service_signatures service s m (method ∷ methods) = λ i. same service s m method i ∷ map-service_signatures service s (suc m) methods i

  pub map-signatures_from : (s : ℕ) (services : List ServiceTree) → map of_signature (signatures_from s services) ≡ map of_method (flat_map (λ (x : ServiceTree). x.methods) services)
  map-signatures_from s [] = refl
  map-signatures_from s (service ∷ services) =
      map-append of_signature (service_signatures service.name s 1 service.methods) (signatures_from (suc s) services)
      ∙ (λ i. map-service_signatures service.name s 1 service.methods i ++ map-signatures_from (suc s) services i)
      ∙ sym (map-append of_method service.methods (flat_map (λ (x : ServiceTree). x.methods) services))

pub kinds-signatures : (tree : ServicesTree) → map (λ (x : Signature). x.gives) (declarations_of tree).methods ≡ kinds_given tree
kinds-signatures tree = map-signatures_from (λ (x : Signature). x.gives) (λ (x : MethodTree). x.gives) (λ service s m method. refl) 1 tree.services

-- there are so few methods that each number has 32 bits
methods_few : (services : List ServiceTree) → All KeepsService services → length (flat_map (λ (x : ServiceTree). x.methods) services) ≤ most_methods * length services
methods_few [] kept = omega arith
methods_few (service ∷ services) kept =
    let first = (All-head KeepsService service services kept).methods_counted in
    let rest = methods_few services (All-tail KeepsService service services kept) in
    rw (length-append service.methods (flat_map (λ (x : ServiceTree). x.methods) services)) (omega arith)

pub count_fits : (tree : ServicesTree) → KeepsServicesLimits tree → length (methods_of tree) ≤ most_methods * most_services
count_fits tree kept = omega (arith, methods_few tree.services kept.services, kept.services_counted)

-- ---- where a method stands

-- how many methods the services before a position have, counted from 0
abbrev pub methods_before : List ServiceTree → ℕ → ℕ
methods_before services zero = 0
methods_before [] (suc i) = 0
methods_before (service ∷ services) (suc i) = length service.methods + methods_before services i

pub record IsPlaced (services : List ServiceTree) (s k : ℕ) (signature : Signature) : Type 0 where
  pub service : ServiceTree
  pub method : MethodTree
  pub i : ℕ
  pub j : ℕ
  pub position : signature.service ≡ s + i
  pub method_position : signature.method ≡ 1 + j
  pub has_service : slice_get services i ≡ Some service
  pub has_method : slice_get service.methods j ≡ Some method
  pub numbered : slice_get (flat_map (λ (x : ServiceTree). x.methods) services) k ≡ Some method
  pub named : signature.name ≡ record { service = service.name; method = method.name }
  pub counted : k ≡ methods_before services i + j

-- among the methods of one service
in_service : (name : List ℕ) (s m k : ℕ) (methods : List MethodTree) (signature : Signature) → slice_get (service_signatures name s m methods) k ≡ Some signature
    → (method : MethodTree) × (signature ≡ signature_of name s (m + k) method) × (slice_get methods k ≡ Some method)
in_service name s m k [] signature is = absurd (cc)
in_service name s m zero (method ∷ methods) signature is =
    (method, (let same : signature ≡ signature_of name s m method = cc in same ∙ ap (λ n. signature_of name s n method) (omega arith)), refl)
in_service name s m (suc k) (method ∷ methods) signature is =
    let rest = in_service name s (suc m) k methods signature is in
    (rest.0, rest.1 ∙ ap (λ n. signature_of name s n rest.0) (omega arith), rest.2)

-- an item of two lists is one of the first, or one of the second
abbrev InEither : {X : Type 0} → List X → List X → ℕ → X → Type 0
InEither xs ys k x = (slice_get xs k ≡ Some x) ⊎ ((n : ℕ) × (k ≡ length xs + n) × (slice_get ys n ≡ Some x))

in_either : {X : Type 0} (xs ys : List X) (k : ℕ) (x : X) → slice_get (xs ++ ys) k ≡ Some x → InEither xs ys k x
in_either [] ys k x is = inr (k, omega arith, is)
in_either (y ∷ xs) ys zero x is = inl is
in_either (y ∷ xs) ys (suc k) x is = ⊎_elim inl (λ later. inr (later.0, omega (arith, later.1), later.2)) (in_either xs ys k x is)

get_front : {X : Type 0} (xs ys : List X) (k : ℕ) (x : X) → slice_get xs k ≡ Some x → slice_get (xs ++ ys) k ≡ Some x
get_front [] ys k x is = absurd (cc)
get_front (y ∷ xs) ys zero x is = is
get_front (y ∷ xs) ys (suc k) x is = get_front xs ys k x is

get_back : {X : Type 0} (xs ys : List X) (n : ℕ) → slice_get (xs ++ ys) (length xs + n) ≡ slice_get ys n
get_back [] ys n = ap (slice_get ys) (omega arith)
get_back (x ∷ xs) ys n = ap (slice_get (x ∷ (xs ++ ys))) (let next : suc (length xs) + n ≡ suc (length xs + n) = omega arith in next) ∙ get_back xs ys n

pub is_placed : (services : List ServiceTree) (s k : ℕ) (signature : Signature) → slice_get (signatures_from s services) k ≡ Some signature → IsPlaced services s k signature
is_placed [] s k signature is = absurd (cc)
is_placed (service ∷ services) s k signature is =
    ⊎_elim (λ here. (let found = in_service service.name s 1 k service.methods signature here in record {
      service = service;
      method = found.0;
      i = 0;
      j = k;
      position = ap (λ (x : Signature). x.service) found.1 ∙ omega arith;
      method_position = ap (λ (x : Signature). x.method) found.1;
      has_service = refl;
      has_method = found.2;
      numbered = get_front service.methods (flat_map (λ (x : ServiceTree). x.methods) services) k found.0 found.2;
      named = ap (λ (x : Signature). x.name) found.1;
      counted = omega arith;
    }))
    (λ later. (let found = is_placed services (suc s) later.0 signature later.2 in record {
      service = found.service;
      method = found.method;
      i = suc found.i;
      j = found.j;
      position = found.position ∙ omega arith;
      method_position = found.method_position;
      has_service = found.has_service;
      has_method = found.has_method;
      numbered = ap (slice_get (service.methods ++ flat_map (λ (x : ServiceTree). x.methods) services))
          (later.1 ∙ ap (λ n. n + later.0) (length-service_signatures service.name s 1 service.methods))
          ∙ get_back service.methods (flat_map (λ (x : ServiceTree). x.methods) services) later.0 ∙ found.numbered;
      named = found.named;
      counted = omega (arith, later.1, length-service_signatures service.name s 1 service.methods, found.counted);
    }))
    (in_either (service_signatures service.name s 1 service.methods) (signatures_from (suc s) services) k signature is)

pub length-signatures : (tree : ServicesTree) → length (declarations_of tree).methods ≡ length (methods_of tree)
length-signatures tree =
    sym (length-map (declarations_of tree).methods (λ (x : Signature). x.gives)) ∙ ap length (kinds-signatures tree) ∙ length-map (methods_of tree) (λ (x : MethodTree). x.gives)

pub length-graph : (tree : ServicesTree) → length (graph_of tree) ≡ length (methods_of tree)
length-graph tree =
    length-map (callees_of tree) known_callees ∙ length-map (methods_of tree) (λ (x : MethodTree). callee_numbers (declarations_of tree) (sites x.body))

-- the calls of bodies are those of the graph
pub graph_of_bodies : (declared : Declarations) (methods : List MethodTree) → map (λ (b : BodyTables). known_callees b.callees) (map (λ (x : MethodTree). body_tables declared x.body) methods)
    ≡ map known_callees (map (λ (x : MethodTree). callee_numbers declared (sites x.body)) methods)
graph_of_bodies declared [] = refl
graph_of_bodies declared (method ∷ methods) = ap (λ rest. known_callees (callee_numbers declared (sites method.body)) ∷ rest) (graph_of_bodies declared methods)

-- a signature has the kinds of its method's parameters
pub params_at : (tree : ServicesTree) (m : ℕ) → option_map (λ (x : Signature). x.params) (slice_get (declarations_of tree).methods m)
    ≡ option_map (λ (x : MethodTree). kinds_of_parameters x.params) (slice_get (methods_of tree) m)
params_at tree m =
    sym (slice_get-map (λ (x : Signature). x.params) (declarations_of tree).methods m)
    ∙ ap (λ kinds. slice_get kinds m) (map-signatures_from (λ (x : Signature). x.params) (λ (x : MethodTree). kinds_of_parameters x.params) (λ service s k method. refl) 1 tree.services)
    ∙ slice_get-map (λ (x : MethodTree). kinds_of_parameters x.params) (methods_of tree) m

-- an item of a vector by what its view is
pub viewed : {X Y : Type 0} (view : X → Y) (xs : List X) (i : ℕ) (y : Y) → slice_get (map view xs) i ≡ Some y → (i < length xs) × ((x : X) → x ≡ get_or xs i x → view x ≡ y)
viewed view xs i y is = (
  rw (length-map xs view) at (slice_get_within (map view xs) i y is),
  λ x item. (let within = rw (length-map xs view) at (slice_get_within (map view xs) i y is) in
      ap view item ∙ sym (get_or-map view xs i x (view x) within) ∙ get_or_from_slice_get (map view xs) i y (view x) is),
)

-- the trees of a method and of its service, by their positions
pub placed_trees : (services : List ServiceTree) (k : ℕ) (signature : Signature) (place : IsPlaced services 1 k signature) (items : List Service) → map view_service items ≡ services
    → (place.i < length items)
    × ((service : Service) → service ≡ get_or items (signature.service - 1) service
    → (place.j < length service.methods.items)
    × ((method : Method) → method ≡ get_or service.methods.items (signature.method - 1) method → view_method method ≡ place.method))
placed_trees services k signature place items same =
    let seen = viewed view_service items place.i place.service (subst (λ xs. slice_get xs place.i ≡ Some place.service) (sym same) place.has_service) in
    let at : signature.service - 1 ≡ place.i = omega (arith, place.position) in
    let within : signature.method - 1 ≡ place.j = omega (arith, place.method_position) in (
      seen.0,
      λ service is. (let view = seen.1 service (subst (λ n. service ≡ get_or items n service) at is) in
          let found = viewed view_method service.methods.items place.j place.method
          (subst (λ (s : ServiceTree). slice_get s.methods place.j ≡ Some place.method) (sym view) place.has_method) in
          (found.0, λ method here. found.1 method (subst (λ n. method ≡ get_or service.methods.items n method) within here))),
    )
