-- Names differ exactly where none is found among the earlier ones.
use Rattle.std.proofs.Common.{◌≡◌, ◌≢◌, ℕ, zero, suc, ◌<◌, Bool, true, false, ◌||◌, bytes_eq, List, [], ◌∷◌, ◌++◌, map, length, get_or, All, Ok, refl, sym, ap, ◌∙◌, subst, append_assoc, append-nil, length-append, arith}
use Rattle.std.specs.List.{list_any}
use Rattle.std.proofs.lemmas.Slice.Eq.{bytes_eq-Decides}
use Rattle.std.proofs.lemmas.List.{get_or_append_left, get_or_at}
use Rattle.std.proofs.lemmas.List.Quantifiers.{all_pairs_push}
use Rattle.std.proofs.lemmas.List.Elements.{All-nil, All-cons, All-head, All-tail}
use Rattle.fb_syntax.specs.Trees.{Parameter, MethodTree, ServiceTree}
use Rattle.fb_check.specs.Declarations.{service_names}
use Rattle.fb_check.specs.FirstRefusal.{duplicate_if, new_name, parameters_named, methods_named, services_named}
use Rattle.fb_check.specs.Accepted.{AllDiffer}
use Rattle.fb_base.proofs.Results.{ok_then, then_is}

-- ---- a name among others

either_false : (a b : Bool) → (a || b) ≡ false → (a ≡ false) × (b ≡ false)
either_false true b h = absurd (cc)
either_false false b h = (refl, h)

equal_false : (name other : List ℕ) (b : Bool) → bytes_eq name other ≡ b → b ≡ false → other ≢ name
equal_false name other true is no_match same = absurd (cc)
equal_false name other false is no_match same = let equal = (bytes_eq-Decides name other).1 (sym same) in absurd (cc)

-- no earlier one is the name
pub none_same : (name : List ℕ) (earlier : List (List ℕ)) → list_any (bytes_eq name) earlier ≡ false → (k : ℕ) (d : List ℕ) → k < length earlier → get_or earlier k d ≢ name
none_same name [] none k d within = absurd (omega arith)
none_same name (other ∷ earlier) none zero d within = equal_false name other (bytes_eq name other) refl (either_false (bytes_eq name other) (list_any (bytes_eq name) earlier) none).0
none_same name (other ∷ earlier) none (suc k) d within =
    none_same name earlier (either_false (bytes_eq name other) (list_any (bytes_eq name) earlier) none).1 k d (omega arith)

unequal : (name other : List ℕ) (b : Bool) → bytes_eq name other ≡ b → other ≢ name → b ≡ false
unequal name other true is apart = absurd (apart (sym ((bytes_eq-Decides name other).0 is)))
unequal name other false is apart = refl

pub none_any : (name : List ℕ) (earlier : List (List ℕ)) → ((k : ℕ) (d : List ℕ) → k < length earlier → get_or earlier k d ≢ name) → list_any (bytes_eq name) earlier ≡ false
none_any name [] apart = refl
none_any name (other ∷ earlier) apart =
    ap (λ b. b || list_any (bytes_eq name) earlier) (unequal name other (bytes_eq name other) refl (apart 0 other (omega arith)))
    ∙ none_any name earlier (λ k d within. apart (suc k) d (omega arith))

-- ---- names one after the other

-- each differs from the earlier ones and from those before it
abbrev pub Fresh : List (List ℕ) → List (List ℕ) → Type 0
Fresh earlier [] = Unit {0}
Fresh earlier (name ∷ names) = (list_any (bytes_eq name) earlier ≡ false) × Fresh (earlier ++ name ∷ []) names

front_differs : (earlier rest : List (List ℕ)) → AllDiffer (earlier ++ rest) → AllDiffer earlier
front_differs earlier rest differ i j d before within =
    let apart = differ i j d before (rw (length-append earlier rest) (omega arith)) in
    rw (get_or_append_left earlier rest d i (omega arith), get_or_append_left earlier rest d j within) at apart

last_differs : (earlier rest : List (List ℕ)) (name : List ℕ) → AllDiffer (earlier ++ name ∷ rest) → (k : ℕ) (d : List ℕ) → k < length earlier → get_or earlier k d ≢ name
last_differs earlier rest name differ k d within =
    let apart = differ k (length earlier) d within (rw (length-append earlier (name ∷ rest)) (omega arith)) in
    rw (get_or_append_left earlier (name ∷ rest) d k within, get_or_at earlier name rest d (length earlier) refl) at apart

pub fresh_differ : (names earlier : List (List ℕ)) → AllDiffer earlier → Fresh earlier names → AllDiffer (earlier ++ names)
fresh_differ [] earlier differ fresh = subst AllDiffer (sym (append-nil earlier)) differ
fresh_differ (name ∷ names) earlier differ fresh =
    subst AllDiffer (append_assoc earlier (name ∷ []) names)
    (fresh_differ names (earlier ++ name ∷ []) (all_pairs_push ◌≢◌ earlier name differ (λ k d within. none_same name earlier fresh.0 k d within)) fresh.1)

pub differ_fresh : (names earlier : List (List ℕ)) → AllDiffer (earlier ++ names) → Fresh earlier names
differ_fresh [] earlier differ = tt
differ_fresh (name ∷ names) earlier differ = (
  none_any name earlier (last_differs earlier names name differ),
  differ_fresh names (earlier ++ name ∷ []) (subst AllDiffer (sym (append_assoc earlier (name ∷ []) names)) differ),
)

no_names : AllDiffer []
no_names i j d before within = absurd (omega arith)

-- ---- the checks of names

new_ok : (known : Bool) (s m : ℕ) (x : Unit {0}) → duplicate_if known s m ≡ Ok x → known ≡ false
new_ok true s m x h = absurd (cc)
new_ok false s m x h = refl

params_fresh : (s m : ℕ) (params : List Parameter) (earlier : List (List ℕ)) (x : Unit {0}) → parameters_named s m earlier params ≡ Ok x → Fresh earlier (map (λ param. param.name) params)
unfolding parameters_named
params_fresh s m [] earlier x h = tt
params_fresh s m (param ∷ params) earlier x h =
    let first = ok_then (new_name earlier param.name s m) _ x h in
    (new_ok (list_any (bytes_eq param.name) earlier) s m first.0 first.1, params_fresh s m params (earlier ++ param.name ∷ []) x first.2)

fresh_params : (s m : ℕ) (params : List Parameter) (earlier : List (List ℕ)) → Fresh earlier (map (λ param. param.name) params) → parameters_named s m earlier params ≡ Ok tt
unfolding parameters_named
fresh_params s m [] earlier fresh = refl
fresh_params s m (param ∷ params) earlier fresh =
    then_is (new_name earlier param.name s m) _ tt tt (ap (λ b. duplicate_if b s m) fresh.0) (fresh_params s m params (earlier ++ param.name ∷ []) fresh.1)

abbrev pub ParametersDiffer : MethodTree → Type 0
ParametersDiffer method = AllDiffer (map (λ param. param.name) method.params)

methods_sound : (s m : ℕ) (methods : List MethodTree) (earlier : List (List ℕ)) (x : Unit {0}) → methods_named s m earlier methods ≡ Ok x
    → Fresh earlier (map (λ method. method.name) methods) × All ParametersDiffer methods
unfolding methods_named
methods_sound s m [] earlier x h = (tt, All-nil ParametersDiffer)
methods_sound s m (method ∷ methods) earlier x h =
    let first = ok_then (new_name earlier method.name s m) _ x h in
    let second = ok_then (parameters_named s m [] method.params) _ x first.2 in
    let rest = methods_sound s (suc m) methods (earlier ++ method.name ∷ []) x second.2 in
    let params = fresh_differ (map (λ param. param.name) method.params) [] no_names (params_fresh s m method.params [] second.0 second.1) in
    ((new_ok (list_any (bytes_eq method.name) earlier) s m first.0 first.1, rest.0), All-cons ParametersDiffer method methods params rest.1)

methods_complete : (s m : ℕ) (methods : List MethodTree) (earlier : List (List ℕ)) → Fresh earlier (map (λ method. method.name) methods) → All ParametersDiffer methods
    → methods_named s m earlier methods ≡ Ok tt
unfolding methods_named
methods_complete s m [] earlier fresh differ = refl
methods_complete s m (method ∷ methods) earlier fresh differ =
    then_is (new_name earlier method.name s m) _ tt tt (ap (λ b. duplicate_if b s m) fresh.0)
    (then_is (parameters_named s m [] method.params) _ tt tt
    (fresh_params s m method.params [] (differ_fresh (map (λ param. param.name) method.params) [] (All-head ParametersDiffer method methods differ)))
    (methods_complete s (suc m) methods (earlier ++ method.name ∷ []) fresh.1 (All-tail ParametersDiffer method methods differ)))

pub record ServiceDiffers (service : ServiceTree) : Type 0 where
  pub methods_differ : AllDiffer (map (λ method. method.name) service.methods)
  pub params_differ : All ParametersDiffer service.methods

services_sound : (s : ℕ) (services : List ServiceTree) (earlier : List (List ℕ)) (x : Unit {0}) → services_named s earlier services ≡ Ok x
    → Fresh earlier (service_names services) × All ServiceDiffers services
unfolding services_named
services_sound s [] earlier x h = (tt, All-nil ServiceDiffers)
services_sound s (service ∷ services) earlier x h =
    let first = ok_then (new_name earlier service.name s 0) _ x h in
    let second = ok_then (methods_named s 1 [] service.methods) _ x first.2 in
    let methods = methods_sound s 1 service.methods [] second.0 second.1 in
    let rest = services_sound (suc s) services (earlier ++ service.name ∷ []) x second.2 in
    let differs : ServiceDiffers service = record {
      methods_differ = fresh_differ (map (λ method. method.name) service.methods) [] no_names methods.0;
      params_differ = methods.1;
    } in
    ((new_ok (list_any (bytes_eq service.name) earlier) s 0 first.0 first.1, rest.0), All-cons ServiceDiffers service services differs rest.1)

services_complete : (s : ℕ) (services : List ServiceTree) (earlier : List (List ℕ)) → Fresh earlier (service_names services) → All ServiceDiffers services
    → services_named s earlier services ≡ Ok tt
unfolding services_named
services_complete s [] earlier fresh differ = refl
services_complete s (service ∷ services) earlier fresh differ =
    let differs = All-head ServiceDiffers service services differ in
    then_is (new_name earlier service.name s 0) _ tt tt (ap (λ b. duplicate_if b s 0) fresh.0)
    (then_is (methods_named s 1 [] service.methods) _ tt tt
    (methods_complete s 1 service.methods [] (differ_fresh (map (λ method. method.name) service.methods) [] differs.methods_differ) differs.params_differ)
    (services_complete (suc s) services (earlier ++ service.name ∷ []) fresh.1 (All-tail ServiceDiffers service services differ)))

-- the names of services differ, and of each service's methods, and of each method's parameters
pub names_sound : (services : List ServiceTree) (x : Unit {0}) → services_named 1 [] services ≡ Ok x → AllDiffer (service_names services) × All ServiceDiffers services
names_sound services x h =
    let parts = services_sound 1 services [] x h in
    (fresh_differ (service_names services) [] no_names parts.0, parts.1)

pub names_complete : (services : List ServiceTree) → AllDiffer (service_names services) → All ServiceDiffers services → services_named 1 [] services ≡ Ok tt
names_complete services differ each = services_complete 1 services [] (differ_fresh (service_names services) [] differ) each
