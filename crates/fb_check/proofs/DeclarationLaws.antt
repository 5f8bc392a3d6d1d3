-- What is declared, by services whose names differ.
use Rattle.std.proofs.Common.{◌≡◌, ℕ, zero, suc, ◌<◌, Bool, true, false, ◌&&◌, ◌||◌, cond, bytes_eq, List, [], ◌∷◌, map, length, get_or, find, All, Contains, Some, refl, sym, ap, ◌∙◌, subst, inl, inr, ◌⊎◌, ⊎_elim, arith}
use Rattle.std.specs.List.{list_any}
use Rattle.std.proofs.lemmas.Slice.Eq.{bytes_eq-Decides}
use Rattle.std.proofs.lemmas.List.{get_or-map, length-map, get_or_default}
use Rattle.std.proofs.lemmas.List.Elements.{All-contains, Contains-append_left, Contains-append_right, Contains-append_cases}
use Rattle.fb_base.specs.declared.kind.Kind.{Kind}
use Rattle.fb_syntax.specs.Trees.{MethodTree, ServiceTree, ServicesTree}
use Rattle.fb_check.specs.declared.signature.Signature.{Signature}
use Rattle.fb_check.specs.Declarations.{kinds_of_parameters, signature_of, service_signatures, signatures_from, service_names, declarations_of, is_method, callee_in}
use Rattle.fb_check.specs.Accepted.{AllDiffer, HasMethod}
use Rattle.fb_check.proofs.Lookups.{is_some-position_from}
use Rattle.fb_check.proofs.KindLaws.{Knows}
use Rattle.fb_check.proofs.NameLaws.{ServiceDiffers}

-- ---- members

pub contains_head : {X : Type 0} (x : X) (xs : List X) → Contains (x ∷ xs) x
contains_head x xs = (0, omega arith, refl)

pub contains_tail : {X : Type 0} (y x : X) (xs : List X) → Contains xs x → Contains (y ∷ xs) x
contains_tail y x xs has = (suc has.0, omega (arith, has.1), has.2)

contains_at : {X : Type 0} (y x : X) (xs : List X) (k : ℕ) → k < length (y ∷ xs) → get_or (y ∷ xs) k x ≡ x → (y ≡ x) ⊎ Contains xs x
contains_at y x xs zero within is = inl is
contains_at y x xs (suc k) within is = inr (k, omega arith, is)

pub contains_cases : {X : Type 0} (y x : X) (xs : List X) → Contains (y ∷ xs) x → (y ≡ x) ⊎ Contains xs x
contains_cases y x xs has = contains_at y x xs has.0 has.1 has.2

contains_none : {X : Type 0} (x : X) → Contains [] x → ⊥
contains_none x has = absurd (omega (arith, has.1))

pub contains_map : {X Y : Type 0} (f : X → Y) (x : X) (xs : List X) → Contains xs x → Contains (map f xs) (f x)
contains_map f x xs has =
    (has.0, rw (length-map xs f) has.1, get_or-map f xs has.0 x (f x) has.1 ∙ ap f has.2)

-- ---- names

any_true : (name other : List ℕ) (names : List (List ℕ)) (b : Bool) → bytes_eq name other ≡ b → (b || list_any (bytes_eq name) names) ≡ true
    → (list_any (bytes_eq name) names ≡ true → Contains names name) → Contains (other ∷ names) name
any_true name other names true is any later = subst (λ x. Contains (x ∷ names) name) ((bytes_eq-Decides name other).0 is) (contains_head name names)
any_true name other names false is any later = contains_tail other name names (later any)

pub contains_any : (name : List ℕ) (names : List (List ℕ)) → list_any (bytes_eq name) names ≡ true → Contains names name
contains_any name [] any = absurd (cc)
contains_any name (other ∷ names) any = any_true name other names (bytes_eq name other) refl any (contains_any name names)

either_true : (a b : Bool) → (a ≡ true) ⊎ (b ≡ true) → (a || b) ≡ true
either_true true b h = refl
either_true false b (inl h) = absurd (cc)
either_true false b (inr h) = h

pub any_contains : (name : List ℕ) (names : List (List ℕ)) → Contains names name → list_any (bytes_eq name) names ≡ true
any_contains name [] has = absurd (contains_none name has)
any_contains name (other ∷ names) has =
    either_true (bytes_eq name other) (list_any (bytes_eq name) names)
    (⊎_elim (λ same. inl ((bytes_eq-Decides name other).1 (sym same))) (λ later. inr (any_contains name names later)) (contains_cases other name names has))

-- ---- of things whose names differ, no two have the same name

pub three_ways : (i j : ℕ) → (i < j) ⊎ ((i ≡ j) ⊎ (j < i))
three_ways zero zero = inr (inl refl)
three_ways zero (suc j) = inl (omega arith)
three_ways (suc i) zero = inr (inr (omega arith))
three_ways (suc i) (suc j) =
    ⊎_elim (λ before. inl (omega arith)) (λ rest. inr (⊎_elim (λ same. inl (ap suc same)) (λ after. inr (omega arith)) rest)) (three_ways i j)

module _ {X : Type 0} (name_of : X → List ℕ) (xs : List X) (differ : AllDiffer (map name_of xs)) where
  apart : (i j : ℕ) (a b : X) → i < j → j < length xs → get_or xs i a ≡ a → get_or xs j b ≡ b → name_of a ≡ name_of b → ⊥
  apart i j a b before within first second same =
      differ i j (name_of a) before (rw (length-map xs name_of) within)
      (get_or-map name_of xs i a (name_of a) (omega arith) ∙ ap name_of first ∙ same
      ∙ sym (get_or-map name_of xs j b (name_of a) within ∙ ap name_of second))

  same_place : (i : ℕ) (a b : X) → i < length xs → get_or xs i a ≡ a → get_or xs i b ≡ b → a ≡ b
  same_place i a b within first second = sym first ∙ get_or_default xs i a b within ∙ second

  at_places : (i j : ℕ) (a b : X) → i < length xs → j < length xs → get_or xs i a ≡ a → get_or xs j b ≡ b → name_of a ≡ name_of b
      → (i < j) ⊎ ((i ≡ j) ⊎ (j < i)) → a ≡ b
  at_places i j a b in_first in_second first second same (inl before) = absurd (apart i j a b before in_second first second same)
  at_places i j a b in_first in_second first second same (inr (inl is)) = same_place i a b in_first first (subst (λ k. get_or xs k b ≡ b) (sym is) second)
  at_places i j a b in_first in_second first second same (inr (inr after)) = absurd (apart j i b a after in_first second first (sym same))

  pub unique : (a b : X) → Contains xs a → Contains xs b → name_of a ≡ name_of b → a ≡ b
  unique a b first second same = at_places first.0 second.0 a b first.1 second.1 first.2 second.2 same (three_ways first.0 second.0)

-- ---- signatures

-- a signature is that of a method of the services
pub record IsSignature (services : List ServiceTree) (signature : Signature) : Type 0 where
  pub service : ServiceTree
  pub method : MethodTree
  pub has_service : Contains services service
  pub has_method : Contains service.methods method
  pub s : ℕ
  pub m : ℕ
  pub is : signature ≡ signature_of service.name s m method

of_service : (service : ServiceTree) (s m : ℕ) (methods : List MethodTree) (signature : Signature) → Contains (service_signatures service.name s m methods) signature
    → (method : MethodTree) × (k : ℕ) × Contains methods method × (signature ≡ signature_of service.name s k method)
of_service service s m [] signature has = absurd (contains_none signature has)
of_service service s m (method ∷ methods) signature has =
    ⊎_elim (λ same. (method, m, contains_head method methods, sym same))
    (λ later. let rest = of_service service s (suc m) methods signature later in (rest.0, rest.1, contains_tail method rest.0 methods rest.2, rest.3))
    (contains_cases (signature_of service.name s m method) signature (service_signatures service.name s (suc m) methods) has)

pub is_signature : (s : ℕ) (services : List ServiceTree) (signature : Signature) → Contains (signatures_from s services) signature → IsSignature services signature
is_signature s [] signature has = absurd (contains_none signature has)
is_signature s (service ∷ services) signature has =
    ⊎_elim (λ here. (let found = of_service service s 1 service.methods signature here in record {
      service = service;
      method = found.0;
      has_service = contains_head service services;
      has_method = found.2;
      s = s;
      m = found.1;
      is = found.3;
    }))
    (λ later. (let found = is_signature (suc s) services signature later in record {
      service = found.service;
      method = found.method;
      has_service = contains_tail service found.service services found.has_service;
      has_method = found.has_method;
      s = found.s;
      m = found.m;
      is = found.is;
    }))
    (Contains-append_cases (service_signatures service.name s 1 service.methods) (signatures_from (suc s) services) signature has)

service_has : (name : List ℕ) (s m : ℕ) (methods : List MethodTree) (method : MethodTree) → Contains methods method
    → (k : ℕ) × Contains (service_signatures name s m methods) (signature_of name s k method)
service_has name s m [] method has = absurd (contains_none method has)
service_has name s m (first ∷ methods) method has =
    ⊎_elim (λ same. (m, subst (λ x. Contains (service_signatures name s m (first ∷ methods)) (signature_of name s m x)) same (contains_head (signature_of name s m first) (service_signatures name s (suc m) methods))))
    (λ later. (let rest = service_has name s (suc m) methods method later in
    (rest.0, contains_tail (signature_of name s m first) (signature_of name s rest.0 method) (service_signatures name s (suc m) methods) rest.1)))
    (contains_cases first method methods has)

pub has_signature : (s : ℕ) (services : List ServiceTree) (service : ServiceTree) (method : MethodTree) → Contains services service → Contains service.methods method
    → (k m : ℕ) × Contains (signatures_from s services) (signature_of service.name k m method)
has_signature s [] service method has within = absurd (contains_none service has)
has_signature s (first ∷ services) service method has within =
    ⊎_elim (λ same. (let here = service_has first.name s 1 first.methods method (subst (λ (x : ServiceTree). Contains x.methods method) (sym same) within) in (
      s,
      here.0,
      Contains-append_left (service_signatures first.name s 1 first.methods) (signatures_from (suc s) services) (signature_of service.name s here.0 method)
          (subst (λ (x : ServiceTree). Contains (service_signatures first.name s 1 first.methods) (signature_of x.name s here.0 method)) same here.1),
    )))
    (λ later. (let rest = has_signature (suc s) services service method later within in
    (rest.0, rest.1, Contains-append_right (service_signatures first.name s 1 first.methods) (signatures_from (suc s) services) (signature_of service.name rest.0 rest.1 method) rest.2)))
    (contains_cases first service services has)

-- ---- looking up

found_if : {X : Type 0} (p : X → Bool) (y x : X) (xs : List X) (b : Bool) → p y ≡ b → cond b (Some y) (find p xs) ≡ Some x
    → (find p xs ≡ Some x → (p x ≡ true) × Contains xs x) → (p x ≡ true) × Contains (y ∷ xs) x
found_if p y x xs true is found later =
    let same : y ≡ x = cc in
    (subst (λ z. p z ≡ true) same is, subst (λ z. Contains (z ∷ xs) x) (sym same) (contains_head x xs))
found_if p y x xs false is found later = let rest = later found in (rest.0, contains_tail y x xs rest.1)

pub find_found : {X : Type 0} (p : X → Bool) (x : X) (xs : List X) → find p xs ≡ Some x → (p x ≡ true) × Contains xs x
find_found p x [] found = absurd (cc)
find_found p x (y ∷ xs) found = found_if p y x xs (p y) refl found (find_found p x xs)

finds_if : {X : Type 0} (p : X → Bool) (y x : X) (xs : List X) (b : Bool) → p y ≡ b → p x ≡ true → (y ≡ x) ⊎ Contains xs x
    → (Contains xs x → (z : X) × (find p xs ≡ Some z)) → (z : X) × (cond b (Some y) (find p xs) ≡ Some z)
finds_if p y x xs true is passes has later = (y, refl)
finds_if p y x xs false is passes (inl same) later = absurd (let wrong = sym is ∙ ap p same ∙ passes in cc)
finds_if p y x xs false is passes (inr has) later = later has

pub finds : {X : Type 0} (p : X → Bool) (x : X) (xs : List X) → Contains xs x → p x ≡ true → (z : X) × (find p xs ≡ Some z)
finds p x [] has passes = absurd (contains_none x has)
finds p x (y ∷ xs) has passes = finds_if p y x xs (p y) refl passes (contains_cases y x xs has) (λ later. finds p x xs later passes)

names_of_callee : (service method : List ℕ) (callee : Signature) → is_method service method callee ≡ true → (callee.name.service ≡ service) × (callee.name.method ≡ method)
names_of_callee service method callee is = both (bytes_eq service callee.name.service) (bytes_eq method callee.name.method) refl refl is where
  both : (a b : Bool) → bytes_eq service callee.name.service ≡ a → bytes_eq method callee.name.method ≡ b → (a && b) ≡ true → (callee.name.service ≡ service) × (callee.name.method ≡ method)
  both true b first second h = (sym ((bytes_eq-Decides service callee.name.service).0 first), sym ((bytes_eq-Decides method callee.name.method).0 (second ∙ h)))
  both false b first second h = absurd (cc)

is_callee : (service method : List ℕ) (callee : Signature) → callee.name.service ≡ service → callee.name.method ≡ method → is_method service method callee ≡ true
is_callee service method callee first second =
    ap (λ a. a && bytes_eq method callee.name.method) ((bytes_eq-Decides service callee.name.service).1 (sym first))
    ∙ (bytes_eq-Decides method callee.name.method).1 (sym second)

-- ---- the declarations of services whose names differ

module _ (tree : ServicesTree) (services_differ : AllDiffer (service_names tree.services)) (methods_differ : All ServiceDiffers tree.services) where
  callee_has : (service method : List ℕ) (callee : Signature) → callee_in (declarations_of tree) service method ≡ Some callee → HasMethod tree service method callee.params callee.gives
  callee_has service method callee is =
      let found = find_found (is_method service method) callee (signatures_from 1 tree.services) is in
      let of = is_signature 1 tree.services callee found.1 in
      let names = names_of_callee service method callee found.0 in
      record {
        service = of.service;
        method = of.method;
        has_service = of.has_service;
        has_method = of.has_method;
        service_named = ap (λ (x : Signature). x.name.service) (sym of.is) ∙ names.0;
        method_named = ap (λ (x : Signature). x.name.method) (sym of.is) ∙ names.1;
        takes_kinds = ap (λ (x : Signature). x.params) (sym of.is);
        gives_kind = ap (λ (x : Signature). x.gives) (sym of.is);
      }

  has_callee : (service method : List ℕ) (params : List Kind) (gives : Kind) → HasMethod tree service method params gives
      → (callee : Signature) × (callee_in (declarations_of tree) service method ≡ Some callee) × (callee.params ≡ params) × (callee.gives ≡ gives)
  has_callee service method params gives has =
      let place = has_signature 1 tree.services has.service has.method has.has_service has.has_method in
      let found = finds (is_method service method) (signature_of has.service.name place.0 place.1 has.method) (signatures_from 1 tree.services) place.2
      (is_callee service method (signature_of has.service.name place.0 place.1 has.method) has.service_named has.method_named) in
      let other = callee_has service method found.0 found.1 in
      let same_service : other.service ≡ has.service =
      unique (λ (x : ServiceTree). x.name) tree.services services_differ other.service has.service other.has_service has.has_service (other.service_named ∙ sym has.service_named) in
      let differs = (All-contains ServiceDiffers tree.services has.service methods_differ has.has_service).methods_differ in
      let same_method : other.method ≡ has.method =
      unique (λ (x : MethodTree). x.name) has.service.methods differs other.method has.method
      (subst (λ (x : ServiceTree). Contains x.methods other.method) same_service other.has_method) has.has_method (other.method_named ∙ sym has.method_named) in (
        found.0,
        found.1,
        sym other.takes_kinds ∙ ap (λ (x : MethodTree). kinds_of_parameters x.params) same_method ∙ has.takes_kinds,
        sym other.gives_kind ∙ ap (λ (x : MethodTree). x.gives) same_method ∙ has.gives_kind,
      )

  pub knows_declarations : Knows (declarations_of tree) tree
  knows_declarations = record {
    service_found = λ service is. contains_any service (service_names tree.services) (sym (is_some-position_from (bytes_eq service) 1 (service_names tree.services)) ∙ is);
    service_there = λ service has. is_some-position_from (bytes_eq service) 1 (service_names tree.services) ∙ any_contains service (service_names tree.services) has;
    callee_found = callee_has;
    callee_there = has_callee;
  }
