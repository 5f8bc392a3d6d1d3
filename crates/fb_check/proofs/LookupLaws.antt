-- Looking up by name and by number speak of the same services and methods.
use Rattle.std.proofs.Common.{◌≡◌, ◌↔◌, ℕ, zero, suc, ◌+◌, ◌<◌, Bool, true, false, ◌&&◌, cond, bytes_eq, List, [], ◌∷◌, map, length, slice_get, option_map, Option, Some, None, is_some, is_none, not, IfSome, option_and_then, All, refl, sym, ap, ◌∙◌, subst, inl, inr, ◌⊎◌, arith}
use Rattle.std.specs.List.{position_from}
use Rattle.std.proofs.lemmas.Slice.Eq.{bytes_eq-Decides}
use Rattle.std.proofs.lemmas.List.{length-map, get_or-map}
use Rattle.std.proofs.lemmas.Option.{slice_get_within, get_or_from_slice_get, slice_get-map}
use Rattle.fb_base.specs.declared.method.MethodId.{MethodId}
use Rattle.fb_base.specs.declared.method.MethodName.{MethodName}
use Rattle.fb_syntax.specs.Trees.{MethodTree, ServiceTree, ServicesTree, TestTree}
use Rattle.fb_check.specs.declared.signature.Signature.{Signature}
use Rattle.fb_check.specs.Declarations.{is_method, service_names, declarations_of, number_in, service_in}
use Rattle.fb_check.specs.Sites.{callee_number}
use Rattle.fb_check.specs.Programs.{methods_of, signature_at, item_numbered, IsMethodAt, site_at, callee_at, test_site_at, test_callee_at}
use Rattle.fb_check.specs.Accepted.{AllDiffer, IsAcceptedService}
use Rattle.fb_check.proofs.NameOrder.{same_name, same_method}
use Rattle.fb_check.proofs.DeclarationLaws.{three_ways}
use Rattle.fb_check.proofs.MethodTables.{is_placed, methods_before, length-signatures}
use Rattle.fb_check.proofs.AcceptanceLaws.{AreWellFormed}

-- ---- the first place

-- a place, counted from i, whose item passes
abbrev PlaceOf : {X : Type 0} → (X → Bool) → ℕ → ℕ → List X → Type 0
PlaceOf {X} t i k xs = (j : ℕ) × (x : X) × (k ≡ i + j) × (slice_get xs j ≡ Some x) × (t x ≡ true)

place_if : {X : Type 0} (t : X → Bool) (i k : ℕ) (x : X) (xs : List X) (b : Bool) → t x ≡ b → cond b (Some i) (position_from t (i + 1) xs) ≡ Some k
    → (position_from t (i + 1) xs ≡ Some k → PlaceOf t (i + 1) k xs) → PlaceOf t i k (x ∷ xs)
place_if t i k x xs true passes found later = (0, x, (let same : i ≡ k = cc in omega arith), refl, passes)
place_if t i k x xs false passes found later = let rest = later found in (suc rest.0, rest.1, omega (arith, rest.2), rest.3, rest.4)

-- the place that is found is one
at_place : {X : Type 0} (t : X → Bool) (i k : ℕ) (xs : List X) → position_from t i xs ≡ Some k → PlaceOf t i k xs
at_place t i k [] is = absurd (cc)
at_place t i k (x ∷ xs) is = place_if t i k x xs (t x) refl is (at_place t (i + 1) k xs)

-- an item passes at this place alone
abbrev OnlyAt : {X : Type 0} → (X → Bool) → List X → ℕ → Type 0
OnlyAt {X} t xs j = (k : ℕ) (x : X) → slice_get xs k ≡ Some x → t x ≡ true → k ≡ j

first_if : {X : Type 0} (t : X → Bool) (i j : ℕ) (x y : X) (xs : List X) (b : Bool) → t y ≡ b → slice_get (y ∷ xs) j ≡ Some x → t x ≡ true → OnlyAt t (y ∷ xs) j
    → ((n : ℕ) → slice_get xs n ≡ Some x → OnlyAt t xs n → position_from t (i + 1) xs ≡ Some (i + 1 + n)) → cond b (Some i) (position_from t (i + 1) xs) ≡ Some (i + j)
first_if t i j x y xs true first is passes only later = ap Some (let same = only 0 y refl first in omega arith)
first_if t i zero x y xs false first is passes only later = absurd (let same : y ≡ x = cc in let wrong = sym first ∙ ap t same ∙ passes in cc)
first_if t i (suc j) x y xs false first is passes only later =
    later j is (λ k z found fits. let same = only (suc k) z found fits in omega arith) ∙ ap Some (omega arith)

first_place : {X : Type 0} (t : X → Bool) (i j : ℕ) (xs : List X) (x : X) → slice_get xs j ≡ Some x → t x ≡ true → OnlyAt t xs j → position_from t i xs ≡ Some (i + j)
first_place t i j [] x is passes only = absurd (cc)
first_place t i j (y ∷ xs) x is passes only =
    first_if t i j x y xs (t y) refl is passes only (λ n found alone. first_place t (i + 1) n xs x found passes alone)

-- ---- of things whose names differ, one place has a name

one_place : {X : Type 0} (name_of : X → List ℕ) (xs : List X) → AllDiffer (map name_of xs) → (i j : ℕ) (a b : X) → slice_get xs i ≡ Some a → slice_get xs j ≡ Some b
    → name_of a ≡ name_of b → i ≡ j
one_place {X} name_of xs differ i j a b first second same = by (three_ways i j) where
  apart : (m n : ℕ) (x y : X) → m < n → slice_get xs m ≡ Some x → slice_get xs n ≡ Some y → name_of x ≡ name_of y → ⊥
  apart m n x y before one other equal =
      let in_one = slice_get_within xs m x one in
      let in_other = slice_get_within xs n y other in
      differ m n (name_of x) before (rw (length-map xs name_of) in_other)
      (get_or-map name_of xs m x (name_of x) in_one ∙ ap name_of (get_or_from_slice_get xs m x x one) ∙ equal
      ∙ sym (get_or-map name_of xs n y (name_of x) in_other ∙ ap name_of (get_or_from_slice_get xs n y y other)))

  by : (i < j) ⊎ ((i ≡ j) ⊎ (j < i)) → i ≡ j
  by (inl before) = absurd (apart i j a b before first second same)
  by (inr (inl is)) = is
  by (inr (inr after)) = absurd (apart j i b a after second first (sym same))

named_at : {X A : Type 0} (f : X → A) (found : Option X) (a : A) → option_map f found ≡ Some a → (x : X) × (found ≡ Some x) × (f x ≡ a)
named_at f None a is = absurd (cc)
named_at f (Some x) a is = (x, refl, (cc))

-- ---- services

services_differ_at : (tree : ServicesTree) → AreWellFormed tree → (i j : ℕ) (a b : ServiceTree) → slice_get tree.services i ≡ Some a → slice_get tree.services j ≡ Some b
    → a.name ≡ b.name → i ≡ j
services_differ_at tree formed = one_place (λ (x : ServiceTree). x.name) tree.services formed.services_differ

equal_names : (name other : List ℕ) → other ≡ name → bytes_eq name other ≡ true
equal_names name other same = (bytes_eq-Decides name other).1 (sym same)

position_of : (tree : ServicesTree) → AreWellFormed tree → (position : ℕ) (name : List ℕ) → option_map (λ (x : ServiceTree). x.name) (item_numbered tree.services position) ≡ Some name
    → service_in (declarations_of tree) name ≡ Some position
position_of tree formed zero name is = absurd (cc)
position_of tree formed (suc i) name is =
    let names = service_names tree.services in
    let there : slice_get names i ≡ Some name = slice_get-map (λ (x : ServiceTree). x.name) tree.services i ∙ is in
    first_place (bytes_eq name) 1 i names name there (equal_names name name refl)
    (λ k other found passes. let here = named_at (λ (x : ServiceTree). x.name) (slice_get tree.services k) other (sym (slice_get-map (λ (x : ServiceTree). x.name) tree.services k) ∙ found) in
    let there = named_at (λ (x : ServiceTree). x.name) (slice_get tree.services i) name is in
    services_differ_at tree formed k i here.0 there.0 here.1 there.1 (here.2 ∙ sym (same_name name other passes) ∙ sym there.2))
    ∙ ap Some (omega arith)

service_at : (tree : ServicesTree) (position : ℕ) (name : List ℕ) → service_in (declarations_of tree) name ≡ Some position
    → option_map (λ (x : ServiceTree). x.name) (item_numbered tree.services position) ≡ Some name
service_at tree position name is =
    let found = at_place (bytes_eq name) 1 position (service_names tree.services) is in
    let place : position ≡ suc found.0 = omega (arith, found.2) in
    ap (λ k. option_map (λ (x : ServiceTree). x.name) (item_numbered tree.services k)) place
    ∙ sym (slice_get-map (λ (x : ServiceTree). x.name) tree.services found.0) ∙ found.3 ∙ ap Some (sym (same_name name found.1 found.4))

pub services_join : (tree : ServicesTree) → AreWellFormed tree → (position : ℕ) (name : List ℕ)
    → (option_map (λ (x : ServiceTree). x.name) (item_numbered tree.services position) ≡ Some name) ↔ (service_in (declarations_of tree) name ≡ Some position)
services_join tree formed position name = (position_of tree formed position name, service_at tree position name)

-- ---- methods

has_all : {X : Type 0} (P : X → Type 0) (xs : List X) (k : ℕ) (x : X) → All P xs → slice_get xs k ≡ Some x → P x
has_all P xs k x all is = subst P (get_or_from_slice_get xs k x x is) (all k x (slice_get_within xs k x is))

-- signatures with one name have one number
one_number : (tree : ServicesTree) → AreWellFormed tree → (m n : ℕ) (a b : Signature) → signature_at tree m ≡ Some a → signature_at tree n ≡ Some b → a.name ≡ b.name → m ≡ n
one_number tree formed m n a b first second same =
    let one = is_placed tree.services 1 m a first in
    let other = is_placed tree.services 1 n b second in
    let names : record { service = one.service.name; method = one.method.name } ≡ record { service = other.service.name; method = other.method.name } =
    sym one.named ∙ same ∙ other.named in
    let position : one.i ≡ other.i = services_differ_at tree formed one.i other.i one.service other.service one.has_service other.has_service (ap (λ (x : MethodName). x.service) names) in
    let service : one.service ≡ other.service = same_item tree.services one.i other.i one.service other.service position one.has_service other.has_service in
    let differ = (has_all (IsAcceptedService tree) tree.services other.i other.service formed.services_accepted other.has_service).methods_differ in
    let place : one.j ≡ other.j = one_place (λ (x : MethodTree). x.name) other.service.methods differ one.j other.j one.method other.method
    (subst (λ (x : ServiceTree). slice_get x.methods one.j ≡ Some one.method) service one.has_method) other.has_method (ap (λ (x : MethodName). x.method) names) in
    one.counted ∙ (λ i. methods_before tree.services (position i) + place i) ∙ sym other.counted where
      same_item : (xs : List ServiceTree) (i j : ℕ) (a b : ServiceTree) → i ≡ j → slice_get xs i ≡ Some a → slice_get xs j ≡ Some b → a ≡ b
      same_item xs i j a b is first second = let both : Some a ≡ Some b = sym first ∙ ap (slice_get xs) is ∙ second in cc

number_of : (tree : ServicesTree) → AreWellFormed tree → (m : ℕ) (name : MethodName) → option_map (λ (x : Signature). x.name) (signature_at tree m) ≡ Some name
    → number_in (declarations_of tree) name.service name.method ≡ Some m
number_of tree formed m name is =
    let there = named_at (λ (x : Signature). x.name) (signature_at tree m) name is in
    first_place (is_method name.service name.method) 0 m (declarations_of tree).methods there.0 there.1 (passes there.0 there.2)
    (λ k other found fits. one_number tree formed k m other there.0 found there.1 (sym (same_method name other.name fits) ∙ sym there.2))
    ∙ ap Some (omega arith) where
      passes : (signature : Signature) → signature.name ≡ name → is_method name.service name.method signature ≡ true
      passes signature same =
          ap (λ b. b && bytes_eq name.method signature.name.method) (equal_names name.service signature.name.service (ap (λ (x : MethodName). x.service) same))
          ∙ equal_names name.method signature.name.method (ap (λ (x : MethodName). x.method) same)

name_at : (tree : ServicesTree) (m : ℕ) (name : MethodName) → number_in (declarations_of tree) name.service name.method ≡ Some m
    → option_map (λ (x : Signature). x.name) (signature_at tree m) ≡ Some name
name_at tree m name is =
    let found = at_place (is_method name.service name.method) 0 m (declarations_of tree).methods is in
    let place : m ≡ found.0 = omega (arith, found.2) in
    ap (λ k. option_map (λ (x : Signature). x.name) (signature_at tree k)) place ∙ ap (option_map (λ (x : Signature). x.name)) found.3
    ∙ ap Some (sym (same_method name found.1.name found.4))

pub methods_join : (tree : ServicesTree) → AreWellFormed tree → (m : ℕ) (name : MethodName)
    → (option_map (λ (x : Signature). x.name) (signature_at tree m) ≡ Some name) ↔ (number_in (declarations_of tree) name.service name.method ≡ Some m)
methods_join tree formed m name = (number_of tree formed m name, name_at tree m name)

-- a number that is found is that of a method
pub number_within : (tree : ServicesTree) (service method : List ℕ) (m : ℕ) → number_in (declarations_of tree) service method ≡ Some m → m < length (methods_of tree)
number_within tree service method m is =
    let found = at_place (is_method service method) 0 m (declarations_of tree).methods is in
    let within = slice_get_within (declarations_of tree).methods found.0 found.1 found.3 in
    omega (arith, found.2, within, length-signatures tree)

-- ---- callees

callee_number_within : (tree : ServicesTree) (site : Option MethodName) (n : ℕ) → option_and_then (callee_number (declarations_of tree)) site ≡ Some n → n < length (methods_of tree)
callee_number_within tree None n is = absurd (cc)
callee_number_within tree (Some name) n is = number_within tree name.service name.method n is

pub callee_within : (tree : ServicesTree) (m site n : ℕ) → callee_at tree m site ≡ Some n → n < length (methods_of tree)
callee_within tree m site = callee_number_within tree (site_at tree m site)

pub test_callee_within : (tree : ServicesTree) (test : TestTree) (site n : ℕ) → test_callee_at tree test site ≡ Some n → n < length (methods_of tree)
test_callee_within tree test site = callee_number_within tree (test_site_at test site)

-- a method that is found by such a number
pub found_within : (found : Option MethodId) (number : Option ℕ) (len : ℕ) → option_map (λ (m : MethodId). m.0) found ≡ number → ((n : ℕ) → number ≡ Some n → n < len)
    → IfSome found (λ m. m.0 < len)
found_within None number len is within = tt
found_within (Some m) number len is within = within m.0 (sym is)

pub found_where : (found : Option MethodId) (number : Option ℕ) (site : Option MethodName) → option_map (λ (m : MethodId). m.0) found ≡ number → is_some number ≡ is_some site
    → is_none found ≡ is_none site
found_where None number site is same = ap not (ap is_some is ∙ same)
found_where (Some m) number site is same = ap not (ap is_some is ∙ same)

-- ---- trees

pub is_method_at : (tree : ServicesTree) (m position : ℕ) (name : MethodName) → option_map (λ (x : Signature). x.name) (signature_at tree m) ≡ Some name
    → option_map (λ (x : Signature). x.service) (signature_at tree m) ≡ Some position → IsMethodAt tree m position name
is_method_at tree m position name named stands =
    let there = named_at (λ (x : Signature). x.name) (signature_at tree m) name named in
    let place = is_placed tree.services 1 m there.0 there.1 in
    let at : Some there.0.service ≡ Some position = sym (ap (option_map (λ (x : Signature). x.service)) there.1) ∙ stands in
    let counted : position ≡ suc place.i = omega (arith, place.position, (let same : there.0.service ≡ position = cc in same)) in
    record {
      service = place.service;
      method = place.method;
      placed = ap (item_numbered tree.services) counted ∙ place.has_service;
      numbered = place.numbered;
      has_method = (place.j, slice_get_within place.service.methods place.j place.method place.has_method, get_or_from_slice_get place.service.methods place.j place.method place.method place.has_method);
      service_named = ap (λ (x : MethodName). x.service) (sym place.named ∙ there.2);
      method_named = ap (λ (x : MethodName). x.method) (sym place.named ∙ there.2);
    }
