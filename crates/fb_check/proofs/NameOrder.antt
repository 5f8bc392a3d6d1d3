-- Maps compare names as they are compared for being equal.
use Rattle.std.proofs.Common.{◌≡◌, ℕ, Bool, true, false, ◌&&◌, Option, Some, None, is_some, bytes_eq, List, refl, ◌∙◌}
use Rattle.std.specs.declared.cmp.Ordering.{Ordering}
use Rattle.std.specs.declared.cmp.Ordering.TheVariants.{Less, Equal, Greater}
use Rattle.std.specs.Ordering.{is_eq, nat_cmp, ordering_then}
use Rattle.std.specs.Cmp.Lexicographic.{slice_cmp}
use Rattle.std.proofs.lemmas.Cmp.{nat_list_eq_equiv}
use Rattle.std.proofs.lemmas.Map.Text.{is_eq-slice_cmp}
use Rattle.std.proofs.lemmas.Slice.Eq.{bytes_eq-Decides}
use Rattle.fb_base.specs.declared.method.MethodName.{MethodName}
use Rattle.fb_base.specs.contracts.method.MethodNameOrd.TheImpl.{ghosts}

pub none_from : {A : Type 0} (found : Option A) → false ≡ is_some found → found ≡ None
none_from None is = refl
none_from (Some x) is = absurd (cc)

pub same_name : (name other : List ℕ) → bytes_eq name other ≡ true → name ≡ other
same_name name other = (bytes_eq-Decides name other).0

pub is_eq-names : (name other : List ℕ) → is_eq (slice_cmp nat_cmp name other) ≡ bytes_eq other name
is_eq-names name other = is_eq-slice_cmp name other ∙ nat_list_eq_equiv.symm name other

both : (x y : Ordering) → is_eq (ordering_then x y) ≡ (is_eq x && is_eq y)
both Less y = refl
both Equal y = refl
both Greater y = refl

pub is_eq-methods : (name other : MethodName) → is_eq (ghosts.cmp name other) ≡ (bytes_eq name.service other.service && bytes_eq name.method other.method)
is_eq-methods name other =
    both (slice_cmp nat_cmp name.service other.service) (slice_cmp nat_cmp name.method other.method)
    ∙ (λ i. is_eq-slice_cmp name.service other.service i && is_eq-slice_cmp name.method other.method i)

first_true : (a b : Bool) → (a && b) ≡ true → a ≡ true
first_true true b h = refl
first_true false b h = h

second_true : (a b : Bool) → (a && b) ≡ true → b ≡ true
second_true true b h = h
second_true false b h = absurd (cc)

pub same_method : (name other : MethodName) → (bytes_eq name.service other.service && bytes_eq name.method other.method) ≡ true → name ≡ other
same_method name other h =
    λ i. record {
      service = same_name name.service other.service (first_true (bytes_eq name.service other.service) (bytes_eq name.method other.method) h) i;
      method = same_name name.method other.method (second_true (bytes_eq name.service other.service) (bytes_eq name.method other.method) h) i;
    }
