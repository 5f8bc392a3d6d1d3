-- What the tests of sameness decide.
use Rattle.std.proofs.Common.{◌≡◌, ◌↔◌, refl, sym, ap, [], ◌∷◌, Bool, true, false, IsTrue, List, arith}
use Rattle.std.specs.Bool.{Decides}
use Rattle.std.specs.Cmp.{IsEquivalence, decided, Equal-is}
use Rattle.std.specs.Cmp.Lexicographic.{pointwise_decides}
use Rattle.std.specs.Ordering.{ordering_then}
use Rattle.std.specs.declared.cmp.Ordering.{Ordering}
use Rattle.std.specs.declared.cmp.Ordering.TheVariants.{Less, Equal, Greater}
use Rattle.std.proofs.lemmas.Bool.Decides.{Decides-and, Decides-eqb, Decides-like, nat_tests}
use Rattle.std.proofs.lemmas.Map.Views.{list_any-from_Contains, Contains-from_any}
use Rattle.std.specs.Prelude.{Contains}
use Rattle.fb_index.specs.Entry.{Occurrence, same_entry, entry_cmp}
use Rattle.fb_index.specs.Index.{same_index, index_cmp}
use Rattle.fb_book.specs.declared.child.Child.{Child}
use Rattle.fb_book.specs.Children.{same_child, is_told}
use Rattle.fb_book.specs.Keys.{is_same_key, same_key_equiv}

same_entry-Decides : (a b : Occurrence) → Decides (same_entry a b) (a ≡ b)
same_entry-Decides a b =
    Decides-like (same_entry a b) (λ e i. record { site = e.0 i; count = e.1 i })
    (λ e. (ap (λ (x : Occurrence). x.site) e, ap (λ (x : Occurrence). x.count) e))
    (Decides-and _ _ (Decides-eqb a.site b.site) (Decides-eqb a.count b.count))

same_index-Decides : (a b : List Occurrence) → Decides (same_index a b) (a ≡ b)
same_index-Decides = pointwise_decides same_entry-Decides

-- a test that is true exactly where two indexes are one
pub is_same_index : (a b : List Occurrence) (r : Bool) → (IsTrue r ↔ (a ≡ b)) → r ≡ same_index a b
is_same_index a b true tells = sym ((same_index-Decides a b).1 (tells.0 refl))
is_same_index a b false tells = by (same_index a b) refl where
  by : (s : Bool) → same_index a b ≡ s → false ≡ s
  by true is = tells.1 ((same_index-Decides a b).0 is)
  by false is = refl

-- ---- the order of indexes

entry-level : (a b : Occurrence) → entry_cmp a b ≡ Equal → a ≡ b
entry-level a b level =
    let site : a.site ≡ b.site = grind (arith, nat_tests) in
    let count : a.count ≡ b.count = grind (arith, nat_tests) in
    λ i. record { site = site i; count = count i }

first-level : (o rest : Ordering) → ordering_then o rest ≡ Equal → (o ≡ Equal) × (rest ≡ Equal)
first-level Less rest level = absurd cc
first-level Equal rest level = (refl, level)
first-level Greater rest level = absurd cc

index-level : (a b : List Occurrence) → index_cmp a b ≡ Equal → a ≡ b
index-level [] [] level = refl
index-level [] (y ∷ b) level = absurd cc
index-level (x ∷ a) [] level = absurd cc
index-level (x ∷ a) (y ∷ b) level =
    let parts = first-level (entry_cmp x y) (index_cmp a b) level in
    let head = entry-level x y parts.0 in
    let tail = index-level a b parts.1 in
    λ i. head i ∷ tail i

-- indexes that are level in it are the same
pub same_key : (a b : List Occurrence) → is_same_key a b ≡ true → a ≡ b
same_key a b is = index-level a b ((Equal-is (index_cmp a b)).0 is)

pub key_itself : (a : List Occurrence) → is_same_key a a ≡ true
key_itself a = same_key_equiv.refl a

-- ---- children

same_child-Decides : (a b : Child) → Decides (same_child a b) (a ≡ b)
same_child-Decides a b =
    Decides-like (same_child a b) (λ e i. record { parent = e.0.0 i; call = e.0.1 i; choice = e.1 i })
    (λ e. ((ap (λ (x : Child). x.parent) e, ap (λ (x : Child). x.call) e), ap (λ (x : Child). x.choice) e))
    (Decides-and _ _ (Decides-and _ _ (Decides-eqb a.parent b.parent) (Decides-eqb a.call b.call)) (Decides-eqb a.choice b.choice))

child_equiv : IsEquivalence same_child
child_equiv = decided same_child same_child-Decides

pub told_in : (told : List Child) (child : Child) → is_told told child ≡ true → Contains told child
told_in told child is = Contains-from_any (λ x y. (same_child-Decides x y).0) child told is

pub in_told : (told : List Child) (child : Child) → Contains told child → is_told told child ≡ true
in_told told child has = list_any-from_Contains child_equiv child told has
