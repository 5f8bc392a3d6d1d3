-- What the tests of sameness decide.
use Rattle.std.proofs.Common.{◌≡◌, ◌↔◌, refl, [], ◌∷◌, true, List, arith}
use Rattle.std.specs.Bool.{Decides}
use Rattle.std.specs.Cmp.Lexicographic.{pointwise_decides}
use Rattle.std.proofs.lemmas.Bool.Decides.{nat_tests}
use Rattle.std.specs.Cmp.{IsTotalOrder}
use Rattle.std.specs.Ordering.{ordering_then}
use Rattle.std.specs.declared.cmp.Ordering.{Ordering}
use Rattle.std.specs.declared.cmp.Ordering.TheVariants.{Less, Equal, Greater}
use Rattle.std.proofs.lemmas.Cmp.{nat_cmp_total, on_total, then_total, lists_total, tied_itself}
use Rattle.fb_index.specs.Entry.{Occurrence, same_entry, entry_cmp}
use Rattle.fb_index.specs.Index.{same_index, index_cmp}

same_entry-decides : (a b : Occurrence) → Decides (same_entry a b) (a ≡ b)
same_entry-decides a b = (λ same. alike a b (numbers same), λ alike. rw alike (itself b))
  where
    numbers : same_entry a b ≡ true → (a.site ≡ b.site) × (a.count ≡ b.count)
    numbers same = grind (arith, nat_tests)

    alike : (x y : Occurrence) → (x.site ≡ y.site) × (x.count ≡ y.count) → x ≡ y
    alike x y same = λ i. record { site = same.0 i; count = same.1 i }

    itself : (x : Occurrence) → same_entry x x ≡ true
    itself x = grind (arith, nat_tests)

pub same_index-decides : (a b : List Occurrence) → Decides (same_index a b) (a ≡ b)
same_index-decides = pointwise_decides same_entry-decides

-- ---- the order

entry_cmp-total : IsTotalOrder entry_cmp
entry_cmp-total = then_total (on_total (λ (e : Occurrence). e.site) nat_cmp_total) (on_total (λ (e : Occurrence). e.count) nat_cmp_total)

pub index_cmp-total : IsTotalOrder index_cmp
index_cmp-total = lists_total entry_cmp-total

entry-level : (a b : Occurrence) → entry_cmp a b ≡ Equal → a ≡ b
entry-level a b level =
    let site : a.site ≡ b.site = grind (arith, nat_tests) in
    let count : a.count ≡ b.count = grind (arith, nat_tests) in
    λ i. record { site = site i; count = count i }

first-level : (o rest : Ordering) → ordering_then o rest ≡ Equal → (o ≡ Equal) × (rest ≡ Equal)
first-level Less rest level = absurd cc
first-level Equal rest level = (refl, level)
first-level Greater rest level = absurd cc

-- what is level is the same
index-level : (a b : List Occurrence) → index_cmp a b ≡ Equal → a ≡ b
index-level [] [] level = refl
index-level [] (y ∷ b) level = absurd cc
index-level (x ∷ a) [] level = absurd cc
index-level (x ∷ a) (y ∷ b) level =
    let parts = first-level (entry_cmp x y) (index_cmp a b) level in
    let head = entry-level x y parts.0 in
    let tail = index-level a b parts.1 in
    λ i. head i ∷ tail i

pub index_cmp-Equal : (a b : List Occurrence) → (index_cmp a b ≡ Equal) ↔ (a ≡ b)
index_cmp-Equal a b = (index-level a b, λ same. rw same (tied_itself index_cmp-total b))
