-- Indexes as keys of a map.
use Rattle.std.specs.Prelude.{◌≡◌, Bool, Some, List}
use Rattle.std.proofs.Common.{refl}
use Rattle.std.specs.Cmp.{IsEquivalence, IsPartialOrder, IsTotalOrder, po, nat_cmp_total, on_total, then_total, eq_by_cmp_equiv}
use Rattle.std.specs.Cmp.Lexicographic.{lists_total}
use Rattle.std.specs.Ordering.{eq_by_cmp}
use Rattle.fb_index.specs.Entry.{Occurrence, entry_cmp}
use Rattle.fb_index.specs.Index.{index_cmp}

-- the order doesn't tell them apart
abbrev pub is_same_key : List Occurrence → List Occurrence → Bool
is_same_key = eq_by_cmp index_cmp

entry_total : IsTotalOrder entry_cmp
entry_total = then_total (on_total (λ (e : Occurrence). e.site) nat_cmp_total) (on_total (λ (e : Occurrence). e.count) nat_cmp_total)

pub key_total : IsTotalOrder index_cmp
key_total = lists_total entry_total

pub key_ties : (a b : List Occurrence) → is_same_key a b ≡ eq_by_cmp index_cmp a b
key_ties a b = refl

pub same_key_equiv : IsEquivalence is_same_key
same_key_equiv = eq_by_cmp_equiv key_total

pub key_po : IsPartialOrder is_same_key (λ a b. Some (index_cmp a b))
key_po = po key_total key_ties
