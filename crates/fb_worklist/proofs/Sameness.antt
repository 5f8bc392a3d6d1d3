-- What the test of indexes decides.
use Rattle.std.proofs.Common.{◌≡◌, Bool, true, false, IsTrue, ◌↔◌, List, ap, sym, refl, ◌∙◌}
use Rattle.std.specs.Bool.{Decides}
use Rattle.std.specs.Cmp.Lexicographic.{pointwise_decides}
use Rattle.std.proofs.lemmas.Bool.Decides.{Decides-and, Decides-eqb, Decides-like}
use Rattle.fb_index.specs.Entry.{Occurrence, same_entry}
use Rattle.fb_index.specs.Index.{same_index}

same_entry-Decides : (a b : Occurrence) → Decides (same_entry a b) (a ≡ b)
same_entry-Decides a b =
    Decides-like (same_entry a b) (λ e i. record { site = e.0 i; count = e.1 i })
    (λ e. (ap (λ (x : Occurrence). x.site) e, ap (λ (x : Occurrence). x.count) e))
    (Decides-and _ _ (Decides-eqb a.site b.site) (Decides-eqb a.count b.count))

same_index-Decides : (a b : List Occurrence) → Decides (same_index a b) (a ≡ b)
same_index-Decides = pointwise_decides same_entry-Decides

-- a test that is true exactly where two indexes are one
pub is_same_index : (a b : List Occurrence) (r : Bool) → (IsTrue r ↔ (a ≡ b)) → r ≡ same_index a b
is_same_index a b true tells = sym ((same_index-Decides a b).1 (tells.0 refl))
is_same_index a b false tells = by (same_index a b) refl where
  by : (s : Bool) → same_index a b ≡ s → false ≡ s
  by true is = tells.1 ((same_index-Decides a b).0 is)
  by false is = refl
