-- What a run line owns, by places.
use Rattle.std.proofs.Common.{◌≡◌, ◌≢◌, ◌⊎◌, inl, inr, ⊎_elim, ℕ, zero, suc, Bool, true, false, ◌&&◌, ◌||◌, ◌==◌, Option, Some, None, List, [], ◌∷◌, map, set, fold, slice_get, Contains, refl, sym, ap, ◌∙◌, arith}
use Rattle.std.specs.Bool.{Decides as Tells}
use Rattle.std.proofs.lemmas.Bool.{false≢true}
use Rattle.std.proofs.lemmas.Bool.Decides.{Decides-eqb, Decides-like, Decides-or}
use Rattle.std.proofs.lemmas.Option.{same_Some}
use Rattle.fb_tally.specs.Owned.{record_told}
use Rattle.fb_tally.specs.Owning.{owned_by, with_owned, own}
use Rattle.fb_tally.specs.declared.rows.RecordRow.{RecordRow}
use Rattle.fb_tally.proofs.Lists.{get_map, map_get}

-- ---- a changed row

get_set_same : {A : Type 0} (xs : List A) (k : ℕ) (x v : A) → slice_get xs k ≡ Some x → slice_get (set xs k v) k ≡ Some v
get_set_same [] k x v is = absurd (cc)
get_set_same (y ∷ xs) zero x v is = refl
get_set_same (y ∷ xs) (suc k) x v is = get_set_same xs k x v is

get_set_other : {A : Type 0} (xs : List A) (j k : ℕ) (v : A) → j ≢ k → slice_get (set xs j v) k ≡ slice_get xs k
get_set_other [] j k v apart = refl
get_set_other (y ∷ xs) zero zero v apart = absurd (apart refl)
get_set_other (y ∷ xs) zero (suc k) v apart = refl
get_set_other (y ∷ xs) (suc j) zero v apart = refl
get_set_other (y ∷ xs) (suc j) (suc k) v apart = get_set_other xs j k v (λ same. apart (ap suc same))

map_set : {A B : Type 0} (f : A → B) (xs : List A) (k : ℕ) (x v : A) → slice_get xs k ≡ Some x → f v ≡ f x → map f (set xs k v) ≡ map f xs
map_set f [] k x v is same = refl
map_set f (y ∷ xs) zero x v is same = ap (λ z. z ∷ map f xs) (same ∙ ap f (sym (same_Some y x is)))
map_set f (y ∷ xs) (suc k) x v is same = ap (λ zs. f y ∷ zs) (map_set f xs k x v is same)

-- ---- what is used

abbrev pub has_use : List ℕ → ℕ → Bool
has_use [] place = false
has_use (used ∷ uses) place = used == place || has_use uses place

pub none_used : (place : ℕ) → ¬ (Contains [] place)
none_used place (k, within, is) = absurd (omega (arith, within))

pub first_used : (used : ℕ) (uses : List ℕ) (place : ℕ) → (used ≡ place) ⊎ Contains uses place → Contains (used ∷ uses) place
first_used used uses place there = ⊎_elim (λ here. (0, omega arith, here)) (λ later. (suc later.0, omega (arith, later.1), later.2)) there

pub used_cases : (used : ℕ) (uses : List ℕ) (place : ℕ) → Contains (used ∷ uses) place → (used ≡ place) ⊎ Contains uses place
used_cases used uses place (zero, within, is) = inl is
used_cases used uses place (suc k, within, is) = inr (k, omega (arith, within), is)

pub use_tells : (uses : List ℕ) (place : ℕ) → Tells (has_use uses place) (Contains uses place)
use_tells [] place = ((λ is. absurd (false≢true is)), λ there. absurd (none_used place there))
use_tells (used ∷ uses) place =
    Decides-like _ (first_used used uses place) (used_cases used uses place) (Decides-or _ _ (Decides-eqb used place) (use_tells uses place))

-- ---- rows, once a run line is read

abbrev pub with_more : RecordRow → Bool → RecordRow
with_more row more = record row { owned = row.owned || more }

no_more : (row : RecordRow) (b : Bool) → b ≡ false → row ≡ with_more row b
no_more row b none = λ i. record row { owned = (same row.owned ∙ ap (λ b. row.owned || b) (sym none)) i }
  where
    same : (o : Bool) → o ≡ (o || false)
    same true = refl
    same false = refl

and_false : (b : Bool) → (b && false) ≡ false
and_false true = refl
and_false false = refl

and_true : (b : Bool) → b ≡ (b && true)
and_true true = refl
and_true false = refl

module _ (number : ℕ) where
  own_get : (rows : List RecordRow) (used place : ℕ) (row : RecordRow) → slice_get rows place ≡ Some row
      → slice_get (own number rows used) place ≡ Some (with_more row (row.owner == number && used == place))
  own_get rows used place row there = by (slice_get rows used) refl (used == place) refl
    where
      told : Tells (used == place) (used ≡ place)
      told = Decides-eqb used place

      by : (o : Option RecordRow) → slice_get rows used ≡ o → (b : Bool) → (used == place) ≡ b
          → slice_get (with_owned number rows used o) place ≡ Some (with_more row (row.owner == number && used == place))
      by None none true same = absurd (let at : used ≡ place = told.0 same in let both : None ≡ Some row = sym none ∙ ap (slice_get rows) at ∙ there in cc)
      by None none false same = there ∙ ap Some (no_more row _ (ap (λ b. row.owner == number && b) same ∙ and_false (row.owner == number)))
      by (Some found) some true same =
          let at : used ≡ place = told.0 same in
          let is : found ≡ row = same_Some found row (sym some ∙ ap (slice_get rows) at ∙ there) in
          ap (λ k. slice_get (set rows k (owned_by number found)) place) at ∙ get_set_same rows place row (owned_by number found) there
          ∙ (λ i. Some (with_more (is i) ((is i).owner == number)))
          ∙ ap (λ b. Some (with_more row b)) (and_true (row.owner == number) ∙ ap (λ b. row.owner == number && b) (sym same))
      by (Some found) some false same =
          get_set_other rows used place (owned_by number found) (λ at. false≢true (sym same ∙ told.1 at)) ∙ there
          ∙ ap Some (no_more row _ (ap (λ b. row.owner == number && b) same ∙ and_false (row.owner == number)))

  -- it owns what it uses, of the records that name it
  pub own_all_get : (uses : List ℕ) (rows : List RecordRow) (place : ℕ) (row : RecordRow) → slice_get rows place ≡ Some row
      → slice_get (fold (own number) rows uses) place ≡ Some (with_more row (row.owner == number && has_use uses place))
  own_all_get [] rows place row there = there ∙ ap Some (no_more row _ (and_false (row.owner == number)))
  own_all_get (used ∷ uses) rows place row there =
      own_all_get uses (own number rows used) place (with_more row (row.owner == number && used == place)) (own_get rows used place row there)
      ∙ (λ i. Some (record row { owned = joined row.owned (row.owner == number) (used == place) (has_use uses place) i }))
    where
      joined : (o e a b : Bool) → ((o || (e && a)) || (e && b)) ≡ (o || (e && (a || b)))
      joined true e a b = refl
      joined false true a b = refl
      joined false false a b = refl

  own_told : (rows : List RecordRow) (used : ℕ) → map record_told (own number rows used) ≡ map record_told rows
  own_told rows used = by (slice_get rows used) refl
    where
      by : (o : Option RecordRow) → slice_get rows used ≡ o → map record_told (with_owned number rows used o) ≡ map record_told rows
      by None is = refl
      by (Some found) is = map_set record_told rows used found (owned_by number found) is refl

  -- and changes no place and no owner
  pub own_all_told : (uses : List ℕ) (rows : List RecordRow) → map record_told (fold (own number) rows uses) ≡ map record_told rows
  own_all_told [] rows = refl
  own_all_told (used ∷ uses) rows = own_all_told uses (own number rows used) ∙ own_told rows used

  pub owned_row : (uses : List ℕ) (rows : List RecordRow) (place : ℕ) (row : RecordRow) → slice_get (fold (own number) rows uses) place ≡ Some row
      → (before : RecordRow) × (slice_get rows place ≡ Some before) × (with_more before (before.owner == number && has_use uses place) ≡ row)
  owned_row uses rows place row there =
      let told = ap (λ told. slice_get told place) (sym (own_all_told uses rows)) ∙ get_map record_told (fold (own number) rows uses) place row there in
      let before = map_get record_told rows place (record_told row) told in
      (before.0, before.1, same_Some _ row (sym (own_all_get uses rows place before.0 before.1) ∙ there))
