-- Where the first item stands that passes a test, and where records stand.
use Rattle.std.proofs.Common.{◌≡◌, ℕ, zero, suc, Bool, true, false, cond, ltb, ◌||◌, Option, Some, None, List, [], ◌∷◌, ◌++◌, get_or, slice_get, length, position, refl, sym, ap, ◌∙◌, arith, append-nil}
use Rattle.std.specs.List.{list_any, position_or_len}
use Rattle.std.specs.Option.{option_or}
use Rattle.std.proofs.lemmas.Bool.Decides.{nat_tests}
use Rattle.std.proofs.lemmas.List.Folds.{list_any-append}
use Rattle.std.proofs.lemmas.List.Quantifiers.{position-Some}
use Rattle.std.proofs.lemmas.Option.{same_Some, slice_get-get_or}
use Rattle.fb_tree.specs.Sameness.{same_record, same_record-Decides}
use Rattle.fb_tree.specs.declared.recorded.Record.{Record}
use Rattle.fb_campaign.specs.Campaign.{uses_of}
use Rattle.fb_meaning.specs.Spelling.{AreAt}
use Rattle.fb_store.specs.Following.{AreDifferent}
use Rattle.fb_explore.proofs.Numbers.{kept_place, new_place, place_out}

-- ---- the first that passes

module _ {A : Type 0} (p : A → Bool) (xs : List A) where
  found_place : list_any p xs ≡ true → position p xs ≡ Some (position_or_len p xs)
  found_place among = ap (position p) (sym (append-nil xs)) ∙ kept_place p xs [] among

  no_place : list_any p xs ≡ false → position p xs ≡ None
  no_place none = at_end (position_or_len p xs) (length xs) (place_out p xs none)
    where
      at_end : (at size : ℕ) → at ≡ size → cond (ltb at size) (Some at) None ≡ None
      at_end at size same = (let outside : ltb at size ≡ false = grind (arith, nat_tests) in ap (λ b. cond b (Some at) None) outside)

-- with one item more
module _ {A : Type 0} (p : A → Bool) (xs : List A) (x : A) where
  none_more : list_any p xs ≡ false → p x ≡ false → list_any p (xs ++ x ∷ []) ≡ false
  none_more none fails = list_any-append p xs (x ∷ []) ∙ ap (λ b. b || list_any p (x ∷ [])) none ∙ ap (λ b. b || false) fails

  abbrev if_last : Bool → Option ℕ
  if_last b = cond b (Some (length xs)) None

  pub place_push : position p (xs ++ x ∷ []) ≡ option_or (position p xs) (if_last (p x))
  place_push = by (list_any p xs) refl (p x) refl
    where
      by : (b : Bool) → list_any p xs ≡ b → (c : Bool) → p x ≡ c → position p (xs ++ x ∷ []) ≡ option_or (position p xs) (if_last (p x))
      by true among c is =
          kept_place p xs (x ∷ []) among ∙ ap (λ found. option_or found (if_last (p x))) (sym (found_place p xs among))
      by false none true is =
          ap (position p) (sym (append-nil (xs ++ x ∷ []))) ∙ new_place p xs [] x none is
          ∙ ap if_last (sym is) ∙ ap (λ found. option_or found (if_last (p x))) (sym (no_place p xs none))
      by false none false is =
          no_place p (xs ++ x ∷ []) (none_more none is)
          ∙ ap if_last (sym is) ∙ ap (λ found. option_or found (if_last (p x))) (sym (no_place p xs none))

-- ---- records that differ

any_at : {A : Type 0} (p : A → Bool) (xs : List A) (k : ℕ) (x : A) → slice_get xs k ≡ Some x → p x ≡ true → list_any p xs ≡ true
any_at p [] k x is passes = absurd (cc)
any_at p (y ∷ xs) zero x is passes = ap (λ b. b || list_any p xs) (ap p (same_Some y x is) ∙ passes)
any_at p (y ∷ xs) (suc k) x is passes = ap (λ b. p y || b) (any_at p xs k x is passes) ∙ or_true (p y)
  where
    or_true : (b : Bool) → (b || true) ≡ true
    or_true true = refl
    or_true false = refl

module _ (known : List Record) (different : AreDifferent known) where
  place_is : (k : ℕ) (item : Record) → slice_get known k ≡ Some item → position (same_record item) known ≡ Some k
  place_is k item is =
      let test = same_record item in
      let found = found_place test known (any_at test known k item is ((same_record-Decides item item).1 refl)) in
      let at = position_or_len test known in
      let first = position-Some test known at item found in
      let same = (same_record-Decides item (get_or known at item)).0 first.1 in
      let there : slice_get known at ≡ Some item = slice_get-get_or known at item first.0 ∙ ap Some (sym same) in
      found ∙ ap Some (different at k item there is)

  -- the places of records are their numbers
  pub uses_at : (uses : List ℕ) (items : List Record) → AreAt known uses items → uses_of known items ≡ uses
  uses_at [] [] are = refl
  uses_at [] (item ∷ items) are = absurd (cc)
  uses_at (number ∷ uses) [] are = absurd (cc)
  uses_at (number ∷ uses) (item ∷ items) are =
      let first : slice_get known number ≡ Some item = cc in
      let others : AreAt known uses items = cc in
      first_use (place_is number item first) ∙ ap (λ rest. number ∷ rest) (uses_at uses items others)
    where
      first_use : position (same_record item) known ≡ Some number → uses_of known (item ∷ items) ≡ number ∷ uses_of known items
      first_use is = rw is
