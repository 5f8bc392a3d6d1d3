-- The first item that passes a test.
use Rattle.std.proofs.Common.{◌≡◌, ◌<◌, ◌≤◌, ℕ, zero, suc, Bool, true, false, List, [], ◌∷◌, ◌++◌, length, get_or, Some, None, slice_get, position, nat_lt, cond, ◌⊎◌, inl, inr, refl, sym, ap, ◌∙◌, arith}
use Rattle.std.specs.List.{position_or_len, find}
use Rattle.std.proofs.lemmas.Option.{slice_get_within, slice_get-get_or, slice_get_past, get_or_from_slice_get}
use Rattle.std.proofs.lemmas.List.Quantifiers.{position-Some}
use Rattle.std.proofs.lemmas.List.Sums.{position_or_len_is, fails_before_first}
use Rattle.std.proofs.lemmas.List.Folds.{find_at}
use Rattle.std.proofs.lemmas.Bool.Decides.{nat_tests}

pub record IsFirst {A : Type 0} (test : A → Bool) (xs : List A) (i : ℕ) : Type 0 where
  pub item : A
  pub item_is : slice_get xs i ≡ Some item
  pub passes : test item ≡ true
  pub before : (j : ℕ) (y : A) → j < i → slice_get xs j ≡ Some y → test y ≡ false

abbrev pub IsNowhere : {A : Type 0} → (A → Bool) → List A → Type 0
IsNowhere {A} test xs = (j : ℕ) (y : A) → slice_get xs j ≡ Some y → test y ≡ false

module _ {A : Type 0} (test : A → Bool) where
  pub first_from_position : (xs : List A) (i : ℕ) → position test xs ≡ Some i → IsFirst test xs i
  first_from_position [] i e = cc
  first_from_position (x ∷ xs) i e =
      let at = position-Some test (x ∷ xs) i x e in
      record {
        item = get_or (x ∷ xs) i x;
        item_is = slice_get-get_or (x ∷ xs) i x at.0;
        passes = at.1;
        before = λ j y low is. ap test (sym (get_or_from_slice_get (x ∷ xs) j y x is)) ∙ at.2 j low;
      }

  pub position_from_first : (xs : List A) (i : ℕ) → IsFirst test xs i → position test xs ≡ Some i
  position_from_first xs i first =
      let within : i < length xs = slice_get_within xs i first.item first.item_is in
      let is : position_or_len test xs ≡ i = position_or_len_is test xs i first.item (omega arith)
      (λ k low. first.before k (get_or xs k first.item) low (slice_get-get_or xs k first.item (omega arith)))
      (λ _. ap test (get_or_from_slice_get xs i first.item first.item first.item_is) ∙ first.passes) in
      ap (λ n. cond (nat_lt n (length xs)) (Some n) None) is ∙ grind (arith, nat_tests)

  pub nowhere_from_position : (xs : List A) → position test xs ≡ None → IsNowhere test xs
  nowhere_from_position xs e j y is =
      let within : j < length xs = slice_get_within xs j y is in
      let all : length xs ≤ position_or_len test xs = grind (arith, nat_tests) in
      ap test (sym (get_or_from_slice_get xs j y y is)) ∙ fails_before_first test xs j y (omega arith)

  pub position_from_nowhere : (xs : List A) → IsNowhere test xs → position test xs ≡ None
  position_from_nowhere [] none = refl
  position_from_nowhere (x ∷ xs) none =
      let is : position_or_len test (x ∷ xs) ≡ length (x ∷ xs) = position_or_len_is test (x ∷ xs) (length (x ∷ xs)) x (omega arith)
      (λ k low. none k (get_or (x ∷ xs) k x) (slice_get-get_or (x ∷ xs) k x low)) (λ low. absurd (omega arith)) in
      ap (λ n. cond (nat_lt n (length (x ∷ xs))) (Some n) None) is ∙ grind (arith, nat_tests)

  -- the first that passes is the item at its place
  pub find_from_position : (xs : List A) (i : ℕ) → position test xs ≡ Some i → find test xs ≡ slice_get xs i
  find_from_position xs i e =
      let first = first_from_position xs i e in
      let within : i < length xs = slice_get_within xs i first.item first.item_is in
      let is : position_or_len test xs ≡ i = grind (arith, nat_tests) in
      find_at test xs ∙ ap (slice_get xs) is

  pub find_from_nowhere : (xs : List A) → position test xs ≡ None → find test xs ≡ None
  find_from_nowhere xs e =
      let all : length xs ≤ position_or_len test xs = grind (arith, nat_tests) in
      find_at test xs ∙ slice_get_past xs (position_or_len test xs) all

-- an item of a list that has one more
pub slice_get_front : {A : Type 0} (xs ys : List A) (i : ℕ) → i < length xs → slice_get (xs ++ ys) i ≡ slice_get xs i
slice_get_front [] ys i low = absurd (omega arith)
slice_get_front (x ∷ xs) ys zero low = refl
slice_get_front (x ∷ xs) ys (suc i) low = slice_get_front xs ys i (omega arith)

pub slice_get_last : {A : Type 0} (xs : List A) (y : A) → slice_get (xs ++ y ∷ []) (length xs) ≡ Some y
slice_get_last [] y = refl
slice_get_last (x ∷ xs) y = slice_get_last xs y

pub slice_get_one_more : {A : Type 0} (xs : List A) (y z : A) (i : ℕ) → slice_get (xs ++ y ∷ []) i ≡ Some z
    → ((i < length xs) × (slice_get xs i ≡ Some z)) ⊎ ((i ≡ length xs) × (z ≡ y))
slice_get_one_more [] y z zero is = inr (refl, cc)
slice_get_one_more [] y z (suc i) is = cc
slice_get_one_more (x ∷ xs) y z zero is = inl (omega arith, is)
slice_get_one_more (x ∷ xs) y z (suc i) is =
    elim (slice_get_one_more xs y z i is) [ inl h ↦ inl (omega (arith, h.0), h.1) | inr h ↦ inr (omega (arith, h.0), h.1) ]

module _ {A : Type 0} (test : A → Bool) (xs : List A) (y : A) where
  -- the first stays the first
  pub position_one_more : (i : ℕ) → position test xs ≡ Some i → position test (xs ++ y ∷ []) ≡ Some i
  position_one_more i e =
      let first = first_from_position test xs i e in
      let within : i < length xs = slice_get_within xs i first.item first.item_is in
      position_from_first test (xs ++ y ∷ []) i (record {
        item = first.item;
        item_is = slice_get_front xs (y ∷ []) i within ∙ first.item_is;
        passes = first.passes;
        before = λ j z low is. first.before j z low (sym (slice_get_front xs (y ∷ []) j (omega arith)) ∙ is);
      })

  pub position_at_last : position test xs ≡ None → test y ≡ true → position test (xs ++ y ∷ []) ≡ Some (length xs)
  position_at_last e passes =
      position_from_first test (xs ++ y ∷ []) (length xs) (record {
        item = y;
        item_is = slice_get_last xs y;
        passes = passes;
        before = λ j z low is. nowhere_from_position test xs e j z (sym (slice_get_front xs (y ∷ []) j low) ∙ is);
      })

  pub position_still_nowhere : position test xs ≡ None → test y ≡ false → position test (xs ++ y ∷ []) ≡ None
  position_still_nowhere e fails =
      position_from_nowhere test (xs ++ y ∷ []) (λ j z is.
      elim (slice_get_one_more xs y z j is) [
        | inl h ↦ nowhere_from_position test xs e j z h.1
        | inr h ↦ ap test h.1 ∙ fails
      ])
