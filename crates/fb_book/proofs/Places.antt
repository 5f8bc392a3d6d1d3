-- The first place of an item in a list that grows, and in a table of places.
use Rattle.std.proofs.Common.{◌≡◌, ℕ, suc, ◌+◌, Bool, true, false, cond, is_some, IsSome, Option, Some, None, List, [], ◌∷◌, ◌++◌, length, refl, sym, ap, ◌∙◌, subst, arith}
use Rattle.std.specs.List.{position_from}

pub none_from : {A : Type 0} (found : Option A) → false ≡ is_some found → found ≡ None
none_from None is = refl
none_from (Some x) is = absurd (cc)

found_later : {X : Type 0} (t : X → Bool) (i k : ℕ) (xs ys : List X) (b : Bool) → cond b (Some i) (position_from t (i + 1) xs) ≡ Some k
    → (position_from t (i + 1) xs ≡ Some k → position_from t (i + 1) (xs ++ ys) ≡ Some k)
    → cond b (Some i) (position_from t (i + 1) (xs ++ ys)) ≡ Some k
found_later t i k xs ys true found later = found
found_later t i k xs ys false found later = later found

-- what is found stays found
pub position_from-append : {X : Type 0} (t : X → Bool) (i k : ℕ) (xs ys : List X) → position_from t i xs ≡ Some k → position_from t i (xs ++ ys) ≡ Some k
position_from-append t i k [] ys found = absurd (cc)
position_from-append t i k (x ∷ xs) ys found = found_later t i k xs ys (t x) found (position_from-append t (i + 1) k xs ys)

missed : {X : Type 0} (t : X → Bool) (i : ℕ) (xs : List X) (x : X) (b : Bool) → cond b (Some i) (position_from t (i + 1) xs) ≡ None
    → (position_from t (i + 1) xs ≡ None → position_from t (i + 1) (xs ++ x ∷ []) ≡ cond (t x) (Some (i + 1 + length xs)) None)
    → cond b (Some i) (position_from t (i + 1) (xs ++ x ∷ [])) ≡ cond (t x) (Some (i + suc (length xs))) None
missed t i xs x true none later = absurd (cc)
missed t i xs x false none later = later none ∙ ap (λ n. cond (t x) (Some n) None) (omega arith)

-- what isn't found may be the item that is added
pub position_from-push : {X : Type 0} (t : X → Bool) (i : ℕ) (xs : List X) (x : X) → position_from t i xs ≡ None
    → position_from t i (xs ++ x ∷ []) ≡ cond (t x) (Some (i + length xs)) None
position_from-push t i [] x none = ap (λ n. cond (t x) (Some n) None) (omega arith)
position_from-push t i (y ∷ xs) x none = missed t i xs x (t y) none (position_from-push t (i + 1) xs x)

-- ---- a table that has the first place of each name

abbrev pub HasPlaces : {K X : Type 0} → (K → X → Bool) → ℕ → (K → Option ℕ) → List X → Type 0
HasPlaces {K} named start places xs = (k : K) → places k ≡ position_from (named k) start xs

keeps_place : {X : Type 0} (t : X → Bool) (i : ℕ) (xs : List X) (x : X) (found : Option ℕ) → position_from t i xs ≡ found
    → (t x ≡ true → IsSome found) → found ≡ position_from t i (xs ++ x ∷ [])
keeps_place t i xs x (Some k) is known = sym (position_from-append t i k xs (x ∷ []) is)
keeps_place t i xs x None is known = sym (position_from-push t i xs x is ∙ ap (λ b. cond b (Some (i + length xs)) None) (not_here (t x) known)) where
  not_here : (b : Bool) → (b ≡ true → IsSome {T = ℕ} None) → b ≡ false
  not_here true known = absurd (let wrong = known refl in cc)
  not_here false known = refl

-- a name that is there already keeps its place
pub places-known : {K X : Type 0} (named : K → X → Bool) (start : ℕ) (places : K → Option ℕ) (xs : List X) (x : X) (key : K)
    → HasPlaces named start places xs → IsSome (places key) → ((k : K) → named k x ≡ true → places k ≡ places key)
    → HasPlaces named start places (xs ++ x ∷ [])
places-known named start places xs x key has known same k =
    has k ∙ keeps_place (named k) start xs x (position_from (named k) start xs) refl
    (λ here. subst IsSome (sym (same k here) ∙ has k) known)

gets_place : {X : Type 0} (t : X → Bool) (i : ℕ) (xs : List X) (x : X) (found : Option ℕ) → position_from t i xs ≡ found
    → (t x ≡ true → found ≡ None) → cond (t x) (Some (i + length xs)) found ≡ position_from t i (xs ++ x ∷ [])
gets_place t i xs x (Some k) is new =
    ap (λ b. cond b (Some (i + length xs)) (Some k)) (not_here (t x) new) ∙ sym (position_from-append t i k xs (x ∷ []) is) where
      not_here : (b : Bool) → (b ≡ true → Some k ≡ None) → b ≡ false
      not_here true new = absurd (let wrong = new refl in cc)
      not_here false new = refl
gets_place t i xs x None is new = sym (position_from-push t i xs x is)

-- a new name gets the place at the end
pub places-new : {K X : Type 0} (named : K → X → Bool) (start : ℕ) (places after : K → Option ℕ) (xs : List X) (x : X) (key : K)
    → HasPlaces named start places xs → places key ≡ None → ((k : K) → named k x ≡ true → places k ≡ places key)
    → ((k : K) → after k ≡ cond (named k x) (Some (start + length xs)) (places k))
    → HasPlaces named start after (xs ++ x ∷ [])
places-new named start places after xs x key has none same added k =
    added k ∙ ap (λ found. cond (named k x) (Some (start + length xs)) found) (has k)
    ∙ gets_place (named k) start xs x (position_from (named k) start xs) refl (λ here. sym (has k) ∙ same k here ∙ none)
