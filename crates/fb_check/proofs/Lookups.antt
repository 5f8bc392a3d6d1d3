-- The first place of a name in a list that grows, and in a table of places.
use Rattle.std.proofs.Common.{◌≡◌, ℕ, suc, ◌+◌, ◌-◌, ◌≤◌, Bool, true, false, ◌||◌, cond, is_some, IsSome, Option, Some, None, option_map, List, [], ◌∷◌, ◌++◌, map, length, find, slice_get, refl, sym, ap, ◌∙◌, subst, arith}
use Rattle.std.specs.List.{list_any, position_from}

found_later : {X : Type 0} (t : X → Bool) (i k : ℕ) (xs ys : List X) (b : Bool) → cond b (Some i) (position_from t (i + 1) xs) ≡ Some k
    → (position_from t (i + 1) xs ≡ Some k → position_from t (i + 1) (xs ++ ys) ≡ Some k)
    → cond b (Some i) (position_from t (i + 1) (xs ++ ys)) ≡ Some k
found_later t i k xs ys true found later = found
found_later t i k xs ys false found later = later found

-- what is found stays found
pub position_from-append : {X : Type 0} (t : X → Bool) (i k : ℕ) (xs ys : List X) → position_from t i xs ≡ Some k → position_from t i (xs ++ ys) ≡ Some k
position_from-append t i k [] ys found = absurd (cc)
position_from-append t i k (x ∷ xs) ys found = found_later t i k xs ys (t x) found (position_from-append t (i + 1) k xs ys)

missed : {X : Type 0} (t : X → Bool) (i : ℕ) (xs : List X) (x : X) (b : Bool) → cond b (Some i) (position_from t (i + 1) xs) ≡ None
    → (position_from t (i + 1) xs ≡ None → position_from t (i + 1) (xs ++ x ∷ []) ≡ cond (t x) (Some (i + 1 + length xs)) None)
    → cond b (Some i) (position_from t (i + 1) (xs ++ x ∷ [])) ≡ cond (t x) (Some (i + suc (length xs))) None
missed t i xs x true none later = absurd (cc)
missed t i xs x false none later = later none ∙ ap (λ n. cond (t x) (Some n) None) (omega arith)

-- what isn't found may be the item that is added
pub position_from-push : {X : Type 0} (t : X → Bool) (i : ℕ) (xs : List X) (x : X) → position_from t i xs ≡ None
    → position_from t i (xs ++ x ∷ []) ≡ cond (t x) (Some (i + length xs)) None
position_from-push t i [] x none = ap (λ n. cond (t x) (Some n) None) (omega arith)
position_from-push t i (y ∷ xs) x none = missed t i xs x (t y) none (position_from-push t (i + 1) xs x)

-- ---- a table that has the first place of each name

abbrev pub HasPlaces : {K X : Type 0} → (K → X → Bool) → ℕ → (K → Option ℕ) → List X → Type 0
HasPlaces {K} named start places xs = (k : K) → places k ≡ position_from (named k) start xs

keeps_place : {X : Type 0} (t : X → Bool) (i : ℕ) (xs : List X) (x : X) (found : Option ℕ) → position_from t i xs ≡ found
    → (t x ≡ true → IsSome found) → found ≡ position_from t i (xs ++ x ∷ [])
keeps_place t i xs x (Some k) is known = sym (position_from-append t i k xs (x ∷ []) is)
keeps_place t i xs x None is known = sym (position_from-push t i xs x is ∙ ap (λ b. cond b (Some (i + length xs)) None) (not_here (t x) known)) where
  not_here : (b : Bool) → (b ≡ true → IsSome {T = ℕ} None) → b ≡ false
  not_here true known = absurd (let wrong = known refl in cc)
  not_here false known = refl

-- a name that is there already keeps its place
pub places-known : {K X : Type 0} (named : K → X → Bool) (start : ℕ) (places : K → Option ℕ) (xs : List X) (x : X) (key : K)
    → HasPlaces named start places xs → IsSome (places key) → ((k : K) → named k x ≡ true → places k ≡ places key)
    → HasPlaces named start places (xs ++ x ∷ [])
places-known named start places xs x key has known same k =
    has k ∙ keeps_place (named k) start xs x (position_from (named k) start xs) refl
    (λ here. subst IsSome (sym (same k here) ∙ has k) known)

gets_place : {X : Type 0} (t : X → Bool) (i : ℕ) (xs : List X) (x : X) (found : Option ℕ) → position_from t i xs ≡ found
    → (t x ≡ true → found ≡ None) → cond (t x) (Some (i + length xs)) found ≡ position_from t i (xs ++ x ∷ [])
gets_place t i xs x (Some k) is new =
    ap (λ b. cond b (Some (i + length xs)) (Some k)) (not_here (t x) new) ∙ sym (position_from-append t i k xs (x ∷ []) is) where
      not_here : (b : Bool) → (b ≡ true → Some k ≡ None) → b ≡ false
      not_here true new = absurd (let wrong = new refl in cc)
      not_here false new = refl
gets_place t i xs x None is new = sym (position_from-push t i xs x is)

-- a new name gets the place at the end
pub places-new : {K X : Type 0} (named : K → X → Bool) (start : ℕ) (places after : K → Option ℕ) (xs : List X) (x : X) (key : K)
    → HasPlaces named start places xs → places key ≡ None → ((k : K) → named k x ≡ true → places k ≡ places key)
    → ((k : K) → after k ≡ cond (named k x) (Some (start + length xs)) (places k))
    → HasPlaces named start after (xs ++ x ∷ [])
places-new named start places after xs x key has none same added k =
    added k ∙ ap (λ found. cond (named k x) (Some (start + length xs)) found) (has k)
    ∙ gets_place (named k) start xs x (position_from (named k) start xs) refl (λ here. sym (has k) ∙ same k here ∙ none)

-- ---- the item that is found

abbrev FoundAt : {X : Type 0} → (X → Bool) → ℕ → List X → ℕ → Type 0
FoundAt t i xs k = (j : ℕ) × (k ≡ i + j) × (find t xs ≡ slice_get xs j)

found_at : {X : Type 0} (t : X → Bool) (i k : ℕ) (x : X) (xs : List X) (b : Bool) → cond b (Some i) (position_from t (i + 1) xs) ≡ Some k
    → (position_from t (i + 1) xs ≡ Some k → FoundAt t (i + 1) xs k)
    → (j : ℕ) × (k ≡ i + j) × (cond b (Some x) (find t xs) ≡ slice_get (x ∷ xs) j)
found_at t i k x xs true is later = (0, (let same = is in let first : i ≡ k = cc in omega arith), refl)
found_at t i k x xs false is later = (let rest = later is in (suc rest.0, omega (arith, rest.1), rest.2))

found : {X : Type 0} (t : X → Bool) (i k : ℕ) (xs : List X) → position_from t i xs ≡ Some k → FoundAt t i xs k
found t i k [] is = absurd (cc)
found t i k (x ∷ xs) is = found_at t i k x xs (t x) is (found t (i + 1) k xs)

-- the item at the place that is found is the one that is found
pub find-position_from : {X : Type 0} (t : X → Bool) (k : ℕ) (xs : List X) → position_from t 0 xs ≡ Some k → find t xs ≡ slice_get xs k
find-position_from t k xs is = let at = found t 0 k xs is in at.2 ∙ ap (slice_get xs) (omega (arith, at.1))

not_found_at : {X : Type 0} (t : X → Bool) (i : ℕ) (x : X) (xs : List X) (b : Bool) → cond b (Some i) (position_from t (i + 1) xs) ≡ None
    → (position_from t (i + 1) xs ≡ None → find t xs ≡ None) → cond b (Some x) (find t xs) ≡ None
not_found_at t i x xs true is later = absurd (cc)
not_found_at t i x xs false is later = later is

pub find-position_from-none : {X : Type 0} (t : X → Bool) (i : ℕ) (xs : List X) → position_from t i xs ≡ None → find t xs ≡ None
find-position_from-none t i [] is = refl
find-position_from-none t i (x ∷ xs) is = not_found_at t i x xs (t x) is (find-position_from-none t (i + 1) xs)

-- ---- whether there is one

any_at : {X : Type 0} (t : X → Bool) (i : ℕ) (xs : List X) (b : Bool) → is_some (position_from t (i + 1) xs) ≡ list_any t xs
    → is_some (cond b (Some i) (position_from t (i + 1) xs)) ≡ (b || list_any t xs)
any_at t i xs true same = refl
any_at t i xs false same = same

pub is_some-position_from : {X : Type 0} (t : X → Bool) (i : ℕ) (xs : List X) → is_some (position_from t i xs) ≡ list_any t xs
is_some-position_from t i [] = refl
is_some-position_from t i (x ∷ xs) = any_at t i xs (t x) (is_some-position_from t (i + 1) xs)

-- ---- places of what a list's items are told by

mapped_if : (i : ℕ) (b : Bool) (one other : Option ℕ) → one ≡ option_map suc other → cond b (Some (suc i)) one ≡ option_map suc (cond b (Some i) other)
mapped_if i true one other same = refl
mapped_if i false one other same = same

position_from-map : {X Y : Type 0} (f : X → Y) (t : Y → Bool) (i : ℕ) (xs : List X) → position_from t (suc i) (map f xs) ≡ option_map suc (position_from (λ x. t (f x)) i xs)
position_from-map f t i [] = refl
position_from-map f t i (x ∷ xs) =
    mapped_if i (t (f x)) (position_from t (suc i + 1) (map f xs)) (position_from (λ y. t (f y)) (i + 1) xs)
    (ap (λ n. position_from t n (map f xs)) (let next : suc i + 1 ≡ suc (i + 1) = omega arith in next) ∙ position_from-map f t (i + 1) xs)

one_less : (position : ℕ) (found : Option ℕ) → Some position ≡ option_map suc found → (1 ≤ position) × (Some (position - 1) ≡ found)
one_less position None is = absurd (cc)
one_less position (Some n) is = let same : position ≡ suc n = cc in (omega arith, ap Some (omega arith))

none_less : (found : Option ℕ) → None ≡ option_map suc found → None ≡ found
none_less None is = refl
none_less (Some n) is = absurd (cc)

-- from a position, counted from 1, to a place, counted from 0
pub place-position : {X Y : Type 0} (f : X → Y) (t : Y → Bool) (xs : List X) (position : ℕ) → Some position ≡ position_from t 1 (map f xs)
    → (1 ≤ position) × (Some (position - 1) ≡ position_from (λ x. t (f x)) 0 xs)
place-position f t xs position is = one_less position (position_from (λ x. t (f x)) 0 xs) (is ∙ position_from-map f t 0 xs)

pub place-none : {X Y : Type 0} (f : X → Y) (t : Y → Bool) (xs : List X) → None ≡ position_from t 1 (map f xs) → None ≡ position_from (λ x. t (f x)) 0 xs
place-none f t xs is = none_less (position_from (λ x. t (f x)) 0 xs) (is ∙ position_from-map f t 0 xs)
