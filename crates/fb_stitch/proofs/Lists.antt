-- Items of lists, what holds of each, and the first that passes a test.
use Rattle.std.proofs.Common.{◌≡◌, ◌<◌, ◌≤◌, ℕ, zero, suc, Bool, true, false, ◌&&◌, ◌||◌, List, [], ◌∷◌, ◌++◌, length, get_or, take, Some, None, slice_get, slice_set, Contains, Decides, refl, sym, ap, ◌∙◌, subst, arith, if◌then◌else◌}
use Rattle.std.specs.List.{find, list_any, list_all, position, position_or_len}
use Rattle.std.proofs.lemmas.Option.{slice_get_within, slice_get-get_or, get_or_from_slice_get, same_Some}
use Rattle.std.proofs.lemmas.List.Quantifiers.{position-Some}
use Rattle.std.proofs.lemmas.List.Sums.{fails_before_first}
use Rattle.std.proofs.lemmas.Bool.Decides.{nat_tests}
use Rattle.fb_meaning.specs.Each.{HoldsOfEach}

-- ---- items by place

abbrev pub IsItem : {A : Type 0} → List A → A → Type 0
IsItem xs x = (k : ℕ) × (slice_get xs k ≡ Some x)

pub item_of : {A : Type 0} (xs : List A) (x : A) → Contains xs x → IsItem xs x
item_of xs x has = (has.0, slice_get-get_or xs has.0 x has.1 ∙ ap Some has.2)

pub contained : {A : Type 0} (xs : List A) (x : A) (k : ℕ) → slice_get xs k ≡ Some x → Contains xs x
contained xs x k is = (k, slice_get_within xs k x is, get_or_from_slice_get xs k x x is)

-- an item behind others
pub item_behind : {A : Type 0} (xs : List A) (y : A) (ys : List A) → slice_get (xs ++ y ∷ ys) (length xs) ≡ Some y
item_behind [] y ys = refl
item_behind (x ∷ xs) y ys = item_behind xs y ys

pub set_behind : {A : Type 0} (xs : List A) (y z : A) (ys : List A) → slice_set (xs ++ y ∷ ys) (length xs) z ≡ xs ++ z ∷ ys
set_behind [] y z ys = refl
set_behind (x ∷ xs) y z ys = ap (λ more. x ∷ more) (set_behind xs y z ys)

-- a front of a longer list
pub take_front : {A : Type 0} (xs ys : List A) → take (length xs) (xs ++ ys) ≡ xs
take_front [] ys = refl
take_front (x ∷ xs) ys = ap (λ more. x ∷ more) (take_front xs ys)

-- one item more of a list
pub take_one_more : {A : Type 0} (xs : List A) (k : ℕ) (x : A) → slice_get xs k ≡ Some x → take (suc k) xs ≡ take k xs ++ x ∷ []
take_one_more [] k x is = absurd (cc)
take_one_more (y ∷ xs) zero x is = ap (λ z. z ∷ []) (same_Some y x is)
take_one_more (y ∷ xs) (suc k) x is = ap (λ zs. y ∷ zs) (take_one_more xs k x is)

-- ---- what holds of each

pub each_joined : {A : Type 0} (P : A → Type 0) (xs ys : List A) → HoldsOfEach P xs → HoldsOfEach P ys → HoldsOfEach P (xs ++ ys)
each_joined P [] ys front rest = rest
each_joined P (x ∷ xs) ys front rest = (front.0, each_joined P xs ys front.1 rest)

pub each_front : {A : Type 0} (P : A → Type 0) (xs ys : List A) → HoldsOfEach P (xs ++ ys) → HoldsOfEach P xs
each_front P [] ys each = tt
each_front P (x ∷ xs) ys each = (each.0, each_front P xs ys each.1)

pub each_behind : {A : Type 0} (P : A → Type 0) (xs ys : List A) → HoldsOfEach P (xs ++ ys) → HoldsOfEach P ys
each_behind P [] ys each = each
each_behind P (x ∷ xs) ys each = each_behind P xs ys each.1

pub each_so : {A : Type 0} (P Q : A → Type 0) (xs : List A) → ((x : A) → P x → Q x) → HoldsOfEach P xs → HoldsOfEach Q xs
each_so P Q [] so each = tt
each_so P Q (x ∷ xs) so each = (so x each.0, each_so P Q xs so each.1)

pub each_item : {A : Type 0} (P : A → Type 0) (xs : List A) (k : ℕ) (x : A) → HoldsOfEach P xs → slice_get xs k ≡ Some x → P x
each_item P [] k x each is = absurd (cc)
each_item P (y ∷ xs) zero x each is = subst P (same_Some y x is) each.0
each_item P (y ∷ xs) (suc k) x each is = each_item P xs k x each.1 is

-- each item of some is among others, as a test
module _ {A : Type 0} (same : A → A → Bool) (decides : (x y : A) → Decides (same x y) (x ≡ y)) where
  any_is_item : (x : A) (ys : List A) → list_any (same x) ys ≡ true → IsItem ys x
  any_is_item x [] is = absurd (cc)
  any_is_item x (y ∷ ys) is = here (same x y) refl (any_is_item x ys) is
    where
      here : (b : Bool) → same x y ≡ b → (list_any (same x) ys ≡ true → IsItem ys x) → (b || list_any (same x) ys) ≡ true → IsItem (y ∷ ys) x
      here true e later is = (zero, ap Some (sym ((decides x y).0 e)))
      here false e later is = (let more = later is in (suc more.0, more.1))

  any_is_contained : (x : A) (ys : List A) → list_any (same x) ys ≡ true → Contains ys x
  any_is_contained x ys is = (let at = any_is_item x ys is in contained ys x at.0 at.1)

  pub contained_is_any : (x : A) (ys : List A) (k : ℕ) → slice_get ys k ≡ Some x → list_any (same x) ys ≡ true
  contained_is_any x [] k is = absurd (cc)
  contained_is_any x (y ∷ ys) zero is = ap (λ b. b || list_any (same x) ys) ((decides x y).1 (sym (same_Some y x is)))
  contained_is_any x (y ∷ ys) (suc k) is = rw (contained_is_any x ys k is) (or_true (same x y))
    where
      or_true : (b : Bool) → (b || true) ≡ true
      or_true true = refl
      or_true false = refl

  pub all_are_contained : (xs ys : List A) → list_all (λ x. list_any (same x) ys) xs ≡ true → HoldsOfEach (Contains ys) xs
  all_are_contained [] ys is = tt
  all_are_contained (x ∷ xs) ys is = by (list_any (same x) ys) refl (all_are_contained xs ys) is
    where
      by : (b : Bool) → list_any (same x) ys ≡ b → (list_all (λ x. list_any (same x) ys) xs ≡ true → HoldsOfEach (Contains ys) xs)
          → (b && list_all (λ x. list_any (same x) ys) xs) ≡ true → HoldsOfEach (Contains ys) (x ∷ xs)
      by true e later is = (any_is_contained x ys e, later is)
      by false e later is = absurd (cc)

  pub contained_are_all : (xs ys : List A) → HoldsOfEach (Contains ys) xs → list_all (λ x. list_any (same x) ys) xs ≡ true
  contained_are_all [] ys each = refl
  contained_are_all (x ∷ xs) ys each =
      let at = item_of ys x each.0 in
      ap (λ b. b && list_all (λ x. list_any (same x) ys) xs) (contained_is_any x ys at.0 at.1) ∙ contained_are_all xs ys each.1

-- ---- the first that passes

module _ {A : Type 0} (test : A → Bool) where
  pub record IsPassing (xs : List A) (i : ℕ) : Type 0 where
    pub item : A
    pub item_is : slice_get xs i ≡ Some item
    pub passes : test item ≡ true

  pub passing_at : (xs : List A) (i : ℕ) → position test xs ≡ Some i → IsPassing xs i
  passing_at [] i e = absurd (cc)
  passing_at (x ∷ xs) i e =
      let at = position-Some test (x ∷ xs) i x e in
      record { item = get_or (x ∷ xs) i x; item_is = slice_get-get_or (x ∷ xs) i x at.0; passes = at.1 }

  pub none_passes : (xs : List A) → position test xs ≡ None → (j : ℕ) (y : A) → slice_get xs j ≡ Some y → test y ≡ false
  none_passes xs e j y is =
      let within : j < length xs = slice_get_within xs j y is in
      let all : length xs ≤ position_or_len test xs = grind (arith, nat_tests) in
      ap test (sym (get_or_from_slice_get xs j y y is)) ∙ fails_before_first test xs j y (omega arith)

  pub found_item : (xs : List A) (x : A) → find test xs ≡ Some x → (k : ℕ) × (slice_get xs k ≡ Some x) × (test x ≡ true)
  found_item [] x e = absurd (cc)
  found_item (y ∷ xs) x e = by (test y) refl (found_item xs x) e
    where
      by : (b : Bool) → test y ≡ b → (find test xs ≡ Some x → (k : ℕ) × (slice_get xs k ≡ Some x) × (test x ≡ true)) → (if b then Some y else find test xs) ≡ Some x → (k : ℕ) × (slice_get (y ∷ xs) k ≡ Some x) × (test x ≡ true)
      by true is later e = (zero, e, subst (λ z. test z ≡ true) (same_Some y x e) is)
      by false is later e = (let more = later e in (suc more.0, more.1, more.2))
