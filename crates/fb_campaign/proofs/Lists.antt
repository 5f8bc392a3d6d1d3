-- What holds of lists of anything: who is in them, which are distinct, how long they are.
use Rattle.std.proofs.Common.{◌≡◌, ◌⊎◌, inl, inr, ⊎_elim, ℕ, zero, suc, ◌+◌, ◌<◌, ◌≤◌, Bool, true, false, cond, Option, Some, None, List, [], ◌∷◌, ◌++◌, map, filter, filter_map, flat_map, length, slice_get, Contains, refl, sym, ap, ◌∙◌, subst, arith, length-append}
use Rattle.std.specs.List.{last_or}
use Rattle.std.proofs.lemmas.List.Elements.{Contains-append_left, Contains-append_right, Contains-append_cases, filter_map-append}
use Rattle.std.proofs.lemmas.Option.{same_Some}
use Rattle.fb_campaign.specs.Runs.{AreDistinct}

-- ---- membership

pub in_none : {A B : Type 0} (x : A) → Contains [] x → B
in_none x (k, within, is) = absurd (omega (arith, within))

pub in_head : {A : Type 0} (x : A) (xs : List A) → Contains (x ∷ xs) x
in_head x xs = (0, omega arith, refl)

pub in_tail : {A : Type 0} (x y : A) (xs : List A) → Contains xs x → Contains (y ∷ xs) x
in_tail x y xs (k, within, is) = (suc k, omega (arith, within), is)

pub in_cases : {A : Type 0} (x y : A) (xs : List A) → Contains (y ∷ xs) x → (y ≡ x) ⊎ Contains xs x
in_cases x y xs (zero, within, is) = inl is
in_cases x y xs (suc k, within, is) = inr (k, omega (arith, within), is)

pub in_same : {A : Type 0} (x : A) (xs ys : List A) → xs ≡ ys → Contains xs x → Contains ys x
in_same x xs ys same has = subst (λ zs. Contains zs x) same has

pub in_middle : {A : Type 0} (before after : List A) (x : A) → Contains (before ++ x ∷ after) x
in_middle before after x = Contains-append_right before (x ∷ after) x (in_head x after)

-- in what is left where one item is taken out, unless it is that item
pub in_others : {A : Type 0} (before after : List A) (x y : A) → Contains (before ++ x ∷ after) y → ¬ (x ≡ y) → Contains (before ++ after) y
in_others before after x y has other =
    ⊎_elim (λ here. Contains-append_left before after y here)
    (λ there. ⊎_elim (λ same. absurd (other same)) (λ here. Contains-append_right before after y here) (in_cases y x after there))
    (Contains-append_cases before (x ∷ after) y has)

pub in_map : {A B : Type 0} (f : A → B) (x : A) (xs : List A) → Contains xs x → Contains (map f xs) (f x)
in_map f x [] has = in_none x has
in_map f x (y ∷ xs) has =
    ⊎_elim (λ same. subst (λ z. Contains (f y ∷ map f xs) (f z)) same (in_head (f y) (map f xs)))
    (λ there. in_tail (f x) (f y) (map f xs) (in_map f x xs there)) (in_cases x y xs has)

pub map_has : {A B : Type 0} (f : A → B) (z : B) (xs : List A) → Contains (map f xs) z → (x : A) × Contains xs x × (f x ≡ z)
map_has f z [] has = in_none z has
map_has f z (y ∷ xs) has =
    ⊎_elim (λ same. (y, in_head y xs, same))
    (λ there. (let found = map_has f z xs there in (found.0, in_tail found.0 y xs found.1, found.2))) (in_cases z (f y) (map f xs) has)

-- ---- what a filter keeps

kept : {A : Type 0} (b : Bool) (x y : A) (xs : List A) → Contains xs y → Contains (cond b (x ∷ xs) xs) y
kept true x y xs has = in_tail y x xs has
kept false x y xs has = has

kept_head : {A : Type 0} (b : Bool) (x : A) (xs : List A) → b ≡ true → Contains (cond b (x ∷ xs) xs) x
kept_head true x xs passes = in_head x xs
kept_head false x xs passes = absurd (cc)

pub in_filter : {A : Type 0} (p : A → Bool) (x : A) (xs : List A) → Contains xs x → p x ≡ true → Contains (filter p xs) x
in_filter p x [] has passes = in_none x has
in_filter p x (y ∷ xs) has passes =
    ⊎_elim (λ same. subst (Contains (cond (p y) (y ∷ filter p xs) (filter p xs))) same (kept_head (p y) y (filter p xs) (ap p same ∙ passes)))
    (λ there. kept (p y) y x (filter p xs) (in_filter p x xs there passes)) (in_cases x y xs has)

was_kept : {A : Type 0} (b : Bool) (x y : A) (xs : List A) → Contains (cond b (x ∷ xs) xs) y → ((x ≡ y) × (b ≡ true)) ⊎ Contains xs y
was_kept true x y xs has = ⊎_elim (λ same. inl (same, refl)) (λ there. inr there) (in_cases y x xs has)
was_kept false x y xs has = inr has

pub filter_has : {A : Type 0} (p : A → Bool) (x : A) (xs : List A) → Contains (filter p xs) x → Contains xs x × (p x ≡ true)
filter_has p x [] has = in_none x has
filter_has p x (y ∷ xs) has =
    ⊎_elim (λ both. (subst (Contains (y ∷ xs)) both.0 (in_head y xs), sym (ap p both.0) ∙ both.1))
    (λ there. (let found = filter_has p x xs there in (in_tail x y xs found.0, found.1))) (was_kept (p y) y x (filter p xs) has)

-- ---- what a filter makes

module _ {A B : Type 0} (h : A → Option B) where
  pub filter_map_none : (x : A) (xs : List A) → h x ≡ None → filter_map h (x ∷ xs) ≡ filter_map h xs
  filter_map_none x xs is = rw is

  pub filter_map_some : (x : A) (xs : List A) (y : B) → h x ≡ Some y → filter_map h (x ∷ xs) ≡ y ∷ filter_map h xs
  filter_map_some x xs y is = rw is

  filter_map_head : (x : A) (xs : List A) (y : B) (o : Option B) → h x ≡ o → Contains (filter_map h xs) y → Contains (filter_map h (x ∷ xs)) y
  filter_map_head x xs y None is has = in_same y _ _ (sym (filter_map_none x xs is)) has
  filter_map_head x xs y (Some z) is has = in_same y _ _ (sym (filter_map_some x xs z is)) (in_tail y z (filter_map h xs) has)

  pub in_filter_map : (x : A) (y : B) (xs : List A) → Contains xs x → h x ≡ Some y → Contains (filter_map h xs) y
  in_filter_map x y [] has is = in_none x has
  in_filter_map x y (z ∷ xs) has is =
      ⊎_elim (λ same. in_same y _ _ (sym (filter_map_some z xs y (ap h same ∙ is))) (in_head y (filter_map h xs)))
      (λ there. filter_map_head z xs y (h z) refl (in_filter_map x y xs there is)) (in_cases x z xs has)

  filter_map_has_at : (y : B) (z : A) (xs : List A) (o : Option B) → h z ≡ o → Contains (filter_map h (z ∷ xs)) y
      → (h z ≡ Some y) ⊎ Contains (filter_map h xs) y
  filter_map_has_at y z xs None is has = inr (in_same y _ _ (filter_map_none z xs is) has)
  filter_map_has_at y z xs (Some x) is has =
      ⊎_elim (λ same. inl (is ∙ ap Some same)) (λ there. inr there) (in_cases y x (filter_map h xs) (in_same y _ _ (filter_map_some z xs x is) has))

  pub filter_map_has : (y : B) (xs : List A) → Contains (filter_map h xs) y → (x : A) × Contains xs x × (h x ≡ Some y)
  filter_map_has y [] has = in_none y has
  filter_map_has y (z ∷ xs) has =
      ⊎_elim (λ is. (z, in_head z xs, is))
      (λ there. (let found = filter_map_has y xs there in (found.0, in_tail found.0 z xs found.1, found.2)))
      (filter_map_has_at y z xs (h z) refl has)

  filter_map-none_at : (z : A) (xs : List A) (o : Option B) → h z ≡ o → ((y : B) → ¬ (h z ≡ Some y)) → filter_map h xs ≡ [] → filter_map h (z ∷ xs) ≡ []
  filter_map-none_at z xs None is not rest = filter_map_none z xs is ∙ rest
  filter_map-none_at z xs (Some y) is not rest = absurd (not y is)

  -- nothing is made where nothing is made of any item
  pub filter_map-nothing : (xs : List A) → ((x : A) (y : B) → Contains xs x → ¬ (h x ≡ Some y)) → filter_map h xs ≡ []
  filter_map-nothing [] not = refl
  filter_map-nothing (z ∷ xs) not =
      filter_map-none_at z xs (h z) refl (λ y is. not z y (in_head z xs) is)
      (filter_map-nothing xs (λ x y has is. not x y (in_tail x z xs has) is))

module _ {A B : Type 0} (f : A → List B) where
  pub in_flat_map : (x : A) (y : B) (xs : List A) → Contains xs x → Contains (f x) y → Contains (flat_map f xs) y
  in_flat_map x y [] has there = in_none x has
  in_flat_map x y (z ∷ xs) has there =
      ⊎_elim (λ same. Contains-append_left (f z) (flat_map f xs) y (subst (λ w. Contains (f w) y) (sym same) there))
      (λ later. Contains-append_right (f z) (flat_map f xs) y (in_flat_map x y xs later there)) (in_cases x z xs has)

  pub flat_map_has : (y : B) (xs : List A) → Contains (flat_map f xs) y → (x : A) × Contains xs x × Contains (f x) y
  flat_map_has y [] has = in_none y has
  flat_map_has y (z ∷ xs) has =
      ⊎_elim (λ here. (z, in_head z xs, here))
      (λ later. (let found = flat_map_has y xs later in (found.0, in_tail found.0 z xs found.1, found.2)))
      (Contains-append_cases (f z) (flat_map f xs) y has)

-- ---- places

pub in_get : {A : Type 0} (xs : List A) (k : ℕ) (x : A) → slice_get xs k ≡ Some x → Contains xs x
in_get [] k x is = absurd (cc)
in_get (y ∷ xs) zero x is = (0, omega arith, same_Some y x is)
in_get (y ∷ xs) (suc k) x is = in_tail x y xs (in_get xs k x is)

pub get_in : {A : Type 0} (xs : List A) (x : A) → Contains xs x → (k : ℕ) × (slice_get xs k ≡ Some x)
get_in [] x has = in_none x has
get_in (y ∷ xs) x has =
    ⊎_elim (λ same. (0, ap Some same)) (λ there. (let found = get_in xs x there in (suc found.0, found.1))) (in_cases x y xs has)

pub get_left : {A : Type 0} (xs ys : List A) (k : ℕ) (x : A) → slice_get xs k ≡ Some x → slice_get (xs ++ ys) k ≡ Some x
get_left [] ys k x is = absurd (cc)
get_left (y ∷ xs) ys zero x is = is
get_left (y ∷ xs) ys (suc k) x is = get_left xs ys k x is

pub get_within : {A : Type 0} (xs : List A) (k : ℕ) (x : A) → slice_get xs k ≡ Some x → k < length xs
get_within [] k x is = absurd (cc)
get_within (y ∷ xs) zero x is = omega arith
get_within (y ∷ xs) (suc k) x is = (let below = get_within xs k x is in omega (arith, below))

pub get_next : {A : Type 0} (xs ys : List A) (x : A) → slice_get (xs ++ x ∷ ys) (length xs) ≡ Some x
get_next [] ys x = refl
get_next (y ∷ xs) ys x = get_next xs ys x

-- a place in a list and one more item
pub get_cases : {A : Type 0} (xs : List A) (x : A) (k : ℕ) (y : A) → slice_get (xs ++ x ∷ []) k ≡ Some y
    → (slice_get xs k ≡ Some y) ⊎ ((k ≡ length xs) × (x ≡ y))
get_cases [] x zero y is = inr (refl, same_Some x y is)
get_cases [] x (suc k) y is = absurd (cc)
get_cases (z ∷ xs) x zero y is = inl is
get_cases (z ∷ xs) x (suc k) y is = ⊎_elim (λ here. inl here) (λ last. inr (ap suc last.0, last.1)) (get_cases xs x k y is)

-- a place in two lists, one behind the other
pub get_parts : {A : Type 0} (xs ys : List A) (k : ℕ) (x : A) → slice_get (xs ++ ys) k ≡ Some x
    → (slice_get xs k ≡ Some x) ⊎ ((j : ℕ) × (k ≡ length xs + j) × (slice_get ys j ≡ Some x))
get_parts [] ys k x is = inr (k, omega arith, is)
get_parts (z ∷ xs) ys zero x is = inl is
get_parts (z ∷ xs) ys (suc k) x is =
    ⊎_elim (λ here. inl here) (λ later. inr (later.0, (let at = later.1 in omega (arith, at)), later.2)) (get_parts xs ys k x is)

pub get_map : {A B : Type 0} (f : A → B) (xs : List A) (k : ℕ) (x : A) → slice_get xs k ≡ Some x → slice_get (map f xs) k ≡ Some (f x)
get_map f [] k x is = absurd (cc)
get_map f (y ∷ xs) zero x is = ap Some (ap f (same_Some y x is))
get_map f (y ∷ xs) (suc k) x is = get_map f xs k x is

pub map_get : {A B : Type 0} (f : A → B) (xs : List A) (k : ℕ) (z : B) → slice_get (map f xs) k ≡ Some z → (x : A) × (slice_get xs k ≡ Some x) × (f x ≡ z)
map_get f [] k z is = absurd (cc)
map_get f (y ∷ xs) zero z is = (y, refl, same_Some (f y) z is)
map_get f (y ∷ xs) (suc k) z is = map_get f xs k z is

-- ---- an item between those before it and those after it

pub record Split {A : Type 0} (xs : List A) (x : A) : Type 0 where
  pub before : List A
  pub after : List A
  pub is : xs ≡ before ++ x ∷ after

pub split : {A : Type 0} (xs : List A) (x : A) → Contains xs x → Split xs x
split [] x has = in_none x has
split (y ∷ xs) x has =
    ⊎_elim (λ same. record { before = []; after = xs; is = ap (λ z. z ∷ xs) same })
    (λ there. (let rest = split xs x there in record { before = y ∷ rest.before; after = rest.after; is = ap (λ zs. y ∷ zs) rest.is }))
    (in_cases x y xs has)

-- two ways to take a list apart at an item are one, unless one of the items comes earlier in the other
pub same_cut : {A : Type 0} (xs ys zs ws : List A) (x z : A) → xs ++ x ∷ ys ≡ zs ++ z ∷ ws
    → ((xs ≡ zs) × (x ≡ z)) ⊎ Contains xs z ⊎ Contains zs x
same_cut [] ys [] ws x z same = inl (refl, cc)
same_cut [] ys (w ∷ zs) ws x z same = inr (inr (let first : w ≡ x = cc in subst (Contains (w ∷ zs)) first (in_head w zs)))
same_cut (y ∷ xs) ys [] ws x z same = inr (inl (let first : y ≡ z = cc in subst (Contains (y ∷ xs)) first (in_head y xs)))
same_cut (y ∷ xs) ys (w ∷ zs) ws x z same =
    let first : y ≡ w = cc in
    ⊎_elim (λ both. inl ((λ i. first i ∷ both.0 i), both.1))
    (λ found. inr (⊎_elim (λ here. inl (in_tail z y xs here)) (λ there. inr (in_tail x w zs there)) found))
    (same_cut xs ys zs ws x z (let rest : xs ++ x ∷ ys ≡ zs ++ z ∷ ws = cc in rest))

-- an item of two lists, one behind the other, with what stands before it and after it
pub parts_cut : {A : Type 0} (xs ys above below : List A) (x : A) → xs ++ ys ≡ above ++ x ∷ below
    → ((rest : List A) × (xs ≡ above ++ x ∷ rest)) ⊎ ((more : List A) × (above ≡ xs ++ more) × (ys ≡ more ++ x ∷ below))
parts_cut [] ys above below x same = inr (above, refl, same)
parts_cut (y ∷ xs) ys [] below x same = inl (xs, ap (λ z. z ∷ xs) (let first : y ≡ x = cc in first))
parts_cut (y ∷ xs) ys (z ∷ above) below x same =
    let first : y ≡ z = cc in
    ⊎_elim (λ early. inl (early.0, λ i. first i ∷ early.1 i)) (λ late. inr (late.0, λ i. sym first i ∷ late.1 i, late.2))
    (parts_cut xs ys above below x (let rest : xs ++ ys ≡ above ++ x ∷ below = cc in rest))

pub one_cut : {A : Type 0} (y x : A) (more below : List A) → y ∷ [] ≡ more ++ x ∷ below → (more ≡ []) × (y ≡ x)
one_cut y x [] below same = (refl, let first : y ≡ x = cc in first)
one_cut y x (z ∷ []) below same = absurd (cc)
one_cut y x (z ∷ w ∷ more) below same = absurd (cc)

-- ---- the last item

last_of : {A : Type 0} (o : Option A) (xs : List A) (x : A) → last_or o xs ≡ Some x → (o ≡ Some x) ⊎ Contains xs x
last_of o [] x is = inl is
last_of o (y ∷ xs) x is =
    ⊎_elim (λ first. inr (subst (Contains (y ∷ xs)) (same_Some y x first) (in_head y xs))) (λ later. inr (in_tail x y xs later)) (last_of (Some y) xs x is)

pub last_in : {A : Type 0} (xs : List A) (x : A) → last_or None xs ≡ Some x → Contains xs x
last_in xs x is = ⊎_elim (λ none. absurd (cc)) (λ has. has) (last_of None xs x is)

last_some : {A : Type 0} (o : Option A) (x : A) (xs : List A) → (y : A) × (last_or o (x ∷ xs) ≡ Some y)
last_some o x [] = (x, refl)
last_some o x (y ∷ xs) = last_some (Some x) y xs

pub last_none : {A : Type 0} (xs : List A) → last_or None xs ≡ None → xs ≡ []
last_none [] is = refl
last_none (x ∷ xs) is = (let some = (last_some None x xs).1 in absurd (cc))

last_right : {A : Type 0} (o : Option A) (xs : List A) (y : A) (ys : List A) → last_or o (xs ++ y ∷ ys) ≡ last_or None (y ∷ ys)
last_right o [] y ys = refl
last_right o (x ∷ xs) y ys = last_right (Some x) xs y ys

-- the last item of two lists is in the second one, where that has any
pub last_behind : {A : Type 0} (xs ys : List A) (y : A) → Contains ys y → (x : A) × Contains ys x × (last_or None (xs ++ ys) ≡ Some x)
last_behind xs [] y has = in_none y has
last_behind xs (z ∷ ys) y has =
    let found = last_some None z ys in
    (found.0, last_in (z ∷ ys) found.0 found.1, last_right None xs z ys ∙ found.1)

-- ---- distinct lists

pub distinct_append : {A : Type 0} (xs ys : List A) → AreDistinct xs → AreDistinct ys → ((x : A) → Contains xs x → ¬ (Contains ys x)) → AreDistinct (xs ++ ys)
distinct_append [] ys one two apart = two
distinct_append (x ∷ xs) ys one two apart = (
  λ has. ⊎_elim one.0 (apart x (in_head x xs)) (Contains-append_cases xs ys x has),
  distinct_append xs ys one.1 two (λ y has. apart y (in_tail y x xs has)),
)

pub distinct_push : {A : Type 0} (xs : List A) (x : A) → AreDistinct xs → ¬ (Contains xs x) → AreDistinct (xs ++ x ∷ [])
distinct_push xs x one new =
    distinct_append xs (x ∷ []) one (λ has. in_none x has, tt)
    (λ y has there. ⊎_elim (λ same. new (subst (Contains xs) (sym same) has)) (λ none. in_none y none) (in_cases y x [] there))

pub distinct_left : {A : Type 0} (xs ys : List A) → AreDistinct (xs ++ ys) → AreDistinct xs
distinct_left [] ys all = tt
distinct_left (x ∷ xs) ys all = (λ has. all.0 (Contains-append_left xs ys x has), distinct_left xs ys all.1)

pub distinct_right : {A : Type 0} (xs ys : List A) → AreDistinct (xs ++ ys) → AreDistinct ys
distinct_right [] ys all = all
distinct_right (x ∷ xs) ys all = distinct_right xs ys all.1

pub distinct_apart : {A : Type 0} (xs ys : List A) (x : A) → AreDistinct (xs ++ ys) → Contains xs x → ¬ (Contains ys x)
distinct_apart [] ys x all here there = in_none x here
distinct_apart (y ∷ xs) ys x all here there =
    ⊎_elim (λ same. all.0 (Contains-append_right xs ys y (subst (Contains ys) (sym same) there)))
    (λ later. distinct_apart xs ys x all.1 later there) (in_cases x y xs here)

pub distinct_others : {A : Type 0} (before after : List A) (x : A) → AreDistinct (before ++ x ∷ after) → AreDistinct (before ++ after)
distinct_others [] after x all = all.1
distinct_others (y ∷ before) after x all = (
  λ has. all.0 (⊎_elim (λ here. Contains-append_left before (x ∷ after) y here)
      (λ there. Contains-append_right before (x ∷ after) y (in_tail y x after there)) (Contains-append_cases before after y has)),
  distinct_others before after x all.1,
)

pub distinct_map : {A B : Type 0} (f : A → B) (xs : List A) → ((x y : A) → f x ≡ f y → x ≡ y) → AreDistinct xs → AreDistinct (map f xs)
distinct_map f [] into all = tt
distinct_map f (x ∷ xs) into all = (
  λ has. (let found = map_has f (f x) xs has in all.0 (subst (Contains xs) (into found.0 x found.2) found.1)),
  distinct_map f xs into all.1,
)

filter_apart : {A : Type 0} (b : Bool) (x : A) (xs : List A) → AreDistinct xs → ¬ (Contains xs x) → AreDistinct (cond b (x ∷ xs) xs)
filter_apart true x xs all not = (not, all)
filter_apart false x xs all not = all

filter_keys : {A B : Type 0} (key : A → B) (b : Bool) (x : A) (kept_items items : List A) → ¬ (Contains (map key items) (key x))
    → ((y : A) → Contains kept_items y → Contains items y) → AreDistinct (map key kept_items) → AreDistinct (map key (cond b (x ∷ kept_items) kept_items))
filter_keys key true x kept_items items not among rest = (
  λ has. (let found = map_has key (key x) kept_items has in
      not (subst (Contains (map key items)) found.2 (in_map key found.0 items (among found.0 found.1)))),
  rest,
)
filter_keys key false x kept_items items not among rest = rest

-- items with different keys, of which some are kept
pub distinct_filter : {A B : Type 0} (key : A → B) (p : A → Bool) (xs : List A) → AreDistinct (map key xs) → AreDistinct (map key (filter p xs))
distinct_filter key p [] all = tt
distinct_filter key p (x ∷ xs) all =
    filter_keys key (p x) x (filter p xs) xs all.0 (λ y has. (filter_has p y xs has).0) (distinct_filter key p xs all.1)

-- each key is that of one item
pub same_key : {A B : Type 0} (key : A → B) (xs : List A) (x y : A) → AreDistinct (map key xs) → Contains xs x → Contains xs y → key x ≡ key y → x ≡ y
same_key key [] x y all first second same = in_none x first
same_key key (z ∷ xs) x y all first second same =
    ⊎_elim (λ here. ⊎_elim (λ there. sym here ∙ there)
    (λ there. absurd (all.0 (subst (Contains (map key xs)) (sym same ∙ ap key (sym here)) (in_map key y xs there)))) (in_cases y z xs second))
    (λ here. ⊎_elim (λ there. absurd (all.0 (subst (Contains (map key xs)) (same ∙ ap key (sym there)) (in_map key x xs here))))
    (λ there. same_key key xs x y all.1 here there same) (in_cases y z xs second))
    (in_cases x z xs first)

-- each item stands at one place
pub one_place : {A : Type 0} (xs : List A) (i j : ℕ) (x : A) → AreDistinct xs → slice_get xs i ≡ Some x → slice_get xs j ≡ Some x → i ≡ j
one_place [] i j x all first second = absurd (cc)
one_place (y ∷ xs) zero zero x all first second = refl
one_place (y ∷ xs) zero (suc j) x all first second = absurd (all.0 (subst (Contains xs) (sym (same_Some y x first)) (in_get xs j x second)))
one_place (y ∷ xs) (suc i) zero x all first second = absurd (all.0 (subst (Contains xs) (sym (same_Some y x second)) (in_get xs i x first)))
one_place (y ∷ xs) (suc i) (suc j) x all first second = ap suc (one_place xs i j x all.1 first second)

-- lists that share nothing, joined
pub distinct_flat_map : {A B K : Type 0} (key : A → K) (f : A → List B) (xs : List A) → AreDistinct (map key xs) → ((x : A) → AreDistinct (f x))
    → ((x y : A) (z : B) → Contains (f x) z → Contains (f y) z → key x ≡ key y) → AreDistinct (flat_map f xs)
distinct_flat_map key f [] all each same = tt
distinct_flat_map key f (x ∷ xs) all each same =
    distinct_append (f x) (flat_map f xs) (each x) (distinct_flat_map key f xs all.1 each same)
    (λ z here there. (let found = flat_map_has f z xs there in
    all.0 (subst (Contains (map key xs)) (same found.0 x z found.2 here) (in_map key found.0 xs found.1))))

-- distinct items that are all among some others are no more than these
pub no_more_than : {A : Type 0} (xs known : List A) → AreDistinct xs → ((x : A) → Contains xs x → Contains known x) → length xs ≤ length known
no_more_than [] known all among = omega arith
no_more_than (x ∷ xs) known all among =
    let parts = split known x (among x (in_head x xs)) in
    let rest = no_more_than xs (parts.before ++ parts.after) all.1
    (λ y has. in_others parts.before parts.after x y (in_same y known (parts.before ++ x ∷ parts.after) parts.is (among y (in_tail y x xs has)))
    (λ same. all.0 (subst (Contains xs) (sym same) has))) in
    let long = ap length parts.is ∙ length-append parts.before (x ∷ parts.after) in
    let short = length-append parts.before parts.after in
    omega (arith, rest, long, short)

pub filter_map-fewer : {A B : Type 0} (h : A → Option B) (xs : List A) → length (filter_map h xs) ≤ length xs
filter_map-fewer h [] = omega arith
filter_map-fewer {B = B} h (x ∷ xs) = fewer (h x) refl (filter_map-fewer h xs)
  where
    fewer : (o : Option B) → h x ≡ o → length (filter_map h xs) ≤ length xs → length (filter_map h (x ∷ xs)) ≤ length (x ∷ xs)
    fewer None is rest = (let same = ap length (filter_map_none h x xs is) in omega (arith, same, rest))
    fewer (Some y) is rest = (let same = ap length (filter_map_some h x xs y is) in omega (arith, same, rest))

pub nothing_in : {A : Type 0} (xs : List A) → ((x : A) → ¬ (Contains xs x)) → xs ≡ []
nothing_in [] none = refl
nothing_in (x ∷ xs) none = absurd (none x (in_head x xs))

pub some_first : {A : Type 0} (xs : List A) → 0 < length xs → (x : A) × (slice_get xs 0 ≡ Some x)
some_first [] some = absurd (omega (arith, some))
some_first (x ∷ xs) some = (x, refl)

pub get_behind : {A : Type 0} (xs ys : List A) (k : ℕ) (x : A) → slice_get ys k ≡ Some x → slice_get (xs ++ ys) (length xs + k) ≡ Some x
get_behind xs [] k x is = absurd (cc)
get_behind [] (y ∷ ys) k x is = ap (slice_get (y ∷ ys)) (let same : 0 + k ≡ k = omega arith in same) ∙ is
get_behind (z ∷ xs) (y ∷ ys) k x is =
    ap (slice_get (z ∷ xs ++ y ∷ ys)) (let same : suc (length xs) + k ≡ suc (length xs + k) = omega arith in same) ∙ get_behind xs (y ∷ ys) k x is

pub filter-fewer : {A : Type 0} (p : A → Bool) (xs : List A) → length (filter p xs) ≤ length xs
filter-fewer p [] = omega arith
filter-fewer p (x ∷ xs) = fewer (p x) (filter-fewer p xs)
  where
    fewer : (b : Bool) → length (filter p xs) ≤ length xs → length (cond b (x ∷ filter p xs) (filter p xs)) ≤ length (x ∷ xs)
    fewer true rest = omega (arith, rest)
    fewer false rest = omega (arith, rest)

-- what is made of the items up to a place
pub record MadeAt {A B : Type 0} (h : A → Option B) (xs : List A) (k : ℕ) (y : B) : Type 0 where
  pub before : List A
  pub item : A
  pub after : List A
  pub is : xs ≡ before ++ item ∷ after
  pub made : h item ≡ Some y
  pub long : length (filter_map h before) ≡ k

pub made_at : {A B : Type 0} (h : A → Option B) (xs : List A) (k : ℕ) (y : B) → slice_get (filter_map h xs) k ≡ Some y → MadeAt h xs k y
made_at h [] k y is = absurd (cc)
made_at {A = A} {B = B} h (x ∷ xs) k y is = by_made (h x) refl k is (made_at h xs)
  where
    further : (j : ℕ) → length (filter_map h (x ∷ [])) ≡ j → (i : ℕ) → MadeAt h xs i y → MadeAt h (x ∷ xs) (j + i) y
    further j one i rest = record {
      before = x ∷ rest.before;
      item = rest.item;
      after = rest.after;
      is = ap (λ zs. x ∷ zs) rest.is;
      made = rest.made;
      long = ap length (filter_map-append h (x ∷ []) rest.before) ∙ length-append (filter_map h (x ∷ [])) (filter_map h rest.before)
          ∙ ap (λ n. n + length (filter_map h rest.before)) one ∙ ap (λ n. j + n) rest.long;
    }

    by_made : (o : Option B) → h x ≡ o → (k : ℕ) → slice_get (filter_map h (x ∷ xs)) k ≡ Some y
        → ((j : ℕ) (z : B) → slice_get (filter_map h xs) j ≡ Some z → MadeAt h xs j z) → MadeAt h (x ∷ xs) k y
    by_made None none k there rest =
        let found = rest k y (ap (λ ys. slice_get ys k) (sym (filter_map_none h x xs none)) ∙ there) in
        subst (λ n. MadeAt h (x ∷ xs) n y) (let same : 0 + k ≡ k = omega arith in same)
        (further 0 (ap length (filter_map_none h x [] none)) k found)
    by_made (Some z) some zero there rest = record {
      before = [];
      item = x;
      after = xs;
      is = refl;
      made = some ∙ ap (λ ys. slice_get ys 0) (sym (filter_map_some h x xs z some)) ∙ there;
      long = refl;
    }
    by_made (Some z) some (suc k) there rest =
        let found = rest k y (ap (λ ys. slice_get ys (suc k)) (sym (filter_map_some h x xs z some)) ∙ there) in
        subst (λ n. MadeAt h (x ∷ xs) n y) (let same : 1 + k ≡ suc k = omega arith in same)
        (further 1 (ap length (filter_map_some h x [] z some)) k found)
