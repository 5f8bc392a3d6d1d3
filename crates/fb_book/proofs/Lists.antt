-- Items of lists, and how lists are cut at an item.
use Rattle.std.proofs.Common.{◌≡◌, ◌⊎◌, inl, inr, ⊎_elim, ℕ, zero, suc, ◌<◌, Bool, true, false, cond, Option, Some, None, List, [], ◌∷◌, ◌++◌, map, filter, filter_map, flat_map, length, slice_get, Contains, refl, sym, ap, ◌∙◌, subst, arith, length-append}
use Rattle.std.specs.Prelude.{option_map, option_and_then, ◌+◌}
use Rattle.std.specs.List.{position_from}
use Rattle.fb_campaign.specs.Runs.{AreDistinct}
use Rattle.std.proofs.lemmas.List.Elements.{Contains-append_left, Contains-append_right, Contains-append_cases, filter_map-append}
use Rattle.std.proofs.lemmas.Option.{same_Some, slice_get-map}

-- ---- who is in a list

pub in_none : {A B : Type 0} (x : A) → Contains [] x → B
in_none x (k, within, is) = absurd (omega (arith, within))

pub in_head : {A : Type 0} (x : A) (xs : List A) → Contains (x ∷ xs) x
in_head x xs = (0, omega arith, refl)

pub in_tail : {A : Type 0} (x y : A) (xs : List A) → Contains xs x → Contains (y ∷ xs) x
in_tail x y xs (k, within, is) = (suc k, omega (arith, within), is)

pub in_cases : {A : Type 0} (x y : A) (xs : List A) → Contains (y ∷ xs) x → (y ≡ x) ⊎ Contains xs x
in_cases x y xs (zero, within, is) = inl is
in_cases x y xs (suc k, within, is) = inr (k, omega (arith, within), is)

pub in_map : {A B : Type 0} (f : A → B) (x : A) (xs : List A) → Contains xs x → Contains (map f xs) (f x)
in_map f x [] has = in_none x has
in_map f x (y ∷ xs) has =
    ⊎_elim (λ same. subst (λ z. Contains (f y ∷ map f xs) (f z)) same (in_head (f y) (map f xs)))
    (λ there. in_tail (f x) (f y) (map f xs) (in_map f x xs there)) (in_cases x y xs has)

pub map_has : {A B : Type 0} (f : A → B) (z : B) (xs : List A) → Contains (map f xs) z → (x : A) × Contains xs x × (f x ≡ z)
map_has f z [] has = in_none z has
map_has f z (y ∷ xs) has =
    ⊎_elim (λ same. (y, in_head y xs, same))
    (λ there. (let found = map_has f z xs there in (found.0, in_tail found.0 y xs found.1, found.2))) (in_cases z (f y) (map f xs) has)

pub flat_map_has : {A B : Type 0} (f : A → List B) (y : B) (xs : List A) → Contains (flat_map f xs) y → (x : A) × Contains xs x × Contains (f x) y
flat_map_has f y [] has = in_none y has
flat_map_has f y (z ∷ xs) has =
    ⊎_elim (λ here. (z, in_head z xs, here))
    (λ later. (let found = flat_map_has f y xs later in (found.0, in_tail found.0 z xs found.1, found.2)))
    (Contains-append_cases (f z) (flat_map f xs) y has)

pub in_flat_map : {A B : Type 0} (f : A → List B) (x : A) (y : B) (xs : List A) → Contains xs x → Contains (f x) y → Contains (flat_map f xs) y
in_flat_map f x y [] has there = in_none x has
in_flat_map f x y (z ∷ xs) has there =
    ⊎_elim (λ same. Contains-append_left (f z) (flat_map f xs) y (subst (λ w. Contains (f w) y) (sym same) there))
    (λ later. Contains-append_right (f z) (flat_map f xs) y (in_flat_map f x y xs later there)) (in_cases x z xs has)

-- ---- by places

pub in_get : {A : Type 0} (xs : List A) (k : ℕ) (x : A) → slice_get xs k ≡ Some x → Contains xs x
in_get [] k x is = absurd (cc)
in_get (y ∷ xs) zero x is = (0, omega arith, same_Some y x is)
in_get (y ∷ xs) (suc k) x is = in_tail x y xs (in_get xs k x is)

pub get_in : {A : Type 0} (xs : List A) (x : A) → Contains xs x → (k : ℕ) × (slice_get xs k ≡ Some x)
get_in [] x has = in_none x has
get_in (y ∷ xs) x has =
    ⊎_elim (λ same. (0, ap Some same)) (λ there. (let found = get_in xs x there in (suc found.0, found.1))) (in_cases x y xs has)

pub get_left : {A : Type 0} (xs ys : List A) (k : ℕ) (x : A) → slice_get xs k ≡ Some x → slice_get (xs ++ ys) k ≡ Some x
get_left [] ys k x is = absurd (cc)
get_left (y ∷ xs) ys zero x is = is
get_left (y ∷ xs) ys (suc k) x is = get_left xs ys k x is

pub get_within : {A : Type 0} (xs : List A) (k : ℕ) (x : A) → slice_get xs k ≡ Some x → k < length xs
get_within [] k x is = absurd (cc)
get_within (y ∷ xs) zero x is = omega arith
get_within (y ∷ xs) (suc k) x is = (let below = get_within xs k x is in omega (arith, below))

-- what stands there among the first items
pub get_front : {A : Type 0} (xs ys : List A) (k : ℕ) (x : A) → k < length xs → slice_get (xs ++ ys) k ≡ Some x → slice_get xs k ≡ Some x
get_front [] ys k x within is = absurd (omega (arith, within))
get_front (y ∷ xs) ys zero x within is = is
get_front (y ∷ xs) ys (suc k) x within is = get_front xs ys k x (omega (arith, within)) is

pub get_some : {A : Type 0} (xs : List A) (k : ℕ) → k < length xs → (x : A) × (slice_get xs k ≡ Some x)
get_some [] k within = absurd (omega (arith, within))
get_some (x ∷ xs) zero within = (x, refl)
get_some (x ∷ xs) (suc k) within = get_some xs k (omega (arith, within))

pub get_next : {A : Type 0} (xs ys : List A) (x : A) → slice_get (xs ++ x ∷ ys) (length xs) ≡ Some x
get_next [] ys x = refl
get_next (y ∷ xs) ys x = get_next xs ys x

pub get_map : {A B : Type 0} (f : A → B) (xs : List A) (k : ℕ) (x : A) → slice_get xs k ≡ Some x → slice_get (map f xs) k ≡ Some (f x)
get_map f xs k x is = slice_get-map f xs k ∙ ap (option_map f) is

pub map_get : {A B : Type 0} (f : A → B) (xs : List A) (k : ℕ) (z : B) → slice_get (map f xs) k ≡ Some z → (x : A) × (slice_get xs k ≡ Some x) × (f x ≡ z)
map_get f [] k z is = absurd (cc)
map_get f (y ∷ xs) zero z is = (y, refl, same_Some (f y) z is)
map_get f (y ∷ xs) (suc k) z is = map_get f xs k z is

-- what stands there where there is one item more
pub get_cases : {A : Type 0} (xs : List A) (x : A) (k : ℕ) (y : A) → slice_get (xs ++ x ∷ []) k ≡ Some y
    → (slice_get xs k ≡ Some y) ⊎ ((k ≡ length xs) × (x ≡ y))
get_cases [] x zero y is = inr (refl, same_Some x y is)
get_cases [] x (suc k) y is = absurd (cc)
get_cases (z ∷ xs) x zero y is = inl is
get_cases (z ∷ xs) x (suc k) y is = ⊎_elim (λ here. inl here) (λ last. inr (ap suc last.0, last.1)) (get_cases xs x k y is)

-- ---- how lists are cut

-- cut at the last item, or at one before it
pub last_or_front : {A : Type 0} (body above below : List A) (last x : A) → body ++ last ∷ [] ≡ above ++ x ∷ below
    → ((body ≡ above) × (last ≡ x) × (below ≡ [])) ⊎ ((rest : List A) × (body ≡ above ++ x ∷ rest))
last_or_front [] [] below last x is = inl (refl, (cc), (cc))
last_or_front [] (y ∷ []) below last x is = absurd (cc)
last_or_front [] (y ∷ z ∷ above) below last x is = absurd (cc)
last_or_front (y ∷ body) [] below last x is = inr (body, ap (λ z. z ∷ body) (let first : y ≡ x = cc in first))
last_or_front (y ∷ body) (z ∷ above) below last x is =
    let first : y ≡ z = cc in
    ⊎_elim (λ at_end. inl ((λ i. first i ∷ at_end.0 i), at_end.1, at_end.2))
    (λ early. inr (early.0, λ i. first i ∷ early.1 i))
    (last_or_front body above below last x (let rest : body ++ last ∷ [] ≡ above ++ x ∷ below = cc in rest))

-- a list of images, cut at one
pub record MapCut {A B : Type 0} (f : A → B) (xs : List A) (before : List B) (y : B) : Type 0 where
  pub above : List A
  pub item : A
  pub below : List A
  pub is : xs ≡ above ++ item ∷ below
  pub image : f item ≡ y
  pub images : map f above ≡ before

pub map_cut : {A B : Type 0} (f : A → B) (xs : List A) (before after : List B) (y : B) → map f xs ≡ before ++ y ∷ after → MapCut f xs before y
map_cut f [] [] after y is = absurd (cc)
map_cut f [] (z ∷ before) after y is = absurd (cc)
map_cut f (x ∷ xs) [] after y is = record { above = []; item = x; below = xs; is = refl; image = (let first : f x ≡ y = cc in first); images = refl }
map_cut f (x ∷ xs) (z ∷ before) after y is =
    let first : f x ≡ z = cc in
    let rest = map_cut f xs before after y (let others : map f xs ≡ before ++ y ∷ after = cc in others) in
    record {
      above = x ∷ rest.above;
      item = rest.item;
      below = rest.below;
      is = ap (λ zs. x ∷ zs) rest.is;
      image = rest.image;
      images = λ i. first i ∷ rest.images i;
    }

pub none_long : {A : Type 0} (xs : List A) → length xs ≡ 0 → xs ≡ []
none_long [] long = refl
none_long (x ∷ xs) long = absurd (omega (arith, long))

-- ---- what is made of some items

module _ {A B : Type 0} (h : A → Option B) where
  pub made_none : (x : A) (xs : List A) → h x ≡ None → filter_map h (x ∷ xs) ≡ filter_map h xs
  made_none x xs is = rw is

  pub made_some : (x : A) (xs : List A) (y : B) → h x ≡ Some y → filter_map h (x ∷ xs) ≡ y ∷ filter_map h xs
  made_some x xs y is = rw is

  -- of the items up to an item that is made
  pub record MadeAt (xs : List A) (before : List B) (y : B) : Type 0 where
    pub above : List A
    pub item : A
    pub below : List A
    pub is : xs ≡ above ++ item ∷ below
    pub makes : h item ≡ Some y
    pub made : filter_map h above ≡ before

  pub made_at : (xs : List A) (before after : List B) (y : B) → filter_map h xs ≡ before ++ y ∷ after → MadeAt xs before y
  made_at [] [] after y is = absurd (cc)
  made_at [] (z ∷ before) after y is = absurd (cc)
  made_at (x ∷ xs) before after y is = by_made (h x) refl before is (λ front made. made_at xs front after y made)
    where
      further : (before : List B) (more : List B) → filter_map h (x ∷ []) ++ before ≡ more → MadeAt xs before y → MadeAt (x ∷ xs) more y
      further before more joined rest = record {
        above = x ∷ rest.above;
        item = rest.item;
        below = rest.below;
        is = ap (λ zs. x ∷ zs) rest.is;
        makes = rest.makes;
        made = filter_map-append h (x ∷ []) rest.above ∙ ap (λ ys. filter_map h (x ∷ []) ++ ys) rest.made ∙ joined;
      }

      by_made : (o : Option B) → h x ≡ o → (before : List B) → filter_map h (x ∷ xs) ≡ before ++ y ∷ after
          → ((front : List B) → filter_map h xs ≡ front ++ y ∷ after → MadeAt xs front y) → MadeAt (x ∷ xs) before y
      by_made None none before is rest_at =
          further before before (ap (λ ys. ys ++ before) (made_none x [] none)) (rest_at before (sym (made_none x xs none) ∙ is))
      by_made (Some z) some [] is rest_at = record {
        above = [];
        item = x;
        below = xs;
        is = refl;
        makes = some ∙ ap Some (let same : z ∷ filter_map h xs ≡ y ∷ after = sym (made_some x xs z some) ∙ is in (let first : z ≡ y = cc in first));
        made = refl;
      }
      by_made (Some z) some (w ∷ before) is rest_at =
          let same : z ∷ filter_map h xs ≡ w ∷ before ++ y ∷ after = sym (made_some x xs z some) ∙ is in
          let first : z ≡ w = cc in
          let rest : filter_map h xs ≡ before ++ y ∷ after = cc in
          further before (w ∷ before) (ap (λ ys. ys ++ before) (made_some x [] z some) ∙ ap (λ v. v ∷ before) first) (rest_at before rest)

  pub made_number : (xs : List A) (k : ℕ) (y : B) → slice_get (filter_map h xs) k ≡ Some y → (before : List B) × (length before ≡ k) × MadeAt xs before y
  made_number xs k y is =
      let cut = at_place (filter_map h xs) k is in
      (cut.0, cut.1, made_at xs cut.0 cut.2 y cut.3)
    where
      at_place : (ys : List B) (k : ℕ) → slice_get ys k ≡ Some y → (before : List B) × (length before ≡ k) × (after : List B) × (ys ≡ before ++ y ∷ after)
      at_place [] k is = absurd (cc)
      at_place (z ∷ ys) zero is = ([], refl, ys, ap (λ w. w ∷ ys) (same_Some z y is))
      at_place (z ∷ ys) (suc k) is =
          let rest = at_place ys k is in
          (z ∷ rest.0, ap suc rest.1, rest.2, ap (λ zs. z ∷ zs) rest.3)

-- ---- items that differ

-- each item stands at one place
pub one_place : {A : Type 0} (xs : List A) (i j : ℕ) (x : A) → AreDistinct xs → slice_get xs i ≡ Some x → slice_get xs j ≡ Some x → i ≡ j
one_place [] i j x all first second = absurd (cc)
one_place (y ∷ xs) zero zero x all first second = refl
one_place (y ∷ xs) zero (suc j) x all first second = absurd (all.0 (subst (Contains xs) (sym (same_Some y x first)) (in_get xs j x second)))
one_place (y ∷ xs) (suc i) zero x all first second = absurd (all.0 (subst (Contains xs) (sym (same_Some y x second)) (in_get xs i x first)))
one_place (y ∷ xs) (suc i) (suc j) x all first second = ap suc (one_place xs i j x all.1 first second)

was_kept : {A : Type 0} (b : Bool) (x y : A) (xs : List A) → Contains (cond b (x ∷ xs) xs) y → ((x ≡ y) × (b ≡ true)) ⊎ Contains xs y
was_kept true x y xs has = ⊎_elim (λ same. inl (same, refl)) (λ there. inr there) (in_cases y x xs has)
was_kept false x y xs has = inr has

pub filter_has : {A : Type 0} (p : A → Bool) (x : A) (xs : List A) → Contains (filter p xs) x → Contains xs x × (p x ≡ true)
filter_has p x [] has = in_none x has
filter_has p x (y ∷ xs) has =
    ⊎_elim (λ both. (subst (Contains (y ∷ xs)) both.0 (in_head y xs), sym (ap p both.0) ∙ both.1))
    (λ there. (let found = filter_has p x xs there in (in_tail x y xs found.0, found.1))) (was_kept (p y) y x (filter p xs) has)

filter_keys : {A B : Type 0} (key : A → B) (b : Bool) (x : A) (kept_items items : List A) → ¬ (Contains (map key items) (key x))
    → ((y : A) → Contains kept_items y → Contains items y) → AreDistinct (map key kept_items) → AreDistinct (map key (cond b (x ∷ kept_items) kept_items))
filter_keys key true x kept_items items not among rest = (
  λ has. (let found = map_has key (key x) kept_items has in
      not (subst (Contains (map key items)) found.2 (in_map key found.0 items (among found.0 found.1)))),
  rest,
)
filter_keys key false x kept_items items not among rest = rest

-- items with different keys, of which some are kept
pub distinct_filter : {A B : Type 0} (key : A → B) (p : A → Bool) (xs : List A) → AreDistinct (map key xs) → AreDistinct (map key (filter p xs))
distinct_filter key p [] all = tt
distinct_filter key p (x ∷ xs) all =
    filter_keys key (p x) x (filter p xs) xs all.0 (λ y has. (filter_has p y xs has).0) (distinct_filter key p xs all.1)

-- ---- what is found

pub then_some : {A B : Type 0} (f : A → Option B) (o : Option A) (y : B) → option_and_then f o ≡ Some y → (x : A) × (o ≡ Some x) × (f x ≡ Some y)
then_some f None y is = absurd (cc)
then_some f (Some x) y is = (x, refl, is)

pub map_some : {A B : Type 0} (f : A → B) (o : Option A) (y : B) → option_map f o ≡ Some y → (x : A) × (o ≡ Some x) × (f x ≡ y)
map_some f None y is = absurd (cc)
map_some f (Some x) y is = (x, refl, same_Some (f x) y is)

-- an item at the place that is found passes the test
pub record FoundAt {A : Type 0} (t : A → Bool) (i : ℕ) (xs : List A) (k : ℕ) : Type 0 where
  pub place : ℕ
  pub place_is : k ≡ i + place
  pub item : A
  pub there : slice_get xs place ≡ Some item
  pub passes : t item ≡ true

found_next : {A : Type 0} (t : A → Bool) (i k : ℕ) (x : A) (xs : List A) (b : Bool) → t x ≡ b → cond b (Some i) (position_from t (i + 1) xs) ≡ Some k
    → (position_from t (i + 1) xs ≡ Some k → FoundAt t (i + 1) xs k) → FoundAt t i (x ∷ xs) k
found_next t i k x xs true passes is later =
    let first : i ≡ k = same_Some i k is in
    record { place = 0; place_is = omega (arith, first); item = x; there = refl; passes = passes }
found_next t i k x xs false passes is later =
    let rest = later is in
    let place_is = rest.place_is in
    record { place = suc rest.place; place_is = omega (arith, place_is); item = rest.item; there = rest.there; passes = rest.passes }

found_at : {A : Type 0} (t : A → Bool) (i k : ℕ) (xs : List A) → position_from t i xs ≡ Some k → FoundAt t i xs k
found_at t i k [] is = absurd (cc)
found_at t i k (x ∷ xs) is = found_next t i k x xs (t x) refl is (found_at t (i + 1) k xs)

pub found_item : {A : Type 0} (t : A → Bool) (k : ℕ) (xs : List A) → position_from t 0 xs ≡ Some k → (x : A) × (slice_get xs k ≡ Some x) × (t x ≡ true)
found_item t k xs is =
    let at = found_at t 0 k xs is in
    let place_is : k ≡ at.place = (let same = at.place_is in omega (arith, same)) in
    (at.item, ap (slice_get xs) place_is ∙ at.there, at.passes)

finds_next : {A : Type 0} (t : A → Bool) (i : ℕ) (xs : List A) (b : Bool) → ((k : ℕ) × (position_from t (i + 1) xs ≡ Some k))
    → (k : ℕ) × (cond b (Some i) (position_from t (i + 1) xs) ≡ Some k)
finds_next t i xs true later = (i, refl)
finds_next t i xs false later = later

-- where one passes, one is found
pub finds : {A : Type 0} (t : A → Bool) (i j : ℕ) (x : A) (xs : List A) → slice_get xs j ≡ Some x → t x ≡ true → (k : ℕ) × (position_from t i xs ≡ Some k)
finds t i j x [] there passes = absurd (cc)
finds t i zero x (y ∷ xs) there passes = (i, ap (λ b. cond b (Some i) (position_from t (i + 1) xs)) (ap t (same_Some y x there) ∙ passes))
finds t i (suc j) x (y ∷ xs) there passes = finds_next t i xs (t y) (finds t (i + 1) j x xs there passes)

-- lists that are one with an item more at the end
pub same_end : {A : Type 0} (xs ys : List A) (x y : A) → xs ++ x ∷ [] ≡ ys ++ y ∷ [] → (xs ≡ ys) × (x ≡ y)
same_end xs ys x y is =
    ⊎_elim (λ last. (last.0, last.1))
    (λ early. (
    let long = ap length early.1 ∙ length-append ys (y ∷ early.0) in
    let all = sym (length-append xs (x ∷ [])) ∙ ap length is ∙ length-append ys (y ∷ []) in
    absurd (omega (arith, long, all))))
    (last_or_front xs ys [] x y is)
