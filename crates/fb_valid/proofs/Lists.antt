-- Items of lists, and how lists are cut at an item.
use Rattle.std.proofs.Common.{◌≡◌, ◌⊎◌, inl, inr, ⊎_elim, ℕ, zero, suc, ◌<◌, Bool, true, false, cond, Option, Some, None, List, [], ◌∷◌, ◌++◌, map, filter, filter_map, flat_map, length, slice_get, Contains, refl, sym, ap, ◌∙◌, subst, arith}
use Rattle.std.specs.Prelude.{option_map}
use Rattle.std.proofs.lemmas.List.Elements.{Contains-append_right, Contains-append_cases, filter_map-append}
use Rattle.std.proofs.lemmas.Option.{same_Some, slice_get-map}

-- ---- who is in a list

pub in_none : {A B : Type 0} (x : A) → Contains [] x → B
in_none x (k, within, is) = absurd (omega (arith, within))

pub in_head : {A : Type 0} (x : A) (xs : List A) → Contains (x ∷ xs) x
in_head x xs = (0, omega arith, refl)

pub in_tail : {A : Type 0} (x y : A) (xs : List A) → Contains xs x → Contains (y ∷ xs) x
in_tail x y xs (k, within, is) = (suc k, omega (arith, within), is)

pub in_cases : {A : Type 0} (x y : A) (xs : List A) → Contains (y ∷ xs) x → (y ≡ x) ⊎ Contains xs x
in_cases x y xs (zero, within, is) = inl is
in_cases x y xs (suc k, within, is) = inr (k, omega (arith, within), is)

pub in_same : {A : Type 0} (x : A) (xs ys : List A) → xs ≡ ys → Contains xs x → Contains ys x
in_same x xs ys same has = subst (λ zs. Contains zs x) same has

pub in_middle : {A : Type 0} (before after : List A) (x : A) → Contains (before ++ x ∷ after) x
in_middle before after x = Contains-append_right before (x ∷ after) x (in_head x after)

pub in_map : {A B : Type 0} (f : A → B) (x : A) (xs : List A) → Contains xs x → Contains (map f xs) (f x)
in_map f x [] has = in_none x has
in_map f x (y ∷ xs) has =
    ⊎_elim (λ same. subst (λ z. Contains (f y ∷ map f xs) (f z)) same (in_head (f y) (map f xs)))
    (λ there. in_tail (f x) (f y) (map f xs) (in_map f x xs there)) (in_cases x y xs has)

pub map_has : {A B : Type 0} (f : A → B) (z : B) (xs : List A) → Contains (map f xs) z → (x : A) × Contains xs x × (f x ≡ z)
map_has f z [] has = in_none z has
map_has f z (y ∷ xs) has =
    ⊎_elim (λ same. (y, in_head y xs, same))
    (λ there. (let found = map_has f z xs there in (found.0, in_tail found.0 y xs found.1, found.2))) (in_cases z (f y) (map f xs) has)

pub flat_map_has : {A B : Type 0} (f : A → List B) (y : B) (xs : List A) → Contains (flat_map f xs) y → (x : A) × Contains xs x × Contains (f x) y
flat_map_has f y [] has = in_none y has
flat_map_has f y (z ∷ xs) has =
    ⊎_elim (λ here. (z, in_head z xs, here))
    (λ later. (let found = flat_map_has f y xs later in (found.0, in_tail found.0 z xs found.1, found.2)))
    (Contains-append_cases (f z) (flat_map f xs) y has)

-- ---- by places

pub in_get : {A : Type 0} (xs : List A) (k : ℕ) (x : A) → slice_get xs k ≡ Some x → Contains xs x
in_get [] k x is = absurd (cc)
in_get (y ∷ xs) zero x is = (0, omega arith, same_Some y x is)
in_get (y ∷ xs) (suc k) x is = in_tail x y xs (in_get xs k x is)

pub get_in : {A : Type 0} (xs : List A) (x : A) → Contains xs x → (k : ℕ) × (slice_get xs k ≡ Some x)
get_in [] x has = in_none x has
get_in (y ∷ xs) x has =
    ⊎_elim (λ same. (0, ap Some same)) (λ there. (let found = get_in xs x there in (suc found.0, found.1))) (in_cases x y xs has)

pub get_left : {A : Type 0} (xs ys : List A) (k : ℕ) (x : A) → slice_get xs k ≡ Some x → slice_get (xs ++ ys) k ≡ Some x
get_left [] ys k x is = absurd (cc)
get_left (y ∷ xs) ys zero x is = is
get_left (y ∷ xs) ys (suc k) x is = get_left xs ys k x is

pub get_within : {A : Type 0} (xs : List A) (k : ℕ) (x : A) → slice_get xs k ≡ Some x → k < length xs
get_within [] k x is = absurd (cc)
get_within (y ∷ xs) zero x is = omega arith
get_within (y ∷ xs) (suc k) x is = (let below = get_within xs k x is in omega (arith, below))

-- what stands there among the first items
pub get_front : {A : Type 0} (xs ys : List A) (k : ℕ) (x : A) → k < length xs → slice_get (xs ++ ys) k ≡ Some x → slice_get xs k ≡ Some x
get_front [] ys k x within is = absurd (omega (arith, within))
get_front (y ∷ xs) ys zero x within is = is
get_front (y ∷ xs) ys (suc k) x within is = get_front xs ys k x (omega (arith, within)) is

pub get_some : {A : Type 0} (xs : List A) (k : ℕ) → k < length xs → (x : A) × (slice_get xs k ≡ Some x)
get_some [] k within = absurd (omega (arith, within))
get_some (x ∷ xs) zero within = (x, refl)
get_some (x ∷ xs) (suc k) within = get_some xs k (omega (arith, within))

pub get_next : {A : Type 0} (xs ys : List A) (x : A) → slice_get (xs ++ x ∷ ys) (length xs) ≡ Some x
get_next [] ys x = refl
get_next (y ∷ xs) ys x = get_next xs ys x

pub get_map : {A B : Type 0} (f : A → B) (xs : List A) (k : ℕ) (x : A) → slice_get xs k ≡ Some x → slice_get (map f xs) k ≡ Some (f x)
get_map f xs k x is = slice_get-map f xs k ∙ ap (option_map f) is

pub map_get : {A B : Type 0} (f : A → B) (xs : List A) (k : ℕ) (z : B) → slice_get (map f xs) k ≡ Some z → (x : A) × (slice_get xs k ≡ Some x) × (f x ≡ z)
map_get f [] k z is = absurd (cc)
map_get f (y ∷ xs) zero z is = (y, refl, same_Some (f y) z is)
map_get f (y ∷ xs) (suc k) z is = map_get f xs k z is

-- ---- how lists are cut

pub record Split {A : Type 0} (xs : List A) (x : A) : Type 0 where
  pub before : List A
  pub after : List A
  pub is : xs ≡ before ++ x ∷ after

pub split : {A : Type 0} (xs : List A) (x : A) → Contains xs x → Split xs x
split [] x has = in_none x has
split (y ∷ xs) x has =
    ⊎_elim (λ same. record { before = []; after = xs; is = ap (λ z. z ∷ xs) same })
    (λ there. (let rest = split xs x there in record { before = y ∷ rest.before; after = rest.after; is = ap (λ zs. y ∷ zs) rest.is }))
    (in_cases x y xs has)

-- cut at the last item, or at one before it
pub last_or_front : {A : Type 0} (body above below : List A) (last x : A) → body ++ last ∷ [] ≡ above ++ x ∷ below
    → ((body ≡ above) × (last ≡ x) × (below ≡ [])) ⊎ ((rest : List A) × (body ≡ above ++ x ∷ rest))
last_or_front [] [] below last x is = inl (refl, (cc), (cc))
last_or_front [] (y ∷ []) below last x is = absurd (cc)
last_or_front [] (y ∷ z ∷ above) below last x is = absurd (cc)
last_or_front (y ∷ body) [] below last x is = inr (body, ap (λ z. z ∷ body) (let first : y ≡ x = cc in first))
last_or_front (y ∷ body) (z ∷ above) below last x is =
    let first : y ≡ z = cc in
    ⊎_elim (λ at_end. inl ((λ i. first i ∷ at_end.0 i), at_end.1, at_end.2))
    (λ early. inr (early.0, λ i. first i ∷ early.1 i))
    (last_or_front body above below last x (let rest : body ++ last ∷ [] ≡ above ++ x ∷ below = cc in rest))

-- a list of images, cut at one
pub record MapCut {A B : Type 0} (f : A → B) (xs : List A) (before : List B) (y : B) : Type 0 where
  pub above : List A
  pub item : A
  pub below : List A
  pub is : xs ≡ above ++ item ∷ below
  pub image : f item ≡ y
  pub images : map f above ≡ before

pub map_cut : {A B : Type 0} (f : A → B) (xs : List A) (before after : List B) (y : B) → map f xs ≡ before ++ y ∷ after → MapCut f xs before y
map_cut f [] [] after y is = absurd (cc)
map_cut f [] (z ∷ before) after y is = absurd (cc)
map_cut f (x ∷ xs) [] after y is = record { above = []; item = x; below = xs; is = refl; image = (let first : f x ≡ y = cc in first); images = refl }
map_cut f (x ∷ xs) (z ∷ before) after y is =
    let first : f x ≡ z = cc in
    let rest = map_cut f xs before after y (let others : map f xs ≡ before ++ y ∷ after = cc in others) in
    record {
      above = x ∷ rest.above;
      item = rest.item;
      below = rest.below;
      is = ap (λ zs. x ∷ zs) rest.is;
      image = rest.image;
      images = λ i. first i ∷ rest.images i;
    }

pub none_long : {A : Type 0} (xs : List A) → length xs ≡ 0 → xs ≡ []
none_long [] long = refl
none_long (x ∷ xs) long = absurd (omega (arith, long))

-- ---- what is made of some items

module _ {A B : Type 0} (h : A → Option B) where
  pub made_none : (x : A) (xs : List A) → h x ≡ None → filter_map h (x ∷ xs) ≡ filter_map h xs
  made_none x xs is = rw is

  pub made_some : (x : A) (xs : List A) (y : B) → h x ≡ Some y → filter_map h (x ∷ xs) ≡ y ∷ filter_map h xs
  made_some x xs y is = rw is

  -- of the items up to an item that is made
  pub record MadeAt (xs : List A) (before : List B) (y : B) : Type 0 where
    pub above : List A
    pub item : A
    pub below : List A
    pub is : xs ≡ above ++ item ∷ below
    pub makes : h item ≡ Some y
    pub made : filter_map h above ≡ before

  pub made_at : (xs : List A) (before after : List B) (y : B) → filter_map h xs ≡ before ++ y ∷ after → MadeAt xs before y
  made_at [] [] after y is = absurd (cc)
  made_at [] (z ∷ before) after y is = absurd (cc)
  made_at (x ∷ xs) before after y is = by_made (h x) refl before is (λ front made. made_at xs front after y made)
    where
      further : (before : List B) (more : List B) → filter_map h (x ∷ []) ++ before ≡ more → MadeAt xs before y → MadeAt (x ∷ xs) more y
      further before more joined rest = record {
        above = x ∷ rest.above;
        item = rest.item;
        below = rest.below;
        is = ap (λ zs. x ∷ zs) rest.is;
        makes = rest.makes;
        made = filter_map-append h (x ∷ []) rest.above ∙ ap (λ ys. filter_map h (x ∷ []) ++ ys) rest.made ∙ joined;
      }

      by_made : (o : Option B) → h x ≡ o → (before : List B) → filter_map h (x ∷ xs) ≡ before ++ y ∷ after
          → ((front : List B) → filter_map h xs ≡ front ++ y ∷ after → MadeAt xs front y) → MadeAt (x ∷ xs) before y
      by_made None none before is rest_at =
          further before before (ap (λ ys. ys ++ before) (made_none x [] none)) (rest_at before (sym (made_none x xs none) ∙ is))
      by_made (Some z) some [] is rest_at = record {
        above = [];
        item = x;
        below = xs;
        is = refl;
        makes = some ∙ ap Some (let same : z ∷ filter_map h xs ≡ y ∷ after = sym (made_some x xs z some) ∙ is in (let first : z ≡ y = cc in first));
        made = refl;
      }
      by_made (Some z) some (w ∷ before) is rest_at =
          let same : z ∷ filter_map h xs ≡ w ∷ before ++ y ∷ after = sym (made_some x xs z some) ∙ is in
          let first : z ≡ w = cc in
          let rest : filter_map h xs ≡ before ++ y ∷ after = cc in
          further before (w ∷ before) (ap (λ ys. ys ++ before) (made_some x [] z some) ∙ ap (λ v. v ∷ before) first) (rest_at before rest)

  pub made_number : (xs : List A) (k : ℕ) (y : B) → slice_get (filter_map h xs) k ≡ Some y → (before : List B) × (length before ≡ k) × MadeAt xs before y
  made_number xs k y is =
      let cut = at_place (filter_map h xs) k is in
      (cut.0, cut.1, made_at xs cut.0 cut.2 y cut.3)
    where
      at_place : (ys : List B) (k : ℕ) → slice_get ys k ≡ Some y → (before : List B) × (length before ≡ k) × (after : List B) × (ys ≡ before ++ y ∷ after)
      at_place [] k is = absurd (cc)
      at_place (z ∷ ys) zero is = ([], refl, ys, ap (λ w. w ∷ ys) (same_Some z y is))
      at_place (z ∷ ys) (suc k) is =
          let rest = at_place ys k is in
          (z ∷ rest.0, ap suc rest.1, rest.2, ap (λ zs. z ∷ zs) rest.3)

  pub in_made : (x : A) (y : B) (xs : List A) → Contains xs x → h x ≡ Some y → Contains (filter_map h xs) y
  in_made x y xs has is =
      let cut = split xs x has in
      in_same y _ _ (sym (ap (filter_map h) cut.is ∙ filter_map-append h cut.before (x ∷ cut.after) ∙ ap (λ ys. filter_map h cut.before ++ ys) (made_some x cut.after y is)))
      (in_middle (filter_map h cut.before) (filter_map h cut.after) y)

-- what is made of what is made
pub made_then : {A B C : Type 0} (g : A → Option B) (f : B → C) (xs : List A) → filter_map (λ x. option_map f (g x)) xs ≡ map f (filter_map g xs)
made_then g f [] = refl
made_then {B = B} g f (x ∷ xs) = by (g x) refl (made_then g f xs)
  where
    by : (o : Option B) → g x ≡ o → filter_map (λ x. option_map f (g x)) xs ≡ map f (filter_map g xs)
        → filter_map (λ x. option_map f (g x)) (x ∷ xs) ≡ map f (filter_map g (x ∷ xs))
    by None is rest = made_none (λ x. option_map f (g x)) x xs (ap (option_map f) is) ∙ rest ∙ ap (map f) (sym (made_none g x xs is))
    by (Some y) is rest =
        made_some (λ x. option_map f (g x)) x xs (f y) (ap (option_map f) is) ∙ ap (λ ys. f y ∷ ys) rest ∙ ap (map f) (sym (made_some g x xs y is))

-- ---- what a filter keeps

kept_map : {A B : Type 0} (f : A → B) (b : Bool) (x : A) (xs : List A) (ys : List B) → ys ≡ map f xs → cond b (f x ∷ ys) ys ≡ map f (cond b (x ∷ xs) xs)
kept_map f true x xs ys is = ap (λ zs. f x ∷ zs) is
kept_map f false x xs ys is = is

pub filter-map : {A B : Type 0} (f : A → B) (p : B → Bool) (xs : List A) → filter p (map f xs) ≡ map f (filter (λ x. p (f x)) xs)
filter-map f p [] = refl
filter-map f p (x ∷ xs) = kept_map f (p (f x)) x (filter (λ x. p (f x)) xs) (filter p (map f xs)) (filter-map f p xs)
