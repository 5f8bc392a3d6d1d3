-- Lists, places in them, and what is made of some items.
use Rattle.std.proofs.Common.{◌≡◌, ◌⊎◌, inl, inr, ⊎_elim, ℕ, zero, suc, ◌+◌, ◌<◌, ◌≤◌, Bool, true, false, Option, Some, None, List, [], ◌∷◌, ◌++◌, map, filter_map, length, slice_get, refl, sym, ap, ◌∙◌, arith, append-nil}
use Rattle.std.specs.Prelude.{option_map}
use Rattle.std.specs.Bool.{Decides as Tells}
use Rattle.std.proofs.lemmas.Bool.{false≢true}
use Rattle.std.proofs.lemmas.List.{length-append}
use Rattle.std.proofs.lemmas.List.Elements.{filter_map-append}
use Rattle.std.proofs.lemmas.Option.{same_Some, slice_get-map}
use Rattle.fb_tally.specs.Decisions.{Decides}

-- ---- tests

pub decided : {P : Type 0} (b : Bool) → Tells b P → Decides P b
decided true tells = tells.0 refl
decided false tells = λ holds. false≢true (tells.1 holds)

pub tells : {P : Type 0} (b : Bool) → Decides P b → Tells b P
tells true holds = (λ _. holds, λ _. refl)
tells false fails = ((λ is. absurd (false≢true is)), λ holds. absurd (fails holds))

pub decided_like : {P Q : Type 0} (b : Bool) → (P → Q) → (Q → P) → Decides P b → Decides Q b
decided_like true forth back holds = forth holds
decided_like false forth back fails = λ holds. fails (back holds)

-- ---- by places

pub get_within : {A : Type 0} (xs : List A) (k : ℕ) (x : A) → slice_get xs k ≡ Some x → k < length xs
get_within [] k x is = absurd (cc)
get_within (y ∷ xs) zero x is = omega arith
get_within (y ∷ xs) (suc k) x is = (let below = get_within xs k x is in omega (arith, below))

pub get_left : {A : Type 0} (xs ys : List A) (k : ℕ) (x : A) → slice_get xs k ≡ Some x → slice_get (xs ++ ys) k ≡ Some x
get_left [] ys k x is = absurd (cc)
get_left (y ∷ xs) ys zero x is = is
get_left (y ∷ xs) ys (suc k) x is = get_left xs ys k x is

pub get_next : {A : Type 0} (xs ys : List A) (x : A) → slice_get (xs ++ x ∷ ys) (length xs) ≡ Some x
get_next [] ys x = refl
get_next (y ∷ xs) ys x = get_next xs ys x

-- at the last place, or before it
pub get_push : {A : Type 0} (xs : List A) (x : A) (k : ℕ) (y : A) → slice_get (xs ++ x ∷ []) k ≡ Some y → (slice_get xs k ≡ Some y) ⊎ ((k ≡ length xs) × (x ≡ y))
get_push [] x zero y is = inr (refl, same_Some x y is)
get_push [] x (suc k) y is = absurd (cc)
get_push (z ∷ xs) x zero y is = inl is
get_push (z ∷ xs) x (suc k) y is = ⊎_elim inl (λ last. inr (ap suc last.0, last.1)) (get_push xs x k y is)

pub get_map : {A B : Type 0} (f : A → B) (xs : List A) (k : ℕ) (x : A) → slice_get xs k ≡ Some x → slice_get (map f xs) k ≡ Some (f x)
get_map f xs k x is = slice_get-map f xs k ∙ ap (option_map f) is

pub map_get : {A B : Type 0} (f : A → B) (xs : List A) (k : ℕ) (z : B) → slice_get (map f xs) k ≡ Some z → (x : A) × (slice_get xs k ≡ Some x) × (f x ≡ z)
map_get f [] k z is = absurd (cc)
map_get f (y ∷ xs) zero z is = (y, refl, same_Some (f y) z is)
map_get f (y ∷ xs) (suc k) z is = map_get f xs k z is

-- ---- how lists are cut

-- cut at the last item, or at one before it
pub last_or_front : {A : Type 0} (body above below : List A) (last x : A) → body ++ last ∷ [] ≡ above ++ x ∷ below
    → ((body ≡ above) × (last ≡ x)) ⊎ ((rest : List A) × (body ≡ above ++ x ∷ rest))
last_or_front [] [] below last x is = inl (refl, (cc))
last_or_front [] (y ∷ []) below last x is = absurd (cc)
last_or_front [] (y ∷ z ∷ above) below last x is = absurd (cc)
last_or_front (y ∷ body) [] below last x is = inr (body, ap (λ z. z ∷ body) (let first : y ≡ x = cc in first))
last_or_front (y ∷ body) (z ∷ above) below last x is =
    let first : y ≡ z = cc in
    ⊎_elim (λ at_end. inl ((λ i. first i ∷ at_end.0 i), at_end.1))
    (λ early. inr (early.0, λ i. first i ∷ early.1 i))
    (last_or_front body above below last x (let rest : body ++ last ∷ [] ≡ above ++ x ∷ below = cc in rest))

-- ---- what is made of some items

module _ {A B : Type 0} (h : A → Option B) where
  pub made_none : (xs : List A) (x : A) → h x ≡ None → filter_map h (xs ++ x ∷ []) ≡ filter_map h xs
  made_none xs x none =
      filter_map-append h xs (x ∷ []) ∙ ap (λ rest. filter_map h xs ++ rest) (let last : filter_map h (x ∷ []) ≡ [] = rw none in last) ∙ append-nil (filter_map h xs)

  pub made_some : (xs : List A) (x : A) (y : B) → h x ≡ Some y → filter_map h (xs ++ x ∷ []) ≡ filter_map h xs ++ y ∷ []
  made_some xs x y some =
      filter_map-append h xs (x ∷ []) ∙ ap (λ rest. filter_map h xs ++ rest) (let last : filter_map h (x ∷ []) ≡ y ∷ [] = rw some in last)

  -- the item of which what stands there is made
  abbrev pub MadeAt : List A → ℕ → B → Type 0
  MadeAt xs k y = (above : List A) × (x : A) × (below : List A) × (xs ≡ above ++ x ∷ below) × (h x ≡ Some y) × (length (filter_map h above) ≡ k)

  pub made_at : (xs : List A) (k : ℕ) (y : B) → slice_get (filter_map h xs) k ≡ Some y → MadeAt xs k y
  made_at [] k y is = absurd (cc)
  made_at (x ∷ xs) k y is = by (h x) refl k is (λ j there. made_at xs j y there)
    where
      later : (j k : ℕ) → MadeAt xs j y → length (filter_map h (x ∷ [])) + j ≡ k → MadeAt (x ∷ xs) k y
      later j k rest long = (
        x ∷ rest.0,
        rest.1,
        rest.2,
        ap (λ ys. x ∷ ys) rest.3,
        rest.4,
        ap length (filter_map-append h (x ∷ []) rest.0) ∙ length-append (filter_map h (x ∷ [])) (filter_map h rest.0)
            ∙ ap (λ n. length (filter_map h (x ∷ [])) + n) rest.5 ∙ long,
      )

      by : (o : Option B) → h x ≡ o → (k : ℕ) → slice_get (filter_map h (x ∷ xs)) k ≡ Some y → ((j : ℕ) → slice_get (filter_map h xs) j ≡ Some y → MadeAt xs j y)
          → MadeAt (x ∷ xs) k y
      by None none k is rest_at =
          later k k (rest_at k (let same : filter_map h (x ∷ xs) ≡ filter_map h xs = rw none in sym (ap (λ ys. slice_get ys k) same) ∙ is))
          (let nothing : filter_map h (x ∷ []) ≡ [] = rw none in ap (λ ys. length ys + k) nothing ∙ omega arith)
      by (Some z) some zero is rest_at = (
        [],
        x,
        xs,
        refl,
        some ∙ (let same : filter_map h (x ∷ xs) ≡ z ∷ filter_map h xs = rw some in sym (ap (λ ys. slice_get ys 0) same) ∙ is),
        refl,
      )
      by (Some z) some (suc k) is rest_at =
          later k (suc k) (rest_at k (let same : filter_map h (x ∷ xs) ≡ z ∷ filter_map h xs = rw some in sym (ap (λ ys. slice_get ys (suc k)) same) ∙ is))
          (let one : filter_map h (x ∷ []) ≡ z ∷ [] = rw some in ap (λ ys. length ys + k) one ∙ omega arith)

  -- what is made of the first items is no more than what is made of all
  pub made_within : (xs above below : List A) → xs ≡ above ++ below → length (filter_map h above) ≤ length (filter_map h xs)
  made_within xs above below cut =
      let long = ap (λ ys. length (filter_map h ys)) cut ∙ ap length (filter_map-append h above below) ∙ length-append (filter_map h above) (filter_map h below) in
      omega (arith, long)
