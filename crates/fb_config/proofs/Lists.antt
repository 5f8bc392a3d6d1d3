-- Lists, their tests, and what is found in them.
use Rattle.std.proofs.Common.{◌≡◌, ◌⊎◌, ℕ, zero, suc, ◌+◌, ◌<◌, Bool, true, false, ◌&&◌, cond, List, [], ◌∷◌, ◌++◌, map, filter, find, fold, flat_map, length, get_or, slice_get, Option, Some, None, Contains, refl, sym, ap, ◌∙◌, subst, inl, inr, ⊎_elim, arith}
use Rattle.std.specs.List.{list_all, list_any}
use Rattle.std.proofs.lemmas.Bool.{and_parts}
use Rattle.std.proofs.lemmas.List.Folds.{list_all-append}
use Rattle.std.proofs.lemmas.List.Elements.{Contains-append_cases}
use Rattle.std.proofs.lemmas.Option.{slice_get-get_or}

-- what all items pass, an item of theirs passes
pub passes : {X : Type 0} (p : X → Bool) (xs : List X) (x : X) → list_all p xs ≡ true → Contains xs x → p x ≡ true
passes p [] x all (k, within, is) = absurd (omega arith)
passes p (y ∷ ys) x all (zero, within, is) = ap p (sym is) ∙ (and_parts (p y) (list_all p ys) all).0
passes p (y ∷ ys) x all (suc k, within, is) = passes p ys x (and_parts (p y) (list_all p ys) all).1 (k, omega arith, is)

pub all_more : {X : Type 0} (p : X → Bool) (x : X) (xs : List X) → p x ≡ true → list_all p xs ≡ true → list_all p (x ∷ xs) ≡ true
all_more p x xs first rest = rw (first, rest) refl

pub all_both : {X : Type 0} (p : X → Bool) (xs ys : List X) → list_all p xs ≡ true → list_all p ys ≡ true → list_all p (xs ++ ys) ≡ true
all_both p xs ys first second = list_all-append p xs ys ∙ rw (first, second) refl

-- what is found stands somewhere, and passes
pub found_at : {X : Type 0} (p : X → Bool) (xs : List X) (x : X) → find p xs ≡ Some x → (k : ℕ) × (slice_get xs k ≡ Some x) × (p x ≡ true)
found_at p [] x is = absurd (cc)
found_at {X} p (y ∷ ys) x is = by (p y) refl is (found_at p ys x) where
  by : (b : Bool) → p y ≡ b → cond b (Some y) (find p ys) ≡ Some x → (find p ys ≡ Some x → (k : ℕ) × (slice_get ys k ≡ Some x) × (p x ≡ true))
      → (k : ℕ) × (slice_get (y ∷ ys) k ≡ Some x) × (p x ≡ true)
  by true here found later = (0, found, (let same : y ≡ x = cc in ap p (sym same) ∙ here))
  by false here found later = let rest = later found in (suc rest.0, rest.1, rest.2)

-- an item that is in a list stands somewhere
pub stands_at : {X : Type 0} (xs : List X) (x : X) → Contains xs x → (k : ℕ) × (slice_get xs k ≡ Some x)
stands_at xs x (k, within, is) = (k, slice_get-get_or xs k x within ∙ ap Some is)

-- what holds of all that a list maps to
pub all_flat : {X Y : Type 0} (p : Y → Bool) (f : X → List Y) (xs : List X) → ((k : ℕ) (x : X) → slice_get xs k ≡ Some x → list_all p (f x) ≡ true) → list_all p (flat_map f xs) ≡ true
all_flat p f [] each = refl
all_flat p f (x ∷ xs) each = all_both p (f x) (flat_map f xs) (each 0 x refl) (all_flat p f xs (λ k y is. each (suc k) y is))
