-- What holds of each item of a list, and of those of its parts.
use Rattle.std.proofs.Common.{◌≡◌, ℕ, zero, suc, ◌<◌, List, [], ◌∷◌, ◌++◌, length, get_or, sym, subst, arith}
use Rattle.std.specs.List.{flat_map}
use Rattle.fb_meaning.specs.Each.{HoldsOfEach}

pub each_joined : {A : Type 0} (P : A → Type 0) (xs ys : List A) → HoldsOfEach P xs → HoldsOfEach P ys → HoldsOfEach P (xs ++ ys)
each_joined P [] ys front rest = rest
each_joined P (x ∷ xs) ys front rest = (front.0, each_joined P xs ys front.1 rest)

each_front : {A : Type 0} (P : A → Type 0) (xs ys : List A) → HoldsOfEach P (xs ++ ys) → HoldsOfEach P xs
each_front P [] ys each = tt
each_front P (x ∷ xs) ys each = (each.0, each_front P xs ys each.1)

pub each_behind : {A : Type 0} (P : A → Type 0) (xs ys : List A) → HoldsOfEach P (xs ++ ys) → HoldsOfEach P ys
each_behind P [] ys each = each
each_behind P (x ∷ xs) ys each = each_behind P xs ys each.1

-- what holds of all that the items give holds of what one gives
pub each_given : {A B : Type 0} (P : B → Type 0) (f : A → List B) (xs : List A) (i : ℕ) (x : A) → i < length xs → x ≡ get_or xs i x
    → HoldsOfEach P (flat_map f xs) → HoldsOfEach P (f x)
each_given P f [] i x low is each = absurd (omega (arith, low))
each_given P f (first ∷ xs) zero x low is each = subst (λ y. HoldsOfEach P (f y)) (sym is) (each_front P (f first) (flat_map f xs) each)
each_given P f (first ∷ xs) (suc i) x low is each =
    each_given P f xs i x (omega (arith, low)) is (each_behind P (f first) (flat_map f xs) each)
