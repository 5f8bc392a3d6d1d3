-- What holds of each item of a list.
use Rattle.std.proofs.Common.{◌≡◌, ℕ, zero, suc, ◌<◌, List, [], ◌∷◌, ◌++◌, length, take, get_or, sym, subst, arith}
use Rattle.std.specs.List.{All}
use Rattle.std.proofs.lemmas.List.Elements.{All-nil, All-cons}
use Rattle.fb_meaning.specs.Each.{HoldsOfEach}

pub each_at : {A : Type 0} (P : A → Type 0) (xs : List A) (i : ℕ) (x : A) → i < length xs → x ≡ get_or xs i x → HoldsOfEach P xs → P x
each_at P [] i x low is each = absurd (omega (arith, low))
each_at P (y ∷ xs) zero x low is each = subst P (sym is) each.0
each_at P (y ∷ xs) (suc i) x low is each = each_at P xs i x (omega (arith, low)) is each.1

pub each_more : {A : Type 0} (P : A → Type 0) (xs : List A) (i : ℕ) (x : A) → i < length xs → x ≡ get_or xs i x → HoldsOfEach P (take i xs) → P x
    → HoldsOfEach P (take (suc i) xs)
each_more P [] i x low is each here = absurd (omega (arith, low))
each_more P (y ∷ xs) zero x low is each here = (subst P is here, tt)
each_more P (y ∷ xs) (suc i) x low is each here = (each.0, each_more P xs i x (omega (arith, low)) is each.1 here)

pub each_so : {A : Type 0} (P Q : A → Type 0) → ((x : A) → P x → Q x) → (xs : List A) → HoldsOfEach P xs → HoldsOfEach Q xs
each_so P Q so [] each = tt
each_so P Q so (x ∷ xs) each = (so x each.0, each_so P Q so xs each.1)

pub all_so : {A : Type 0} (P Q : A → Type 0) → ((x : A) → P x → Q x) → (xs : List A) → HoldsOfEach P xs → All Q xs
all_so P Q so [] each = All-nil Q
all_so P Q so (x ∷ xs) each = All-cons Q x xs (so x each.0) (all_so P Q so xs each.1)

pub each_push : {A : Type 0} (P : A → Type 0) (xs : List A) (x : A) → HoldsOfEach P xs → P x → HoldsOfEach P (xs ++ x ∷ [])
each_push P [] x each last = (last, tt)
each_push P (y ∷ xs) x each last = (each.0, each_push P xs x each.1 last)
