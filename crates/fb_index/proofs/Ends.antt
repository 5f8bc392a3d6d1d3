-- The last item of a list.
use Rattle.std.proofs.Common.{◌≡◌, Option, Some, List, [], ◌∷◌, ◌++◌, refl}
use Rattle.std.specs.List.{last_or}

pub last_or_push : {A : Type 0} (otherwise : Option A) (xs : List A) (x : A) → last_or otherwise (xs ++ x ∷ []) ≡ Some x
last_or_push otherwise [] x = refl
last_or_push otherwise (y ∷ xs) x = last_or_push (Some y) xs x
