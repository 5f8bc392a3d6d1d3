-- What holds of each item of a list.
use Rattle.std.specs.Prelude.{List, [], ◌∷◌, ◌++◌}
use Rattle.fb_meaning.specs.Each.{HoldsOfEach}

pub each_front : {A : Type 0} (P : A → Type 0) (xs ys : List A) → HoldsOfEach P (xs ++ ys) → HoldsOfEach P xs
each_front P [] ys h = tt
each_front P (x ∷ xs) ys h = (h.0, each_front P xs ys h.1)

pub each_behind : {A : Type 0} (P : A → Type 0) (xs ys : List A) → HoldsOfEach P (xs ++ ys) → HoldsOfEach P ys
each_behind P [] ys h = h
each_behind P (x ∷ xs) ys h = each_behind P xs ys h.1
