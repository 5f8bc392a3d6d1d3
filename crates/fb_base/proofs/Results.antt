-- A step after another.
use Rattle.std.proofs.Common.{◌≡◌, Result, Ok, Err, refl, ap, ◌∙◌}
use Rattle.fb_base.specs.Results.{◌>>=◌}

-- where both gave something, the first did
pub ok_then : {A B E : Type 0} (first : Result A E) (more : A → Result B E) (y : B) → (first >>= more) ≡ Ok y → (x : A) × (first ≡ Ok x) × (more x ≡ Ok y)
ok_then (Ok x) more y h = (x, refl, h)
ok_then (Err e) more y h = absurd (cc)

pub then_is : {A B E : Type 0} (first : Result A E) (more : A → Result B E) (x : A) (y : B) → first ≡ Ok x → more x ≡ Ok y → (first >>= more) ≡ Ok y
then_is first more x y is rest = ap (λ found. found >>= more) is ∙ rest
