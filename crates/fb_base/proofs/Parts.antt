-- Parts of values.
use Rattle.std.proofs.Common.{◌≡◌, ℕ, ◌+◌, List, [], ◌∷◌, length, Option, Some, None, refl, ap, arith}
use Rattle.std.specs.Option.{option_map, option_and_then}
use Rattle.fb_base.specs.declared.value.Value.{Value}
use Rattle.fb_base.specs.Operators.{parts_of}

length_of_whole : {A : Type 0} (first : Option A) (rest : Option (List A)) (n : ℕ) (xs : List A) →
    ((ys : List A) → rest ≡ Some ys → length ys ≡ n) →
    option_and_then (λ x. option_map (λ ys. x ∷ ys) rest) first ≡ Some xs → length xs ≡ n + 1
length_of_whole None rest n xs same e = cc
length_of_whole (Some x) None n xs same e = cc
length_of_whole (Some x) (Some ys) n xs same e =
    let tail = same ys refl in let whole : x ∷ ys ≡ xs = cc in omega (arith, ap length whole)

-- there are as many parts as values
pub length-parts_of : {A : Type 0} (part : Value → Option A) (vs : List Value) (xs : List A) →
    parts_of part vs ≡ Some xs → length xs ≡ length vs
length-parts_of part [] xs e = let none : [] ≡ xs = cc in omega (arith, ap length none)
length-parts_of part (v ∷ vs) xs e =
    omega (arith, length_of_whole (part v) (parts_of part vs) (length vs) xs (λ ys here. length-parts_of part vs ys here) e)
