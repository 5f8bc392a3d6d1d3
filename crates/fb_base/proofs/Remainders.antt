-- The remainder of the table is that of the processor.
use Rattle.std.proofs.Common.{◌≡◌, ◌^◌, ℤ, pos, negsuc, ◌-ℤ◌, ◌*ℤ◌, Bool, true, false, Some, None, cond, nat_lt, int_div, int_rem, refl, ap, ◌∙◌, arith}
use Rattle.std.specs.Option.{option_map}
use Rattle.std.specs.Ordering.{int_eq}
use Rattle.std.proofs.lemmas.Int.{ints, quot-rem}
use Rattle.fb_base.specs.Operators.{in_i64, quotient, remainder}

option_map-cond : (b : Bool) (f : ℤ → ℤ) (z : ℤ) →
    option_map f (cond b (Some z) None) ≡ option_map (λ _. f z) (cond b (Some z) None)
option_map-cond true f z = refl
option_map-cond false f z = refl

option_map-in_i64 : (f : ℤ → ℤ) (z : ℤ) → option_map f (in_i64 z) ≡ option_map (λ _. f z) (in_i64 z)
option_map-in_i64 f (pos n) = option_map-cond (nat_lt n (2 ^ 63)) f (pos n)
option_map-in_i64 f (negsuc n) = option_map-cond (nat_lt n (2 ^ 63)) f (negsuc n)

rest_is : (a b : ℤ) → a -ℤ int_div a b *ℤ b ≡ int_rem a b
rest_is a b = let whole = quot-rem a b in omega (arith, ints)

unless_zero : (zero : Bool) (f : ℤ → ℤ) (z rest : ℤ) → f z ≡ rest →
    option_map f (cond zero None (in_i64 z)) ≡ option_map (λ _. rest) (cond zero None (in_i64 z))
unless_zero true f z rest e = refl
unless_zero false f z rest e = option_map-in_i64 f z ∙ ap (λ r. option_map (λ _. r) (in_i64 z)) e

pub remainder_is : (a b : ℤ) → remainder a b ≡ option_map (λ _. int_rem a b) (quotient a b)
remainder_is a b = unless_zero (int_eq b (pos 0)) (λ q. a -ℤ q *ℤ b) (int_div a b) (int_rem a b) (rest_is a b)
