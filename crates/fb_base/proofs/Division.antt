-- Quotient and remainder.
use Rattle.std.proofs.Common.{◌≡◌, ℕ, zero, suc, ◌/◌, ◌^◌, FitsSigned, nat_lt, sym, ◌∙◌, ◌<◌, ◌≤◌, ℤ, pos, negsuc, ◌*ℤ◌, neg_ℤ, unsigned_abs, int_div, int_rem, Option, Some, None, Bool, true, false, cond, IfSome, arith, refl}
use Rattle.std.specs.Option.{option_map}
use Rattle.std.specs.Int.{w64}
use Rattle.std.specs.Ordering.{int_eq}
use Rattle.std.proofs.lemmas.Int.{quot-rem, rem_below, unsigned_abs-mul, fits_signed_from_abs}
use Rattle.std.specs.Int.Signed.{nat_abs-le}
use Rattle.std.proofs.lemmas.Option.{cond_some, none-some}
use Rattle.std.proofs.Math.Nat.{div-mul-le_self}
use borrow.Author.Tests.{ltb-true}
use Rattle.fb_base.specs.declared.value.Value.TheVariants as value
use Rattle.fb_base.specs.Operators.{in_i64, quotient, remainder, value_of_binary}
use Rattle.fb_base.specs.Laws.{MakesUp, DividesTowardZero}
use Rattle.fb_base.proofs.Given.{IfSome-cond, IfSome-map_all}
use Rattle.fb_base.proofs.Remainders.{remainder_is}

in_i64_is : (z n : ℤ) → in_i64 z ≡ Some n → z ≡ n
in_i64_is (pos m) n e = (cond_some (nat_lt m (2 ^ 63)) (pos m) n e).1
in_i64_is (negsuc m) n e = (cond_some (nat_lt m (2 ^ 63)) (negsuc m) n e).1

-- where there is a quotient the divisor isn't zero
quotient_is : (zero : Bool) (z n : ℤ) → cond zero None (in_i64 z) ≡ Some n → (zero ≡ false) × (z ≡ n)
quotient_is true z n e = absurd (none-some n e)
quotient_is false z n e = (refl, in_i64_is z n e)

nonzero_abs : (b : ℤ) → int_eq b (pos 0) ≡ false → 0 < unsigned_abs b
nonzero_abs (pos zero) e = cc
nonzero_abs (pos (suc n)) e = omega arith
nonzero_abs (negsuc n) e = omega arith

unsigned_abs-neg : (n : ℕ) → unsigned_abs (neg_ℤ (pos n)) ≡ n
unsigned_abs-neg zero = refl
unsigned_abs-neg (suc n) = refl

unsigned_abs-int_div : (a b : ℤ) → unsigned_abs (int_div a b) ≡ unsigned_abs a / unsigned_abs b
unsigned_abs-int_div (pos a) (pos b) = refl
unsigned_abs-int_div (pos a) (negsuc b) = unsigned_abs-neg (a / suc b)
unsigned_abs-int_div (negsuc a) (pos b) = unsigned_abs-neg (suc a / b)
unsigned_abs-int_div (negsuc a) (negsuc b) = refl

whole_part_within : (a b : ℤ) → unsigned_abs (int_div a b *ℤ b) ≤ unsigned_abs a
whole_part_within a b =
    rw (unsigned_abs-mul (int_div a b) b, unsigned_abs-int_div a b) (div-mul-le_self (unsigned_abs a) (unsigned_abs b))

int_of_map : (o : Option ℤ) (n : ℤ) → option_map value.Int o ≡ Some (value.Int n) → o ≡ Some n
int_of_map None n e = cc
int_of_map (Some m) n e = cc

rest_of_map : (o : Option ℤ) (rest q r : ℤ) → o ≡ Some q → option_map (λ _. rest) o ≡ Some r → rest ≡ r
rest_of_map None rest q r e f = cc
rest_of_map (Some m) rest q r e f = cc

division : (a b q r : ℤ) → quotient a b ≡ Some q → remainder a b ≡ Some r →
    MakesUp a b q r × (unsigned_abs r < unsigned_abs b) × (unsigned_abs (q *ℤ b) ≤ unsigned_abs a)
division a b q r p s =
    let here = quotient_is (int_eq b (pos 0)) (int_div a b) q p in
    let rest : int_rem a b ≡ r = rest_of_map (quotient a b) (int_rem a b) q r p (sym (remainder_is a b) ∙ s) in
    rw (sym here.1, sym rest) (quot-rem a b, rem_below a b (nonzero_abs b here.0), whole_part_within a b)

pub divides_toward_zero : DividesTowardZero
unfolding value_of_binary
divides_toward_zero a b q r p s = division a b q r (int_of_map (quotient a b) q p) (int_of_map (remainder a b) r s)

-- what fits is what an int may be
pub in_i64_fits : (z : ℤ) → IfSome (in_i64 z) (FitsSigned w64)
in_i64_fits (pos m) = IfSome-cond (FitsSigned w64) (nat_lt m (2 ^ 63)) (pos m) (λ small. record { sfits = ltb-true m (2 ^ 63) small })
in_i64_fits (negsuc m) = IfSome-cond (FitsSigned w64) (nat_lt m (2 ^ 63)) (negsuc m) (λ small. record { sfits = ltb-true m (2 ^ 63) small })

pub quotient_fits : (a b : ℤ) → IfSome (quotient a b) (FitsSigned w64)
quotient_fits a b = unless_zero (int_eq b (pos 0))
  where
    unless_zero : (zero : Bool) → IfSome (cond zero None (in_i64 (int_div a b))) (FitsSigned w64)
    unless_zero true = tt
    unless_zero false = in_i64_fits (int_div a b)

rest_fits : (a b : ℤ) → FitsSigned w64 b → int_eq b (pos 0) ≡ false → FitsSigned w64 (int_rem a b)
rest_fits a b fits e =
    let size = nat_abs-le b fits.sfits in
    fits_signed_from_abs w64 (int_rem a b) (omega (arith, size, rem_below a b (nonzero_abs b e)))

rest_fits_unless : (zero : Bool) (a b : ℤ) → FitsSigned w64 b → int_eq b (pos 0) ≡ zero →
    IfSome (option_map (λ _. int_rem a b) (cond zero None (in_i64 (int_div a b)))) (FitsSigned w64)
rest_fits_unless true a b fits e = tt
rest_fits_unless false a b fits e =
    IfSome-map_all (FitsSigned w64) (λ _. int_rem a b) (in_i64 (int_div a b)) (λ _. rest_fits a b fits e)

pub remainder_fits : (a b : ℤ) → FitsSigned w64 b → IfSome (remainder a b) (FitsSigned w64)
remainder_fits a b fits = rw remainder_is (rest_fits_unless (int_eq b (pos 0)) a b fits refl)
