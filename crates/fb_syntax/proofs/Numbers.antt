-- The number that decimal digits spell grows with each digit.
use Rattle.std.proofs.Common.{◌≡◌, ℕ, ◌+◌, ◌-◌, ◌*◌, ◌/◌, ◌<◌, ◌≤◌, ◌^◌, nat_lt, if◌then◌else◌, Some, None, List, [], ◌∷◌, length, drop, get_or, arith, refl, drop-cons, add-one}
use Rattle.std.specs.List.{fold}
use Rattle.std.proofs.lemmas.Bool.{le-ltb}
use Rattle.fb_syntax.specs.Tokens.{number_of}

abbrev pub more_digits : ℕ → List ℕ → ℕ
more_digits n digits = fold (λ n digit. n * 10 + (digit - 48)) n digits

grows : (n : ℕ) (digits : List ℕ) → n ≤ more_digits n digits
grows n [] = omega arith
grows n (digit ∷ digits) = omega (arith, grows (n * 10 + (digit - 48)) digits)

next : (digits : List ℕ) (i n : ℕ) → i < length digits → more_digits n (drop i digits) ≡ more_digits (n * 10 + (get_or digits i 0 - 48)) (drop (i + 1) digits)
next digits i n within = rw (drop-cons digits i 0, add-one) refl

-- one more digit is too much
pub overflows : (digits : List ℕ) (i n d : ℕ) → i < length digits → more_digits n (drop i digits) ≡ number_of digits
    → d ≡ get_or digits i 0 - 48 → d < 256 → (9223372036854775807 - d) / 10 < n
    → None ≡ (if nat_lt (number_of digits) (2 ^ 63) then Some (number_of digits) else None)
overflows digits i n d within so_far is small much =
    let larger = grows (n * 10 + (get_or digits i 0 - 48)) (drop (i + 1) digits) in
    let same = next digits i n within in
    rw (le-ltb (number_of digits) (2 ^ 63) (omega arith)) refl
