-- Tests of numbers.
use Rattle.std.proofs.Common.{◌≡◌, ◌≢◌, ℕ, ◌<◌, Bool, true, false, List, length, ◌&&◌, eqb, ltb, arith}
use Rattle.std.proofs.lemmas.Bool.Decides.{nat_tests}

pub and-parts : (a b : Bool) → (a && b) ≡ true → (a ≡ true) × (b ≡ true)
and-parts a b h = grind (arith, nat_tests)

pub and-true : (a b : Bool) → a ≡ true → b ≡ true → (a && b) ≡ true
and-true a b h g = grind (arith, nat_tests)

pub eqb-itself : (n : ℕ) → eqb n n ≡ true
eqb-itself n = grind (arith, nat_tests)

pub ltb-some : (n : ℕ) → 0 < n → ltb 0 n ≡ true
ltb-some n some = grind (arith, nat_tests)

pub some-length : (bytes : List ℕ) (t : Bool) → t ≡ eqb (length bytes) 0 → t ≡ false → 0 < length bytes
some-length bytes t test is = grind (arith, nat_tests)

pub eqb-same : (b c : ℕ) → eqb b c ≡ true → b ≡ c
eqb-same b c test = grind (arith, nat_tests)

pub eqb-other : (b c : ℕ) → eqb b c ≡ false → b ≢ c
eqb-other b c test = grind (arith, nat_tests)

pub eqb-differs : (b c : ℕ) → b ≢ c → eqb b c ≡ false
eqb-differs b c other = grind (arith, nat_tests)
