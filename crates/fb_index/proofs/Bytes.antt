-- The bytes of texts.
use Rattle.std.proofs.Common.{◌≡◌, ◌⊎◌, inl, inr, ℕ, zero, suc, ◌+◌, ◌/◌, ◌%◌, ◌<◌, ◌≤◌, Bool, true, false, List, [], ◌∷◌, ◌++◌, cond, ltb, get_or, refl, subst, arith}
use Rattle.std.proofs.lemmas.Bool.Decides.{nat_tests}
use Rattle.std.proofs.Math.Utf8.{scalar, scalars, encode, encodes, scalar_cases}
use Rattle.std.specs.Str.{IsUtf8}
use Rattle.hex.specs.Hex.{IsBytes}
use Rattle.fb_index.proofs.Bools.{and-parts}

abbrev AreBytes : List ℕ → Type 0
AreBytes [] = Unit {0}
AreBytes (b ∷ bytes) = (b < 256) × AreBytes bytes

bytes-append : (xs ys : List ℕ) → AreBytes xs → AreBytes ys → AreBytes (xs ++ ys)
bytes-append [] ys are more = more
bytes-append (x ∷ xs) ys are more = (are.0, bytes-append xs ys are.1 more)

below : (c n : ℕ) → ltb c n ≡ true → c < n
below c n test = grind (arith, nat_tests)

by-size : (a b d : Bool) (c : ℕ) → ltb c 128 ≡ a → ltb c 2048 ≡ b → ltb c 65536 ≡ d → c < 1114112 →
    AreBytes (cond a (c ∷ []) (cond b ((192 + c / 64) ∷ (128 + c % 64) ∷ [])
    (cond d ((224 + c / 4096) ∷ (128 + c / 64 % 64) ∷ (128 + c % 64) ∷ [])
    ((240 + c / 262144) ∷ (128 + c / 4096 % 64) ∷ (128 + c / 64 % 64) ∷ (128 + c % 64) ∷ []))))
by-size true b d c one two three small = (omega (arith, below c 128 one), tt)
by-size false true d c one two three small = (omega (arith, below c 2048 two), (omega arith, tt))
by-size false false true c one two three small = (omega (arith, below c 65536 three), (omega arith, (omega arith, tt)))
by-size false false false c one two three small = (omega arith, (omega arith, (omega arith, (omega arith, tt))))

char-bytes : (c : ℕ) → scalar c ≡ true → AreBytes (encode c)
unfolding encode
char-bytes c is = by-size _ _ _ c refl refl refl (by (scalar_cases c is))
  where
    by : (c < 55296) ⊎ ((57344 ≤ c) × (c < 1114112)) → c < 1114112
    by (inl low) = omega (arith, low)
    by (inr high) = high.1

chars-bytes : (cs : List ℕ) → scalars cs ≡ true → AreBytes (encodes cs)
chars-bytes [] are = tt
chars-bytes (c ∷ cs) are =
    let parts = and-parts (scalar c) (scalars cs) are in
    bytes-append (encode c) (encodes cs) (char-bytes c parts.0) (chars-bytes cs parts.1)

at-each : (bytes : List ℕ) → AreBytes bytes → (i : ℕ) → get_or bytes i 0 < 256
at-each [] are i = omega arith
at-each (b ∷ bytes) are zero = are.0
at-each (b ∷ bytes) are (suc i) = at-each bytes are.1 i

utf8-are : (bytes : List ℕ) → IsUtf8 bytes → AreBytes bytes
utf8-are bytes (cs, (are, same)) = subst AreBytes same (chars-bytes cs are)

-- a text's bytes are bytes
pub utf8-bytes : (bytes : List ℕ) → IsUtf8 bytes → IsBytes bytes
utf8-bytes bytes is = at-each bytes (utf8-are bytes is)
