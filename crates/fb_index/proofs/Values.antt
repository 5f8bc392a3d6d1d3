-- The spelling of values: which signs it has none of, and that no two values share one.
use Rattle.std.proofs.Common.{◌≡◌, ◌≢◌, ◌⊎◌, inl, inr, ℕ, zero, suc, ◌+◌, ◌/◌, ◌%◌, ◌^◌, ◌<◌, ◌≤◌, ℤ, pos, negsuc, Bool, true, false, List, [], ◌∷◌, ◌++◌, cond, eqb, ltb, length, get_or, refl, ap, sym, ◌∙◌, arith}
use Rattle.std.specs.Prelude.{FitsSigned}
use Rattle.std.specs.Int.{w64}
use Rattle.std.specs.Fmt.{decimal}
use Rattle.std.proofs.lemmas.Bool.Decides.{nat_tests}
use Rattle.std.proofs.lemmas.Fmt.{decimal_by_steps, decimal_injective}
use Rattle.hex.specs.Hex.{lower_digits, encode_with, encode_lower, decode_of, IsBytes}
use Rattle.hex.proofs.HexLemmas.{decode_of-encode_lower}
use Rattle.fb_base.specs.declared.value.Value.{Value}
use Rattle.fb_base.specs.declared.value.Value.TheVariants as value
use Rattle.fb_base.specs.Text.{IsText}
use Rattle.fb_base.specs.Values.{IsProper}
use Rattle.fb_index.specs.Pieces.{IsFree}
use Rattle.fb_index.specs.Spelling.{IsItem, int_spelling, bool_spelling, text_spelling, value_spelling}
use Rattle.fb_index.proofs.Bytes.{utf8-bytes}

-- ---- the bytes of an item: `-`, digits and small letters

abbrev pub IsPlain : ℕ → Type 0
IsPlain b = (b ≡ 45) ⊎ (((48 ≤ b) × (b < 58)) ⊎ ((97 ≤ b) × (b < 123)))

abbrev pub ArePlain : List ℕ → Type 0
ArePlain [] = Unit {0}
ArePlain (b ∷ bytes) = IsPlain b × ArePlain bytes

plain-append : (xs ys : List ℕ) → ArePlain xs → ArePlain ys → ArePlain (xs ++ ys)
plain-append [] ys plain more = more
plain-append (x ∷ xs) ys plain more = (plain.0, plain-append xs ys plain.1 more)

-- a sign that is no such byte
abbrev pub IsOther : ℕ → Type 0
IsOther sign = (b : ℕ) → IsPlain b → b ≢ sign

plain-free : (sign : ℕ) → IsOther sign → (bytes : List ℕ) → ArePlain bytes → IsFree sign bytes
plain-free sign other [] plain = tt
plain-free sign other (b ∷ bytes) plain = (other b plain.0, plain-free sign other bytes plain.1)

pub comma-other : IsOther 44
comma-other b plain same = grind (arith, nat_tests)

pub semicolon-other : IsOther 59
semicolon-other b plain same = grind (arith, nat_tests)

digit-plain : (n : ℕ) → n < 10 → IsPlain (48 + n)
digit-plain n small = inr (inl (omega arith, omega arith))

abbrev HasDigits : ℕ → List ℕ → Type 0
HasDigits n ds = ArePlain ds × (0 < length ds) × (get_or ds 0 0 ≢ 45) × (get_or ds 0 0 < 58)

first-push : (ds : List ℕ) (b : ℕ) → 0 < length ds → get_or (ds ++ b ∷ []) 0 0 ≡ get_or ds 0 0
first-push [] b some = absurd (omega arith)
first-push (d ∷ ds) b some = refl

decimal-digits : (n : ℕ) → n < 2 ^ 64 → HasDigits n (decimal n)
decimal-digits n small = decimal_by_steps HasDigits one more n small
  where
    one : (n : ℕ) → n < 10 → HasDigits n ((48 + n) ∷ [])
    one n small = ((digit-plain n small, tt), omega arith, (λ same. omega (arith, same)), omega arith)

    more : (n : ℕ) (ds : List ℕ) → 10 ≤ n → HasDigits (n / 10) ds → HasDigits n (ds ++ ((48 + n % 10) ∷ []))
    more n ds large (plain, some, sign, low) =
        let first = first-push ds (48 + n % 10) some in (
          plain-append ds _ plain (digit-plain (n % 10) (omega arith), tt),
          longer ds _ some,
          rw first sign,
          rw first low,
        )
      where
        longer : (ds : List ℕ) (b : ℕ) → 0 < length ds → 0 < length (ds ++ b ∷ [])
        longer [] b some = absurd (omega arith)
        longer (d ∷ ds) b some = omega arith

-- ---- ints

pub int-plain : (n : ℤ) → FitsSigned w64 n → ArePlain (int_spelling n)
int-plain (pos n) fits = (decimal-digits n (omega (arith, fits))).0
int-plain (negsuc n) fits = (inl refl, (decimal-digits (suc n) (omega (arith, fits))).0)

pub int-unique : (a b : ℤ) → FitsSigned w64 a → FitsSigned w64 b → int_spelling a ≡ int_spelling b → a ≡ b
int-unique (pos m) (pos n) is_a is_b same = ap pos (decimal_injective m n (omega (arith, is_a)) (omega (arith, is_b)) same)
int-unique (pos m) (negsuc n) is_a is_b same =
    absurd ((decimal-digits m (omega (arith, is_a))).2 (ap (λ bytes. get_or bytes 0 0) same))
int-unique (negsuc m) (pos n) is_a is_b same =
    absurd ((decimal-digits n (omega (arith, is_b))).2 (ap (λ bytes. get_or bytes 0 0) (sym same)))
int-unique (negsuc m) (negsuc n) is_a is_b same =
    let digits : decimal (suc m) ≡ decimal (suc n) = cc in
    let next : suc m ≡ suc n = decimal_injective (suc m) (suc n) (omega (arith, is_a)) (omega (arith, is_b)) digits in
    let alike : m ≡ n = omega (arith, next) in
    ap negsuc alike

-- ---- texts

plain-at : (t : List ℕ) → ArePlain t → (k : ℕ) → k < length t → IsPlain (get_or t k 0)
plain-at [] plain k small = absurd (omega (arith, small))
plain-at (b ∷ t) plain zero small = plain.0
plain-at (b ∷ t) plain (suc k) small = plain-at t plain.1 k (omega (arith, small))

letter : (b : ℕ) → 97 ≤ b → b < 123 → IsPlain b
letter b low high = inr (inr (low, high))

digits-plain : ArePlain lower_digits
digits-plain = (
  d 0 (omega arith),
  (
    d 1 (omega arith),
    (
      d 2 (omega arith),
      (
        d 3 (omega arith),
        (
          d 4 (omega arith),
          (
            d 5 (omega arith),
            (
              d 6 (omega arith),
              (
                d 7 (omega arith),
                (
                  d 8 (omega arith),
                  (
                    d 9 (omega arith),
                    (
                      l 97 (omega arith) (omega arith),
                      (
                        l 98 (omega arith) (omega arith),
                        (
                          l 99 (omega arith) (omega arith),
                          (
                            l 100 (omega arith) (omega arith),
                            (l 101 (omega arith) (omega arith), (l 102 (omega arith) (omega arith), tt)),
                          ),
                        ),
                      ),
                    ),
                  ),
                ),
              ),
            ),
          ),
        ),
      ),
    ),
  ),
)
  where
    d : (n : ℕ) → n < 10 → IsPlain (48 + n)
    d = digit-plain

    l : (b : ℕ) → 97 ≤ b → b < 123 → IsPlain b
    l = letter

hex-plain : (bytes : List ℕ) → IsBytes bytes → ArePlain (encode_with lower_digits bytes)
unfolding encode_with
hex-plain [] are = tt
hex-plain (b ∷ bytes) are =
    let small : b < 256 = are 0 in (
      plain-at lower_digits digits-plain (b / 16) (omega arith),
      (plain-at lower_digits digits-plain (b % 16) (omega arith), hex-plain bytes (λ i. are (suc i))),
    )

text-plain : (bytes : List ℕ) → IsText bytes → ArePlain (text_spelling bytes)
text-plain bytes is = (letter 120 (omega arith) (omega arith), hex-plain bytes (utf8-bytes bytes is.0))

text-unique : (a b : List ℕ) → IsText a → IsText b → text_spelling a ≡ text_spelling b → a ≡ b
text-unique a b is_a is_b same =
    let digits : encode_lower a ≡ encode_lower b = cc in
    let alike = sym (decode_of-encode_lower a (utf8-bytes a is_a.0)) ∙ ap decode_of digits ∙ decode_of-encode_lower b (utf8-bytes b is_b.0) in
    cc

-- ---- items

bool-plain : (b : Bool) → ArePlain (bool_spelling b)
bool-plain true = (l 116 (omega arith) (omega arith), (l 114 (omega arith) (omega arith), (l 117 (omega arith) (omega arith), (l 101 (omega arith) (omega arith), tt))))
  where
    l : (b : ℕ) → 97 ≤ b → b < 123 → IsPlain b
    l = letter
bool-plain false = (l 102 (omega arith) (omega arith), (l 97 (omega arith) (omega arith), (l 108 (omega arith) (omega arith), (l 115 (omega arith) (omega arith), (l 101 (omega arith) (omega arith), tt)))))
  where
    l : (b : ℕ) → 97 ≤ b → b < 123 → IsPlain b
    l = letter

item-plain : (v : Value) → IsItem v → ArePlain (value_spelling v)
item-plain (value.Int n) is = int-plain n is
item-plain (value.Bool b) is = bool-plain b
item-plain (value.Text bytes) is = text-plain bytes is
item-plain (value.List xs) is = absurd is

-- an item has no sign in it
pub item-free : (sign : ℕ) → IsOther sign → (v : Value) → IsItem v → IsFree sign (value_spelling v)
item-free sign other v is = plain-free sign other (value_spelling v) (item-plain v is)

-- which kind the first byte tells
abbrev pub kind_of : ℕ → ℕ
kind_of b = cond (ltb b 58) 0 (cond (eqb b 91) 1 (cond (eqb b 120) 2 3))

abbrev pub kind_at : List ℕ → ℕ
kind_at bytes = kind_of (get_or bytes 0 0)

abbrev pub kind_number : Value → ℕ
kind_number (value.Int n) = 0
kind_number (value.Bool b) = 3
kind_number (value.Text bytes) = 2
kind_number (value.List xs) = 1

low-kind : (b : ℕ) → b < 58 → kind_of b ≡ 0
low-kind b low = grind (arith, nat_tests)

pub kind-told : (v : Value) → IsProper v → kind_at (value_spelling v) ≡ kind_number v
kind-told (value.Int (pos n)) is = low-kind _ (decimal-digits n (omega (arith, is))).3
kind-told (value.Int (negsuc n)) is = refl
kind-told (value.Bool true) is = refl
kind-told (value.Bool false) is = refl
kind-told (value.Text bytes) is = refl
kind-told (value.List xs) is = refl

pub item-proper : (v : Value) → IsItem v → IsProper v
item-proper (value.Int n) is = is
item-proper (value.Bool b) is = tt
item-proper (value.Text bytes) is = is
item-proper (value.List xs) is = absurd is

bool-unique : (a b : Bool) → bool_spelling a ≡ bool_spelling b → a ≡ b
bool-unique true true same = refl
bool-unique true false same = absurd cc
bool-unique false true same = absurd cc
bool-unique false false same = refl

pub same-kind : (a b : Value) → IsProper a → IsProper b → value_spelling a ≡ value_spelling b → kind_number a ≡ kind_number b
same-kind a b is_a is_b same = sym (kind-told a is_a) ∙ ap kind_at same ∙ kind-told b is_b

item-unique-by : (a b : Value) → IsItem a → IsItem b → kind_number a ≡ kind_number b → value_spelling a ≡ value_spelling b → a ≡ b
item-unique-by (value.Int a) (value.Int b) is_a is_b kind same = ap value.Int (int-unique a b is_a is_b same)
item-unique-by (value.Int a) (value.Bool b) is_a is_b kind same = absurd (omega (arith, kind))
item-unique-by (value.Int a) (value.Text b) is_a is_b kind same = absurd (omega (arith, kind))
item-unique-by (value.Bool a) (value.Int b) is_a is_b kind same = absurd (omega (arith, kind))
item-unique-by (value.Bool a) (value.Bool b) is_a is_b kind same = ap value.Bool (bool-unique a b same)
item-unique-by (value.Bool a) (value.Text b) is_a is_b kind same = absurd (omega (arith, kind))
item-unique-by (value.Text a) (value.Int b) is_a is_b kind same = absurd (omega (arith, kind))
item-unique-by (value.Text a) (value.Bool b) is_a is_b kind same = absurd (omega (arith, kind))
item-unique-by (value.Text a) (value.Text b) is_a is_b kind same = ap value.Text (text-unique a b is_a is_b same)
item-unique-by (value.List xs) b is_a is_b kind same = absurd is_a
item-unique-by a (value.List ys) is_a is_b kind same = absurd is_b

pub item-unique : (a b : Value) → IsItem a → IsItem b → value_spelling a ≡ value_spelling b → a ≡ b
item-unique a b is_a is_b same =
    item-unique-by a b is_a is_b (same-kind a b (item-proper a is_a) (item-proper b is_b) same) same

pub item-some : (v : Value) → IsItem v → [] ≡ value_spelling v → ⊥
item-some (value.Int (pos n)) is same = omega (arith, (decimal-digits n (omega (arith, is))).1, ap length same)
item-some (value.Int (negsuc n)) is same = absurd cc
item-some (value.Bool true) is same = absurd cc
item-some (value.Bool false) is same = absurd cc
item-some (value.Text bytes) is same = absurd cc
item-some (value.List xs) is same = absurd is
