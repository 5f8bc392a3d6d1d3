-- Names and numbers have no sign in them, and numbers begin with a digit from 1 on.
use Rattle.std.proofs.Common.{◌≡◌, ℕ, zero, suc, ◌^◌, ◌<◌, ◌≤◌, true, false, ◌&&◌, List, [], ◌∷◌, ◌++◌, length, get_or, decimal, codes, Result, Ok, Err, refl, sym, ap, ◌∙◌, subst, arith}
use Rattle.std.proofs.lemmas.Bool.{and_parts, ne_eqb}
use Rattle.std.proofs.lemmas.Fmt.{decimal_is_IsNumeral, decimal_digit, decimal-digits_value, first_decimal, parse-decimal}
use Rattle.std.proofs.lemmas.Str.Parse.{digit_at, numerals_by_value, tells_digits}
use Rattle.std.specs.Char.{is_ascii_lowercase, digit_value}
use Rattle.std.specs.List.{list_all}
use Rattle.std.specs.Prelude.{nat_le}
use Rattle.std.specs.Str.Parse.{AllDigits, IsNumeral, digits_value, without_leading_plus}
use Rattle.fb_base.specs.Name.{IsName, is_name_byte, longest_name}
use Rattle.fb_index.specs.Entry.{IsNumber}
use Rattle.fb_index.specs.Pieces.{IsFree}
use Rattle.fb_tree.specs.declared.outcome.Outcome.{Outcome}
use Rattle.fb_tree.specs.declared.outcome.Outcome.TheVariants as outcome
use Rattle.fb_report.specs.Trees.{outcome_text}
use Rattle.fb_reading.specs.Shapes.{IsOutcome}
use Rattle.fb_reading.proofs.Signs.{free-whole, parted-same}

-- ---- no sign in them

bytes-free : (sign : ℕ) (bytes : List ℕ) → is_name_byte sign ≡ false → list_all is_name_byte bytes ≡ true → IsFree sign bytes
bytes-free sign [] other all = tt
bytes-free sign (b ∷ bytes) other all =
    let parts = and_parts _ _ all in
    ((λ same. (let clash : true ≡ false = sym parts.0 ∙ ap is_name_byte same ∙ other in cc)), bytes-free sign bytes other parts.1)

pub name-free : (sign : ℕ) (name : List ℕ) → is_name_byte sign ≡ false → is_ascii_lowercase sign ≡ false → IsName name → IsFree sign name
name-free sign [] other low is = tt
name-free sign (b ∷ bytes) other low is =
    let both = and_parts (nat_le (length (b ∷ bytes)) longest_name && is_ascii_lowercase b) (list_all is_name_byte bytes) is in
    let first = and_parts (nat_le (length (b ∷ bytes)) longest_name) (is_ascii_lowercase b) both.0 in
    ((λ same. (let clash : true ≡ false = sym first.1 ∙ ap is_ascii_lowercase same ∙ low in cc)), bytes-free sign bytes other both.1)

digits-free : (sign : ℕ) (ds : List ℕ) → sign < 48 → AllDigits 10 ds → IsFree sign ds
digits-free sign [] low all = tt
digits-free sign (d ∷ ds) low all =
    let digit : digit_value d < 10 = all.0 in
    ((λ same. grind arith), digits-free sign ds low all.1)

pub decimal-free : (sign n : ℕ) → sign < 48 → n < 2 ^ 64 → IsFree sign (decimal n)
decimal-free sign n low fits = digits-free sign (decimal n) low (decimal_is_IsNumeral n fits).0.1

-- ---- numbers

-- a number from 1 on begins with such a digit
pub first-digit : (n : ℕ) → 1 ≤ n → n < 2 ^ 32 → (49 ≤ get_or (decimal n) 0 0) × (get_or (decimal n) 0 0 ≤ 57) × (0 < length (decimal n))
first-digit n some fits =
    let numeral = decimal_is_IsNumeral n (omega arith) in
    let low = first_decimal n (omega arith) (omega arith) in
    (omega (arith, low), (digit_at (decimal n) 0 numeral.0.1 numeral.0.0).1, numeral.0.0)

-- what begins so and is parsed is the number's text
pub parsed-text : (bs : List ℕ) (n : ℕ) → 49 ≤ get_or bs 0 0 → get_or bs 0 0 ≤ 57 → 0 < length bs
    → (IsNumeral 10 (without_leading_plus bs) × (digits_value 10 (without_leading_plus bs) < 2 ^ 32)) × (n ≡ digits_value 10 (without_leading_plus bs)) → IsNumber n × (bs ≡ decimal n)
parsed-text [] n low high some parsed = absurd (omega arith)
parsed-text (b ∷ ds) n low high some parsed =
    let plain : without_leading_plus (b ∷ ds) ≡ b ∷ ds = rw (ne_eqb b 43 (λ e. omega arith)) refl in
    let told = subst (λ l. (IsNumeral 10 l × (digits_value 10 l < 2 ^ 32)) × (n ≡ digits_value 10 l)) plain parsed in
    let same : decimal (digits_value 10 (b ∷ ds)) ≡ b ∷ ds = decimal-digits_value (numerals_by_value _ tells_digits) (b ∷ ds) told.0.0.1 some (λ z. absurd (omega arith)) (omega (arith, told.0.1)) in
    let text : b ∷ ds ≡ decimal n = sym (ap decimal told.1 ∙ same) in
    ((positive n text, omega (arith, told.0.1, told.1)), text)
  where
    positive : (m : ℕ) → b ∷ ds ≡ decimal m → 1 ≤ m
    positive zero text = (let zero_text : decimal 0 ≡ 48 ∷ [] = decimal_digit 0 (omega arith) in let clash : b ≡ 48 = cc in absurd (omega arith))
    positive (suc m) text = omega arith

-- the text of a number from 1 on is parsed
pub text-parsed : (bs : List ℕ) (n : ℕ) → IsNumber n → bs ≡ decimal n → (IsNumeral 10 (without_leading_plus bs) × (digits_value 10 (without_leading_plus bs) < 2 ^ 32) → ⊥) → ⊥
text-parsed bs n is same none =
    let failed : Result ℕ (Unit {0}) = Err tt in
    let read : failed ≡ Ok n = parse-decimal 32 n bs failed is.1 (omega (arith, is)) same none in
    cc

-- ---- outcomes

pub no-ending : (word rest : List ℕ) → IsFree 32 word → (word ≡ codes "assert_failed" → ⊥) → (word ≡ codes "call_failed" → ⊥) → (word ≡ codes "fault" → ⊥)
    → (o : Outcome) → IsOutcome o → word ++ 32 ∷ rest ≡ outcome_text o → ⊥
no-ending word rest free asserted called faulted outcome.Passed is same = free-whole 32 (codes "passed") word rest (name-free 32 (codes "passed") refl refl refl) (sym same)
no-ending word rest free asserted called faulted (outcome.AssertFailed n) is same =
    asserted (parted-same 32 word (codes "assert_failed") rest (decimal n) free (name-free 32 (codes "assert_failed") refl refl refl) same).0
no-ending word rest free asserted called faulted (outcome.CallFailed site code) is same =
    called (parted-same 32 word (codes "call_failed") rest (decimal site ++ 32 ∷ code) free (name-free 32 (codes "call_failed") refl refl refl) same).0
no-ending word rest free asserted called faulted (outcome.Fault n) is same =
    faulted (parted-same 32 word (codes "fault") rest (decimal n) free (name-free 32 (codes "fault") refl refl refl) same).0
