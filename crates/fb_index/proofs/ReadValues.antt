-- What reading an int or a text again tells.
use Rattle.std.proofs.Common.{◌≡◌, ◌≢◌, ◌⊎◌, inl, inr, ℕ, zero, suc, ◌<◌, ℤ, pos, negsuc, Bool, true, Option, None, List, [], ◌∷◌, ◌++◌, not, length, ap, sym, ◌∙◌, subst, arith}
use Rattle.std.specs.Prelude.{FitsSigned, Result, Ok, Err, bytes_eq}
use Rattle.std.specs.Int.{w64, cast_signed, cast_unsigned}
use Rattle.std.specs.Str.{IsAscii, IsUtf8}
use Rattle.std.specs.Str.Parse.{ParsesSigned}
use Rattle.std.proofs.lemmas.Fmt.{parse-signed_decimal}
use Rattle.std.proofs.lemmas.Int.{to_z-of_z}
use Rattle.std.proofs.lemmas.Slice.Eq.{bytes_eq-Decides}
use Rattle.std.proofs.lemmas.Str.{IsUtf8-from_ascii}
use Rattle.hex.specs.Hex.{encode_lower, decode_of}
use Rattle.hex.proofs.HexLemmas.{decode_of-encode_lower, decode_of-same}
use Rattle.hex.specs.declared.error.FromHexError.{FromHexError}
use Rattle.hex.specs.declared.error.FromHexError.TheVariants.{OutOfMemory}
use Rattle.fb_base.specs.declared.value.Value.{Value}
use Rattle.fb_base.specs.declared.value.Value.TheVariants as value
use Rattle.fb_base.specs.Text.{IsText}
use Rattle.fb_index.specs.Reading.{IsReadAs}
use Rattle.fb_index.specs.Refusal.{IsTextOf}
use Rattle.fb_index.specs.Spelling.{IsItem, int_spelling, text_spelling, value_spelling}
use Rattle.fb_index.proofs.Bytes.{utf8-bytes}
use Rattle.fb_index.proofs.Values.{IsPlain, ArePlain, int-plain, kind_at, kind-told, item-free, semicolon-other}
use Rattle.fb_index.proofs.ListValues.{spelled_items}
use Rattle.fb_index.proofs.Lists.{closed}
use Rattle.fb_index.proofs.Cuts.{no-items}
use Rattle.fb_index.specs.Pieces.{up_to}
use Rattle.std.specs.List.{All}

-- bytes that differ are not the same
pub not-same : (a b : List ℕ) (r : Bool) → r ≡ not (bytes_eq a b) → r ≡ true → a ≡ b → ⊥
not-same a b r tells differ same =
    let told : bytes_eq a b ≡ true = (bytes_eq-Decides a b).1 same in
    let both : true ≡ not true = sym differ ∙ tells ∙ ap not told in
    absurd cc

-- ---- ints

plain-ascii : (bytes : List ℕ) → ArePlain bytes → IsAscii bytes
plain-ascii [] plain i = omega arith
plain-ascii (b ∷ bytes) plain zero = by b plain.0
  where
    by : (b : ℕ) → IsPlain b → b < 128
    by b (inl sign) = omega (arith, sign)
    by b (inr (inl digit)) = omega (arith, digit)
    by b (inr (inr letter)) = omega (arith, letter)
plain-ascii (b ∷ bytes) plain (suc i) = plain-ascii bytes plain.1 i

pub int-utf8 : (bytes : List ℕ) → IsTextOf (FitsSigned w64) int_spelling bytes → IsUtf8 bytes
int-utf8 bytes (n, fits, same) = subst IsUtf8 (sym same) (IsUtf8-from_ascii (int_spelling n) (plain-ascii (int_spelling n) (int-plain n fits)))

-- an int's text is parsed as that int
int-parsed : {E : Type 0} (n : ℤ) (bytes : List ℕ) (r : Result ℤ E) → FitsSigned w64 n → bytes ≡ int_spelling n →
    ParsesSigned w64 10 bytes r → r ≡ Ok n
int-parsed (pos n) bytes r fits same parsed = parse-signed_decimal w64 (pos n) bytes r fits (omega (arith, fits)) same parsed
int-parsed (negsuc n) bytes r fits same parsed = parse-signed_decimal w64 (negsuc n) bytes r fits (omega (arith, fits)) same parsed

pub int-unparsed : {E : Type 0} (bytes text : List ℕ) (r : Result ℤ E) (e : E) → text ≡ bytes → ParsesSigned w64 10 text r → r ≡ Err e →
    ¬ (IsTextOf (FitsSigned w64) int_spelling bytes)
int-unparsed {E} bytes text r e same parsed failed (n, fits, spelled) =
    let read : r ≡ Ok n = int-parsed n text r fits (same ∙ spelled) parsed in
    let both : Err e ≡ Ok n = sym failed ∙ read in
    absurd cc

-- what is written otherwise is no int's text
pub int-other : {E : Type 0} (bytes text written : List ℕ) (r : Result ℤ E) (m : ℤ) → text ≡ bytes → ParsesSigned w64 10 text r → r ≡ Ok m →
    written ≡ int_spelling (cast_signed w64 (cast_unsigned w64 m)) → (written ≡ bytes → ⊥) → ¬ (IsTextOf (FitsSigned w64) int_spelling bytes)
int-other {E} bytes text written r m same parsed got writes differ (n, fits, spelled) =
    let read : r ≡ Ok n = int-parsed n text r fits (same ∙ spelled) parsed in
    let both : r ≡ Ok n = read in
    let alike : m ≡ n = cc in
    differ (writes ∙ ap (λ k. int_spelling (cast_signed w64 (cast_unsigned w64 k))) alike ∙ ap int_spelling (to_z-of_z w64 n fits) ∙ sym spelled)

-- ---- texts

-- the digits of a text are decoded as its bytes
hex-decoded : (digits : List ℕ) → IsTextOf IsText text_spelling (120 ∷ digits) → (bytes : List ℕ) × IsText bytes × (digits ≡ encode_lower bytes) × (decode_of digits ≡ Ok bytes)
hex-decoded digits (bytes, is, same) =
    let spelled : digits ≡ encode_lower bytes = cc in
    (bytes, is, spelled, ap decode_of spelled ∙ decode_of-encode_lower bytes (utf8-bytes bytes is.0))

pub hex-undecoded : (digits : List ℕ) (e : FromHexError) → decode_of digits ≡ Err e → ¬ (IsTextOf IsText text_spelling (120 ∷ digits))
hex-undecoded digits e failed is =
    let told = hex-decoded digits is in
    let both : Err e ≡ Ok told.0 = sym failed ∙ told.3 in
    absurd cc

pub hex-other : (digits bytes text written : List ℕ) → decode_of digits ≡ Ok bytes → text ≡ bytes → written ≡ encode_lower text →
    (written ≡ digits → ⊥) → ¬ (IsTextOf IsText text_spelling (120 ∷ digits))
hex-other digits bytes text written got is_text writes differ is =
    let told = hex-decoded digits is in
    let alike : bytes ≡ told.0 = decode_of-same digits bytes told.0 got told.3 in
    differ (writes ∙ ap encode_lower (is_text ∙ alike) ∙ sym told.2)

pub hex-no-text : (digits bytes : List ℕ) → decode_of digits ≡ Ok bytes → (IsText bytes → ⊥) → ¬ (IsTextOf IsText text_spelling (120 ∷ digits))
hex-no-text digits bytes got other is =
    let told = hex-decoded digits is in
    let alike : bytes ≡ told.0 = decode_of-same digits bytes told.0 got told.3 in
    other (subst IsText (sym alike) told.1)

pub hex-failed : (digits : List ℕ) (e : FromHexError) → (e ≡ OutOfMemory) ⊎ (decode_of digits ≡ Err e) → (text : Option (List ℕ)) →
    (text ≡ None) × (e ≢ OutOfMemory) → IsReadAs IsText text_spelling (120 ∷ digits) text
hex-failed digits e cases text (none, other) = subst (λ t. IsReadAs IsText text_spelling (120 ∷ digits) t) (sym none) (by cases)
  where
    by : (e ≡ OutOfMemory) ⊎ (decode_of digits ≡ Err e) → ¬ (IsTextOf IsText text_spelling (120 ∷ digits))
    by (inl memory) = absurd (other memory)
    by (inr failed) = hex-undecoded digits e failed

-- ---- items

pub no-text-item : (digits : List ℕ) → ¬ (IsTextOf IsText text_spelling (120 ∷ digits)) → ¬ (IsTextOf IsItem value_spelling (120 ∷ digits))
no-text-item digits other (v, is, same) = by v is same
  where
    by : (v : Value) → IsItem v → 120 ∷ digits ≡ value_spelling v → ⊥
    by (value.Int n) is same = omega (arith, ap kind_at same, kind-told (value.Int n) is)
    by (value.Bool b) is same = omega (arith, ap kind_at same, kind-told (value.Bool b) tt)
    by (value.Text text) is same = other (text, is, same)
    by (value.List xs) is same = is

-- ---- the items of a list

pub no-values : (bytes left : List ℕ) (values : List Value) → 0 < length bytes → bytes ≡ closed 59 value_spelling values ++ left →
    All IsItem values → ¬ (IsTextOf IsItem value_spelling (up_to 59 left)) → ¬ (IsTextOf (All IsItem) spelled_items bytes)
no-values bytes left values some read each missing (vs, are, same) = by vs are same
  where
    by : (vs : List Value) → All IsItem vs → bytes ≡ spelled_items vs → ⊥
    by [] are same = omega (arith, some, ap length same)
    by (v ∷ vs) are same =
        no-items 59 value_spelling IsItem (item-free 59 semicolon-other) bytes left values each read missing
        (v ∷ vs, record { some = omega arith; each = are }, same)
