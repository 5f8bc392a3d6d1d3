-- The test whether a list is a text.
use Rattle.std.proofs.Common.{◌≡◌, ℕ, Bool, true, false, List, [], length, drop, get_or, Option, Some, None, refl}
use Rattle.std.specs.Prelude.{nat_le, IsUtf8, if◌then◌else◌}
use Rattle.std.specs.Str.{is_utf8}
use Rattle.std.specs.Str.Lossy.{utf8_valid_len, utf8_error_len}
use Rattle.std.proofs.lemmas.Str.{IsUtf8-from_is_utf8, is_utf8-from_IsUtf8}
use Rattle.std.proofs.lemmas.Bool.{and_from, and_parts, le-leb, leb-true}
use Rattle.fb_base.specs.Text.{IsText, longest_text}
use Rattle.fb_syntax.specs.declared.token.What.TheVariants.{Text}
use Rattle.fb_syntax.specs.Lexing.{is_text, token, text_front, text_from, refused_byte, not_text_at}

-- what isn't true is false
pub refuted : (b : Bool) → ¬ (b ≡ true) → b ≡ false
refuted true no_way = absurd (no_way refl)
refuted false no_way = refl

pub is_utf8_true : (bytes : List ℕ) → IsUtf8 bytes → is_utf8 bytes ≡ true
is_utf8_true bytes h = is_utf8-from_IsUtf8 bytes h

pub is_utf8_false : (bytes : List ℕ) → ¬ (IsUtf8 bytes) → is_utf8 bytes ≡ false
is_utf8_false bytes h = refuted (is_utf8 bytes) (λ b. h (IsUtf8-from_is_utf8 bytes b))

pub is_text_true : (text : List ℕ) → IsText text → is_text text ≡ true
is_text_true text h = and_from (is_utf8 text) (nat_le (length text) longest_text) (is_utf8_true text h.0) (le-leb (length text) longest_text h.1)

pub IsText-from : (text : List ℕ) → is_text text ≡ true → IsText text
IsText-from text h =
    let parts = and_parts (is_utf8 text) (nat_le (length text) longest_text) h in
    (IsUtf8-from_is_utf8 text parts.0, leb-true (length text) longest_text parts.1)

pub is_text_false : (text : List ℕ) → ¬ (IsText text) → is_text text ≡ false
is_text_false text h = refuted (is_text text) (λ b. h (IsText-from text b))

-- ---- what a literal gives

pub text_found : (rest content text : List ℕ) (len : ℕ) → Some (content, len) ≡ text_from false [] 1 rest → text ≡ content → IsText content
    → Some (token (Text text) len) ≡ text_front (text_from false [] 1 rest)
text_found rest content text len h same fits = rw (← h, same, is_text_true content fits) refl

pub text_refused : (rest content : List ℕ) (len : ℕ) → Some (content, len) ≡ text_from false [] 1 rest → ¬ (IsText content)
    → None ≡ text_front (text_from false [] 1 rest)
text_refused rest content len h unfit = rw (← h, is_text_false content unfit) refl

-- ---- where a text stops

pub refused_at : (bytes : List ℕ) (valid at : ℕ) (wrong : Option ℕ) → ¬ (IsUtf8 bytes) → valid ≡ at → at ≡ utf8_valid_len bytes → wrong ≡ utf8_error_len (drop at bytes)
    → Some (refused_byte valid wrong (get_or bytes valid 0) (length bytes)) ≡ (if is_utf8 bytes then None else Some (not_text_at bytes))
unfolding not_text_at
refused_at bytes valid at wrong no_text is_at is_valid is_wrong = rw (is_utf8_false bytes no_text, is_wrong, is_at, is_valid) refl
