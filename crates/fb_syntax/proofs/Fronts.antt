-- What stands first in a text is a piece of it, and well made; and each piece that is well made stands first.
use Rattle.std.proofs.Common.{◌≡◌, ℕ, ◌+◌, ◌<◌, ◌^◌, ◌⊎◌, Bool, true, false, cond, Option, Some, None, List, [], ◌∷◌, ◌++◌, length, take, drop, arith, refl, sym, ap, subst, ◌∙◌, inl, inr, append_assoc, length-append, take-append-drop}
use Rattle.std.specs.Prelude.{not, ◌==◌, ◌&&◌, nat_lt, nat_le, pos, ℤ, flat_map}
use Rattle.std.specs.List.{prefix_len, list_all}
use Rattle.std.specs.Char.{is_ascii_lowercase, is_ascii_digit}
use Rattle.std.proofs.lemmas.Bool.{eqb-true, ltb-true, lt-ltb, and_parts, and_from, not-false}
use Rattle.std.proofs.lemmas.Bool.Decides.{nat_tests}
use Rattle.std.proofs.lemmas.List.{take_at}
use Rattle.std.proofs.lemmas.List.Folds.{length-prefix_len}
use Rattle.fb_base.specs.Name.{is_name, is_name_byte}
use Rattle.fb_base.specs.Text.{IsText}
use Rattle.fb_syntax.specs.declared.front.Front.{Front}
use Rattle.fb_syntax.specs.declared.sign.Sign.{Sign}
use Rattle.fb_syntax.specs.declared.token.What.{What}
use Rattle.fb_syntax.specs.declared.token.What.TheVariants as what
use Rattle.fb_syntax.specs.Signs.{sign_text}
use Rattle.fb_syntax.specs.Tokens.{Piece, Blank, Comment, Made, spelling_of, IsPiece, begins, escaped, stands_in_text, literal, is_blank, number_of}
use Rattle.fb_syntax.specs.Lexing.{front, front_comment, front_word, front_number, front_sign, front_text, sign_front, text_front, text_from, first_sign, gap, token, is_text, Advances}
use Rattle.fb_syntax.proofs.Choices.{chosen, some_is, some_chosen}
use Rattle.fb_syntax.proofs.Texts.{is_text_true, IsText-from}
use Rattle.fb_syntax.proofs.Runs.{run_all, run_ends, run_is, run_some}
use Rattle.fb_syntax.proofs.SignTexts.{IsFirstSign-from, first_sign_is, sign_comes}
use Rattle.fb_syntax.proofs.Literals.{IsRead-from, literal_read}

-- the token of a piece, if it is one
abbrev pub what_of : Piece → Option What
what_of (Blank b) = None
what_of (Comment text) = None
what_of (Made what spelling) = Some what

abbrev pub front_of : Piece → Front
front_of piece = record { what = what_of piece; len = length (spelling_of piece) }

-- this piece stands first
pub record Stands (bytes : List ℕ) (found : Front) : Type 0 where
  pub piece : Piece
  pub rest : List ℕ
  pub cut : bytes ≡ spelling_of piece ++ rest
  pub is : found ≡ front_of piece
  pub proper : IsPiece piece rest
  pub some : 0 < length (spelling_of piece)

-- a front of so many bytes, and what follows
cut_at : (bytes : List ℕ) (n : ℕ) → bytes ≡ take n bytes ++ drop n bytes
cut_at bytes n = sym (take-append-drop n bytes)

blank_stands : (b : ℕ) (rest : List ℕ) (found : Front) → is_blank b ≡ true → gap 1 ≡ found → Stands (b ∷ rest) found
blank_stands b rest found blank h = record { piece = Blank b; rest = rest; cut = refl; is = sym h; proper = blank; some = omega arith }

abbrev is_no_feed : ℕ → Bool
is_no_feed b = not (b == 10)

feed_or_end : (rest : List ℕ) → begins is_no_feed rest ≡ false → (rest ≡ []) ⊎ (begins (λ b. b == 10) rest ≡ true)
feed_or_end [] h = inl refl
feed_or_end (b ∷ rest) h = inr (not-false (b == 10) h)

comment_stands : (rest : List ℕ) (found : Front) → front_comment (35 ∷ rest) ≡ Some found → Stands (35 ∷ rest) found
unfolding front_comment
comment_stands rest found h =
    let len = prefix_len is_no_feed rest in
    let count : length (take len rest) ≡ len = length-prefix_len is_no_feed rest in
    let longer : 1 + len ≡ length (35 ∷ take len rest) = omega arith in
    record {
      piece = Comment (take len rest);
      rest = drop len rest;
      cut = ap (λ (more : List ℕ). 35 ∷ more) (cut_at rest len);
      is = sym (some_is (gap (1 + len)) found h) ∙ ap gap longer;
      proper = (run_all is_no_feed rest, feed_or_end (drop len rest) (run_ends is_no_feed rest));
      some = omega arith;
    }

record IsTextFront (given : Option (List ℕ × ℕ)) (first : Front) : Type 0 where
  read : List ℕ × ℕ
  is : given ≡ Some read
  text : is_text read.0 ≡ true
  found : first ≡ token (what.Text read.0) read.1

text_made : (o : Option (List ℕ × ℕ)) (found : Front) → text_front o ≡ Some found → IsTextFront o found
text_made None found h = absurd cc
text_made (Some read) found h =
    let made = some_chosen (is_text read.0) (Some (token (what.Text read.0) read.1)) found h in
    record { read = read; is = refl; text = made.0; found = sym (some_is (token (what.Text read.0) read.1) found made.1) }

text_stands : (rest : List ℕ) (found : Front) → front_text (34 ∷ rest) ≡ Some found → Stands (34 ∷ rest) found
text_stands rest found h =
    let made = text_made (text_from false [] 1 rest) found h in
    let parts = IsRead-from false [] 1 rest made.read made.is in
    let spelled = flat_map escaped parts.text in
    let len : made.read.1 ≡ length (literal parts.text) = omega (arith, parts.count, length-append spelled (34 ∷ [])) in
    record {
      piece = Made (what.Text parts.text) (literal parts.text);
      rest = parts.rest;
      cut = ap (λ (more : List ℕ). 34 ∷ more) (parts.cut ∙ sym (append_assoc spelled (34 ∷ []) parts.rest));
      is = made.found ∙ ap (λ (text : List ℕ). token (what.Text text) made.read.1) parts.whole ∙ ap (token (what.Text parts.text)) len;
      proper = ((subst (λ (text : List ℕ). IsText text) parts.whole (IsText-from made.read.0 made.text), parts.fits, refl), tt);
      some = omega arith;
    }

name_some : (word : List ℕ) → is_name word ≡ true → 0 < length word
name_some [] h = absurd cc
name_some (b ∷ word) h = omega arith

word_stands : (bytes : List ℕ) (found : Front) → front_word bytes ≡ Some found → Stands bytes found
unfolding front_word
word_stands bytes found h =
    let len = prefix_len is_name_byte bytes in
    let word = take len bytes in
    let made = some_chosen (is_name word) (Some (token (what.Word word) len)) found h in
    let count : length word ≡ len = length-prefix_len is_name_byte bytes in
    record {
      piece = Made (what.Word word) word;
      rest = drop len bytes;
      cut = cut_at bytes len;
      is = rw count (sym (some_is (token (what.Word word) len) found made.1));
      proper = ((made.0, refl), run_ends is_name_byte bytes);
      some = name_some word made.0;
    }

number_stands : (b : ℕ) (rest : List ℕ) (found : Front) → is_ascii_digit b ≡ true → front_number (b ∷ rest) ≡ Some found → Stands (b ∷ rest) found
unfolding front_number
number_stands b rest found digit h =
    let bytes = b ∷ rest in
    let len = prefix_len is_ascii_digit bytes in
    let digits = take len bytes in
    let made = some_chosen (nat_lt (number_of digits) (2 ^ 63)) (Some (token (what.Int (pos (number_of digits))) len)) found h in
    let count : length digits ≡ len = length-prefix_len is_ascii_digit bytes in
    let longer = run_some is_ascii_digit b rest digit in
    record {
      piece = Made (what.Int (pos (number_of digits))) digits;
      rest = drop len bytes;
      cut = cut_at bytes len;
      is = rw count (sym (some_is (token (what.Int (pos (number_of digits))) len) found made.1));
      proper = ((λ empty. absurd (omega (arith, ap length empty)), run_all is_ascii_digit bytes, ltb-true (number_of digits) (2 ^ 63) made.0, refl), run_ends is_ascii_digit bytes);
      some = omega arith;
    }

sign_made : (o : Option Sign) (found : Front) → sign_front o ≡ Some found
    → (sign : Sign) × (o ≡ Some sign) × (found ≡ token (what.Sign sign) (length (sign_text sign)))
sign_made None found h = absurd cc
sign_made (Some sign) found h = (sign, refl, sym (some_is (token (what.Sign sign) (length (sign_text sign))) found h))

sign_stands : (bytes : List ℕ) (found : Front) → front_sign bytes ≡ Some found → Stands bytes found
sign_stands bytes found h =
    let made = sign_made (first_sign bytes) found h in
    let first = IsFirstSign-from bytes made.0 made.1 in
    record {
      piece = Made (what.Sign made.0) (sign_text made.0);
      rest = drop (length (sign_text made.0)) bytes;
      cut = first.cut;
      is = made.2;
      proper = (refl, first.longest);
      some = first.some;
    }

-- what the first piece is where it is none of those before
abbrev not_word : ℕ → List ℕ → Option Front
not_word b rest = cond (is_ascii_digit b) (front_number (b ∷ rest)) (front_sign (b ∷ rest))

abbrev not_text : ℕ → List ℕ → Option Front
not_text b rest = cond (is_ascii_lowercase b) (front_word (b ∷ rest)) (not_word b rest)

abbrev not_comment : ℕ → List ℕ → Option Front
not_comment b rest = cond (b == 34) (front_text (b ∷ rest)) (not_text b rest)

abbrev not_blank : ℕ → List ℕ → Option Front
not_blank b rest = cond (b == 35) (front_comment (b ∷ rest)) (not_comment b rest)

pub Stands-from : (bytes : List ℕ) (found : Front) → front bytes ≡ Some found → Stands bytes found
unfolding front
Stands-from [] found h = absurd cc
Stands-from (b ∷ rest) found h =
    let bytes = b ∷ rest in
    elim (chosen (is_blank b) (Some (gap 1)) (not_blank b rest) (Some found) h) [
      | inl w ↦ blank_stands b rest found w.0 (some_is (gap 1) found w.1)
      | inr w ↦ elim (chosen (b == 35) (front_comment bytes) (not_comment b rest) (Some found) w.1) [
        | inl v ↦
            let is : b ≡ 35 = eqb-true b 35 v.0 in
            subst (λ (c : ℕ). Stands (c ∷ rest) found) (sym is) (comment_stands rest found (subst (λ (c : ℕ). front_comment (c ∷ rest) ≡ Some found) is v.1))
        | inr v ↦ elim (chosen (b == 34) (front_text bytes) (not_text b rest) (Some found) v.1) [
          | inl u ↦
              let is : b ≡ 34 = eqb-true b 34 u.0 in
              subst (λ (c : ℕ). Stands (c ∷ rest) found) (sym is) (text_stands rest found u.1)
          | inr u ↦ elim (chosen (is_ascii_lowercase b) (front_word bytes) (not_word b rest) (Some found) u.1) [
            | inl t ↦ word_stands bytes found t.1
            | inr t ↦ elim (chosen (is_ascii_digit b) (front_number bytes) (front_sign bytes) (Some found) t.1) [
              | inl s ↦ number_stands b rest found s.0 s.1
              | inr s ↦ sign_stands bytes found s.1
            ]
          ]
        ]
      ]
    ]

pub advances : (bytes : List ℕ) (found : Front) → front bytes ≡ Some found → Advances bytes found
advances bytes found h =
    let stands = Stands-from bytes found h in
    let len : found.len ≡ length (spelling_of stands.piece) = ap (λ (f : Front). f.len) stands.is in
    record {
      some = rw len stands.some;
      within = omega (arith, ap length stands.cut, length-append (spelling_of stands.piece) stands.rest);
    }

-- ---- and the other way

-- a letter begins a word, and a digit a number
letter_alone : (b : ℕ) → is_ascii_lowercase b ≡ true → (is_blank b ≡ false) × ((b == 35) ≡ false) × ((b == 34) ≡ false)
letter_alone b letter = grind (arith, nat_tests)

digit_alone : (b : ℕ) → is_ascii_digit b ≡ true → (is_blank b ≡ false) × ((b == 35) ≡ false) × ((b == 34) ≡ false) × (is_ascii_lowercase b ≡ false)
digit_alone b digit = grind (arith, nat_tests)

letter_is_name : (b : ℕ) → is_ascii_lowercase b ≡ true → is_name_byte b ≡ true
letter_is_name b letter = rw letter refl

no_feed_next : (rest : List ℕ) → (rest ≡ []) ⊎ (begins (λ b. b == 10) rest ≡ true) → begins is_no_feed rest ≡ false
no_feed_next [] h = refl
no_feed_next (b ∷ rest) (inl e) = absurd cc
no_feed_next (b ∷ rest) (inr e) = rw e refl

comment_found : (text rest : List ℕ) → list_all is_no_feed text ≡ true → begins is_no_feed rest ≡ false
    → front_comment (35 ∷ (text ++ rest)) ≡ Some (gap (length (35 ∷ text)))
unfolding front_comment
comment_found text rest all next =
    let len : 1 + prefix_len is_no_feed (text ++ rest) ≡ length (35 ∷ text) = omega (arith, run_is is_no_feed text rest all next) in
    ap (λ (n : ℕ). Some (gap n)) len

abbrev word_of : List ℕ → ℕ → Option Front
word_of bytes len = cond (is_name (take len bytes)) (Some (token (what.Word (take len bytes)) len)) None

word_found : (word rest : List ℕ) → is_name word ≡ true → list_all is_name_byte word ≡ true → begins is_name_byte rest ≡ false
    → front_word (word ++ rest) ≡ Some (token (what.Word word) (length word))
unfolding front_word
word_found word rest named all next =
    let at_end : word_of (word ++ rest) (length word) ≡ Some (token (what.Word word) (length word)) =
    rw (take_at word rest (length word) refl, named) refl in
    ap (word_of (word ++ rest)) (run_is is_name_byte word rest all next) ∙ at_end

abbrev number_from : List ℕ → ℕ → Option Front
number_from bytes len =
    let number = number_of (take len bytes) in cond (nat_lt number (2 ^ 63)) (Some (token (what.Int (pos number)) len)) None

number_found : (digits rest : List ℕ) → number_of digits < 2 ^ 63 → list_all is_ascii_digit digits ≡ true → begins is_ascii_digit rest ≡ false
    → front_number (digits ++ rest) ≡ Some (token (what.Int (pos (number_of digits))) (length digits))
unfolding front_number
number_found digits rest small all next =
    let at_end : number_from (digits ++ rest) (length digits) ≡ Some (token (what.Int (pos (number_of digits))) (length digits)) =
    rw (take_at digits rest (length digits) refl, lt-ltb (number_of digits) (2 ^ 63) small) refl in
    ap (number_from (digits ++ rest)) (run_is is_ascii_digit digits rest all next) ∙ at_end

text_found : (text rest : List ℕ) → IsText text → list_all stands_in_text text ≡ true
    → front_text (literal text ++ rest) ≡ Some (token (what.Text text) (length (literal text)))
text_found text rest proper fits =
    let spelled = flat_map escaped text in
    ap (λ (more : List ℕ). text_front (text_from false [] 1 more)) (append_assoc spelled (34 ∷ []) rest)
    ∙ ap text_front (literal_read text [] 1 rest fits)
    ∙ rw (is_text_true text proper) (ap (λ (n : ℕ). Some (token (what.Text text) n)) (omega (arith, length-append spelled (34 ∷ []))))

pub piece_found : (piece : Piece) (rest : List ℕ) → IsPiece piece rest → front (spelling_of piece ++ rest) ≡ Some (front_of piece)
unfolding front
piece_found (Blank b) rest proper = let blank : is_blank b ≡ true = proper in rw blank refl
piece_found (Comment text) rest proper = comment_found text rest proper.0 (no_feed_next rest proper.1)
piece_found (Made (what.Word name) []) rest proper = absurd (let named : is_name [] ≡ true = proper.0.0 in cc)
piece_found (Made (what.Word name) (b ∷ word)) rest proper =
    let named : is_name (b ∷ word) ≡ true = proper.0.0 in
    let parts = and_parts (nat_le (length (b ∷ word)) 64 && is_ascii_lowercase b) (list_all is_name_byte word) named in
    let letter = (and_parts (nat_le (length (b ∷ word)) 64) (is_ascii_lowercase b) parts.0).1 in
    let alone = letter_alone b letter in
    let all : list_all is_name_byte (b ∷ word) ≡ true = and_from (is_name_byte b) (list_all is_name_byte word) (letter_is_name b letter) parts.1 in
    rw (alone.0, alone.1, alone.2, letter)
    (word_found (b ∷ word) rest named all proper.1 ∙ ap (λ (n : List ℕ). Some (token (what.Word n) (length (b ∷ word)))) (sym proper.0.1))
piece_found (Made (what.Int number) []) rest proper = absurd (proper.0.0 refl)
piece_found (Made (what.Int number) (b ∷ digits)) rest proper =
    let all : list_all is_ascii_digit (b ∷ digits) ≡ true = proper.0.1 in
    let digit = (and_parts (is_ascii_digit b) (list_all is_ascii_digit digits) all).0 in
    let alone = digit_alone b digit in
    rw (alone.0, alone.1, alone.2, alone.3, digit)
    (number_found (b ∷ digits) rest proper.0.2 all proper.1 ∙ ap (λ (z : ℤ). Some (token (what.Int z) (length (b ∷ digits)))) (sym proper.0.3))
piece_found (Made (what.Text text) spelling) rest proper =
    subst (λ (s : List ℕ). front (s ++ rest) ≡ Some (front_of (Made (what.Text text) s))) (sym proper.0.2) (text_found text rest proper.0.0 proper.0.1)
piece_found (Made (what.Sign sign) spelling) rest proper =
    subst (λ (s : List ℕ). front (s ++ rest) ≡ Some (front_of (Made (what.Sign sign) s))) (sym proper.0)
    (sign_comes sign rest ∙ ap sign_front (first_sign_is sign rest proper.1))
