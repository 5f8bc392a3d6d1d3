-- A canonical text is UTF-8.
use Rattle.std.proofs.Common.{◌≡◌, ◌≢◌, ℕ, zero, suc, ◌<◌, ◌*◌, ◌⊎◌, true, List, [], ◌∷◌, ◌++◌, replicate, refl, sym, subst, arith, inl, inr}
use Rattle.std.specs.Prelude.{IsUtf8}
use Rattle.std.specs.List.{flat_map, list_all}
use Rattle.std.specs.Str.{IsAscii, is_utf8, chars}
use Rattle.std.specs.Char.{is_ascii_digit}
use Rattle.std.specs.Fmt.{signed_decimal}
use Rattle.std.proofs.lemmas.Grind.{flat_map-append}
use Rattle.std.proofs.lemmas.Bool.{and_parts}
use Rattle.std.proofs.lemmas.Bool.Decides.{nat_tests, eqb_tells}
use Rattle.std.proofs.lemmas.Str.{IsUtf8-append, IsUtf8-nil, IsUtf8-from_ascii, IsUtf8-from_is_utf8, IsUtf8-encode}
use Rattle.std.proofs.lemmas.Str.Ascii.{IsAscii-nil, IsAscii-cons}
use lib.Utf8.{encode, encodes, scalar, scalars}
use Rattle.fb_syntax.specs.declared.sign.Sign.{Sign}
use Rattle.fb_syntax.specs.declared.sign.Sign.TheVariants.{Assign}
use Rattle.fb_syntax.specs.declared.token.What.{What}
use Rattle.fb_syntax.specs.declared.token.What.TheVariants as what
use Rattle.fb_syntax.specs.Signs.{sign_text}
use Rattle.fb_syntax.specs.Tokens.{escaped, literal}
use Rattle.fb_print.specs.Items.{Item, Token, Blank, Line, token_text, spelling, items_text}
use Rattle.fb_print.specs.Spelled.{item_tokens, tokens_of}
use Rattle.fb_base.proofs.Names.{IsName-utf8}
use Rattle.fb_print.proofs.Escapes.{plain_char}
use Rattle.fb_print.proofs.Respelling.{Each, front_each, back_each, CanBeSpelled}
use Rattle.fb_print.proofs.PrintedTokens.{printed_spelling}

-- ---- texts

ascii_byte : (b : ℕ) → b < 128 → IsUtf8 (b ∷ [])
ascii_byte b small = IsUtf8-from_ascii (b ∷ []) (IsAscii-cons b [] small IsAscii-nil)

same_or_other : (a b : ℕ) → (a ≡ b) ⊎ (a ≢ b)
same_or_other a b = elim (eqb_tells a b) [ inl h ↦ inl h.1 | inr h ↦ inr h.1 ]

escaped_concrete : (b : ℕ) → IsUtf8 (flat_map escaped (encode b)) → (c : ℕ) → c ≡ b → IsUtf8 (flat_map escaped (encode c))
escaped_concrete b utf8 c same = subst (λ (d : ℕ). IsUtf8 (flat_map escaped (encode d))) (sym same) utf8

plain_utf8 : (c : ℕ) → scalar c ≡ true → c ≢ 34 → c ≢ 92 → c ≢ 10 → c ≢ 9 → IsUtf8 (flat_map escaped (encode c))
plain_utf8 c is quote backslash feed tab = subst IsUtf8 (sym (plain_char c quote backslash feed tab)) (IsUtf8-encode c is)

escaped_char : (c : ℕ) → scalar c ≡ true → IsUtf8 (flat_map escaped (encode c))
unfolding is_utf8 chars encode
escaped_char c is =
    elim (same_or_other c 34) [
      | inl quote ↦ escaped_concrete 34 (IsUtf8-from_is_utf8 (92 ∷ 34 ∷ []) refl) c quote
      | inr not_quote ↦ elim (same_or_other c 92) [
        | inl backslash ↦ escaped_concrete 92 (IsUtf8-from_is_utf8 (92 ∷ 92 ∷ []) refl) c backslash
        | inr not_backslash ↦ elim (same_or_other c 10) [
          | inl feed ↦ escaped_concrete 10 (IsUtf8-from_is_utf8 (92 ∷ 110 ∷ []) refl) c feed
          | inr not_feed ↦ elim (same_or_other c 9) [
            | inl tab ↦ escaped_concrete 9 (IsUtf8-from_is_utf8 (92 ∷ 116 ∷ []) refl) c tab
            | inr not_tab ↦ plain_utf8 c is not_quote not_backslash not_feed not_tab
          ]
        ]
      ]
    ]

escaped_chars : (cs : List ℕ) → scalars cs ≡ true → IsUtf8 (flat_map escaped (encodes cs))
escaped_chars [] all = IsUtf8-nil
escaped_chars (c ∷ cs) all =
    let parts = and_parts (scalar c) (scalars cs) all in
    subst IsUtf8 (sym (flat_map-append escaped (encode c) (encodes cs)))
    (IsUtf8-append (flat_map escaped (encode c)) (flat_map escaped (encodes cs)) (escaped_char c parts.0) (escaped_chars cs parts.1))

literal_utf8 : (text : List ℕ) → IsUtf8 text → IsUtf8 (literal text)
literal_utf8 text (cs, (all, is)) =
    let inside = subst (λ (bytes : List ℕ). IsUtf8 (flat_map escaped bytes)) is (escaped_chars cs all) in
    let quote = ascii_byte 34 (omega arith) in
    IsUtf8-append (34 ∷ []) (flat_map escaped text ++ 34 ∷ []) quote (IsUtf8-append (flat_map escaped text) (34 ∷ []) inside quote)

-- ---- items

digits_ascii : (digits : List ℕ) → list_all is_ascii_digit digits ≡ true → IsAscii digits
digits_ascii [] all = IsAscii-nil
digits_ascii (d ∷ digits) all =
    let parts = and_parts (is_ascii_digit d) (list_all is_ascii_digit digits) all in
    IsAscii-cons d digits (let digit = parts.0 in grind (arith, nat_tests)) (digits_ascii digits parts.1)

sign_utf8 : (s : Sign) → IsUtf8 (sign_text s)
unfolding is_utf8 chars encode
sign_utf8 Assign = IsUtf8-from_is_utf8 (sign_text Assign) refl
sign_utf8 s = IsUtf8-from_is_utf8 (sign_text s) refl

token_utf8 : (token : What) → CanBeSpelled token → IsUtf8 (token_text token)
token_utf8 (what.Word word) known = IsName-utf8 word (printed_spelling (what.Word word) known).0
token_utf8 (what.Int n) known = IsUtf8-from_ascii (signed_decimal n) (digits_ascii (signed_decimal n) (printed_spelling (what.Int n) known).1)
token_utf8 (what.Text text) known = literal_utf8 text (printed_spelling (what.Text text) known).0.0
token_utf8 (what.Sign s) known = sign_utf8 s

blanks_ascii : (n : ℕ) → IsAscii (replicate n 32)
blanks_ascii zero = IsAscii-nil
blanks_ascii (suc n) = IsAscii-cons 32 (replicate n 32) (omega arith) (blanks_ascii n)

item_utf8 : (item : Item) → Each CanBeSpelled (item_tokens item) → IsUtf8 (spelling item)
item_utf8 (Token token) (known, _) = token_utf8 token known
item_utf8 Blank known = ascii_byte 32 (omega arith)
item_utf8 (Line depth) known = IsUtf8-from_ascii _ (IsAscii-cons 10 (replicate (2 * depth) 32) (omega arith) (blanks_ascii (2 * depth)))

pub text_utf8 : (items : List Item) → Each CanBeSpelled (tokens_of items) → IsUtf8 (items_text items)
text_utf8 [] known = IsUtf8-nil
text_utf8 (item ∷ items) known =
    IsUtf8-append (spelling item) (items_text items)
    (item_utf8 item (front_each CanBeSpelled (item_tokens item) (tokens_of items) known))
    (text_utf8 items (back_each CanBeSpelled (item_tokens item) (tokens_of items) known))
