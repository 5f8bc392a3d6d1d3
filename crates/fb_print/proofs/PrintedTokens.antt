-- How the tokens of a canonical text are spelled.
use Rattle.std.proofs.Common.{◌≡◌, ◌≢◌, ℕ, ℤ, pos, ◌+◌, ◌-◌, ◌*◌, ◌<◌, ◌≤◌, ◌^◌, ◌⊎◌, Bool, true, false, List, [], ◌∷◌, ◌++◌, length, get_or, replicate, drop, rules, refl, sym, ap, ◌∙◌, subst, arith, inl, inr, length-append}
use Rattle.std.specs.Prelude.{fold}
use Rattle.std.specs.List.{list_all}
use Rattle.std.specs.Char.{is_ascii_digit, is_ascii_lowercase}
use Rattle.std.proofs.lemmas.Bool.{and_parts}
use Rattle.std.proofs.lemmas.Bool.Decides.{nat_tests}
use Rattle.std.specs.Fmt.{decimal, signed_decimal}
use Rattle.std.proofs.lemmas.Str.Parse.{IsNumeralModel, IsDigitsTest, FoldsDigits, numerals_by_fold}
use Rattle.std.proofs.lemmas.Fmt.{digits_decimal, digits_value-decimal, decimal_nonempty}
use Rattle.fb_base.specs.Name.{IsName, is_name_byte}
use Rattle.fb_base.specs.Front.{IsFrontOf}
use Rattle.fb_syntax.specs.declared.sign.Sign.{Sign}
use Rattle.fb_syntax.specs.declared.sign.Sign.TheVariants.{Assign, Equal, GreaterEqual, Plus, PlusPlus, Minus, Greater, Arrow, NotEqual, LessEqual}
use Rattle.fb_syntax.specs.declared.token.What.{What}
use Rattle.fb_syntax.specs.declared.token.What.TheVariants as what
use Rattle.fb_syntax.specs.Signs.{sign_text}
use Rattle.fb_syntax.specs.Tokens.{IsSpelling, IsLongest, begins, number_of}
use Rattle.fb_print.specs.Items.{Item, Token, Blank, Line, token_text, spelling}
use Rattle.fb_print.specs.Spelled.{item_tokens}
use Rattle.fb_print.proofs.Respelling.{CanBeSpelled, Each}
use Rattle.fb_print.proofs.Apart.{Class, Layout, Dash, Right, Joining, Solid, sign_class, token_class, class_of, may_follow}

-- ---- numbers

digits_test : IsDigitsTest (λ ds. list_all is_ascii_digit ds ≡ true)
digits_test = search rules

digits_folded : FoldsDigits (λ n ds. fold (λ m digit. m * 10 + (digit - 48)) n ds)
digits_folded = search rules

own_digits : IsNumeralModel (λ ds. list_all is_ascii_digit ds ≡ true) number_of
own_digits = numerals_by_fold (λ ds. list_all is_ascii_digit ds ≡ true) digits_test (λ n ds. fold (λ m digit. m * 10 + (digit - 48)) n ds) digits_folded

not_empty : (bytes : List ℕ) → 0 < length bytes → bytes ≢ []
not_empty bytes some = λ none. (let counted = ap length none in omega arith)

some_bytes : (bytes : List ℕ) → bytes ≢ [] → 0 < length bytes
some_bytes [] none = absurd (none refl)
some_bytes (b ∷ bytes) none = omega arith

int_spelling : (n : ℕ) → n < 2 ^ 63 → IsSpelling (what.Int (pos n)) (decimal n)
int_spelling n small =
    let fits : n < 2 ^ 64 = omega arith in
    let value : number_of (decimal n) ≡ n = digits_value-decimal own_digits n fits in
    (not_empty (decimal n) (decimal_nonempty n fits), digits_decimal own_digits n fits, omega (arith, value), ap pos (sym value))

-- what some bytes spell is spelled as it is printed
pub printed_spelling : (token : What) → CanBeSpelled token → IsSpelling token (token_text token)
printed_spelling (what.Word word) (bytes, (named, same)) = (subst IsName (sym same) named, refl)
printed_spelling (what.Int n) (bytes, (some, digits, small, is)) =
    subst (λ (m : ℤ). IsSpelling (what.Int m) (signed_decimal m)) (sym is) (int_spelling (number_of bytes) small)
printed_spelling (what.Text text) (bytes, (fits, escaped, is)) = (fits, escaped, refl)
printed_spelling (what.Sign s) (bytes, is) = refl

-- ---- what follows a token

-- the first byte of what follows, and the class by which it may follow
record FirstByte (bytes : List ℕ) (c : Class) : Type 0 where
  byte : ℕ
  more : List ℕ
  at : bytes ≡ byte ∷ more
  no_name : c ≢ Solid → is_name_byte byte ≡ false
  no_digit : c ≢ Solid → is_ascii_digit byte ≡ false
  joins : (byte ≡ 61) ⊎ (byte ≡ 43) → c ≡ Joining
  ends_arrow : byte ≡ 62 → (c ≡ Right) ⊎ (c ≡ Joining)

neither : (b : ℕ) → b ≢ 61 → b ≢ 43 → (b ≡ 61) ⊎ (b ≡ 43) → ⊥
neither b one other (inl h) = one h
neither b one other (inr h) = other h

-- a sign that no other ends with, but maybe `-`
free_first : (byte : ℕ) (rest : List ℕ) (c : Class) → is_name_byte byte ≡ false → is_ascii_digit byte ≡ false → byte ≢ 61 → byte ≢ 43 → byte ≢ 62 → FirstByte (byte ∷ rest) c
free_first byte rest c name digit equal plus greater =
    record {
      byte = byte;
      more = rest;
      at = refl;
      no_name = λ _. name;
      no_digit = λ _. digit;
      joins = λ h. absurd (neither byte equal plus h);
      ends_arrow = λ h. absurd (greater h);
    }

joining_first : (byte : ℕ) (rest : List ℕ) → is_name_byte byte ≡ false → is_ascii_digit byte ≡ false → FirstByte (byte ∷ rest) Joining
joining_first byte rest name digit =
    record {
      byte = byte;
      more = rest;
      at = refl;
      no_name = λ _. name;
      no_digit = λ _. digit;
      joins = λ _. refl;
      ends_arrow = λ _. inr refl;
    }

sign_first : (s : Sign) (more : List ℕ) → FirstByte (sign_text s ++ more) (sign_class s)
sign_first Assign more = joining_first 61 more refl refl
sign_first Equal more = joining_first 61 (61 ∷ more) refl refl
sign_first GreaterEqual more = joining_first 62 (61 ∷ more) refl refl
sign_first Plus more = joining_first 43 more refl refl
sign_first PlusPlus more = joining_first 43 (43 ∷ more) refl refl
sign_first Greater more =
    record {
      byte = 62;
      more = more;
      at = refl;
      no_name = λ _. refl;
      no_digit = λ _. refl;
      joins = λ h. absurd (neither 62 (omega arith) (omega arith) h);
      ends_arrow = λ _. inl refl;
    }
sign_first s more = free_first _ _ (sign_class s) refl refl (omega arith) (omega arith) (omega arith)

-- the first byte of a word, a number or a text
solid_first : (byte : ℕ) (rest : List ℕ) → byte ≢ 61 → byte ≢ 43 → byte ≢ 62 → FirstByte (byte ∷ rest) Solid
solid_first byte rest equal plus greater =
    record {
      byte = byte;
      more = rest;
      at = refl;
      no_name = λ other. absurd (other refl);
      no_digit = λ other. absurd (other refl);
      joins = λ h. absurd (neither byte equal plus h);
      ends_arrow = λ h. absurd (greater h);
    }

letter_least : (c : ℕ) → is_ascii_lowercase c ≡ true → 97 ≤ c
letter_least c h = grind (arith, nat_tests)

digit_range : (d : ℕ) → is_ascii_digit d ≡ true → (48 ≤ d) × (d ≤ 57)
digit_range d h = (grind (arith, nat_tests), grind (arith, nat_tests))

letter_first : (word more : List ℕ) → IsName word → FirstByte (word ++ more) Solid
letter_first [] more named = absurd (let no_way = named in cc)
letter_first (c ∷ rest) more named =
    let parts = and_parts _ (list_all is_name_byte rest) named in
    let least = letter_least c (and_parts _ (is_ascii_lowercase c) parts.0).1 in
    solid_first c (rest ++ more) (omega arith) (omega arith) (omega arith)

digit_first : (digits more : List ℕ) → 0 < length digits → list_all is_ascii_digit digits ≡ true → FirstByte (digits ++ more) Solid
digit_first [] more some all = absurd (omega arith)
digit_first (d ∷ rest) more some all =
    let range = digit_range d (and_parts (is_ascii_digit d) (list_all is_ascii_digit rest) all).0 in
    let least = range.0 in
    let most = range.1 in
    solid_first d (rest ++ more) (omega arith) (omega arith) (omega arith)

first_byte : (next : Item) (more : List ℕ) → Each CanBeSpelled (item_tokens next) → FirstByte (spelling next ++ more) (class_of next)
first_byte (Token (what.Word word)) more (known, _) = letter_first word more (printed_spelling (what.Word word) known).0
first_byte (Token (what.Int n)) more (known, _) =
    let spelled = printed_spelling (what.Int n) known in
    digit_first (signed_decimal n) more (some_bytes (signed_decimal n) spelled.0) spelled.1
first_byte (Token (what.Text text)) more known = solid_first 34 _ (omega arith) (omega arith) (omega arith)
first_byte (Token (what.Sign s)) more known = sign_first s more
first_byte Blank more known = free_first 32 more Layout refl refl (omega arith) (omega arith) (omega arith)
first_byte (Line depth) more known = free_first 10 (replicate (2 * depth) 32 ++ more) Layout refl refl (omega arith) (omega arith) (omega arith)

-- ---- no token is made longer by what may follow it

-- a front of two bytes and more is no longer than the sign, or begins with it
front_of_two : (a b : ℕ) (text rest more : List ℕ) → 1 ≤ length text → text ++ rest ≡ a ∷ b ∷ more → (2 ≤ length text) ⊎ ((text ≡ a ∷ []) × (rest ≡ b ∷ more))
front_of_two a b [] rest more some same = absurd (omega arith)
front_of_two a b (c ∷ []) rest more some same = inr (ap (λ l. get_or l 0 0 ∷ []) same, ap (drop 1) same)
front_of_two a b (c ∷ d ∷ text) rest more some same = inl (omega arith)

sign_some : (s : Sign) → 1 ≤ length (sign_text s)
sign_some Assign = omega arith
sign_some _ = omega arith

-- no sign is layout
sign_joins_nothing : (s : Sign) → may_follow (sign_class s) Joining ≡ true → ⊥
sign_joins_nothing Assign h = let no_way = h in cc
sign_joins_nothing _ h = let no_way = h in cc

dash_text : (s : Sign) → sign_text s ≡ 45 ∷ [] → sign_class s ≡ Dash
dash_text Minus h = refl
dash_text _ h = let first = ap (λ l. get_or l 0 0) h in let counted = ap length h in absurd (omega arith)

joining_refused : (s : Sign) (c : Class) → may_follow (sign_class s) c ≡ true → c ≡ Joining → ⊥
joining_refused s c may is = sign_joins_nothing s (subst (λ (k : Class). may_follow (sign_class s) k ≡ true) is may)

arrow_refused : (s : Sign) (c : Class) → sign_class s ≡ Dash → may_follow (sign_class s) c ≡ true → (c ≡ Right) ⊎ (c ≡ Joining) → ⊥
arrow_refused s c dash may (inl right) =
    let no_way = subst (λ (k : Class). may_follow k Right ≡ true) dash (subst (λ (k : Class). may_follow (sign_class s) k ≡ true) right may) in cc
arrow_refused s c dash may (inr joining) = joining_refused s c may joining

not_longer : (a b : ℕ) (s : Sign) (rest : List ℕ) (c : Class) → FirstByte rest c → may_follow (sign_class s) c ≡ true
    → (b ≡ 61) ⊎ (b ≡ 43) ⊎ ((a ≡ 45) × (b ≡ 62)) → (more : List ℕ) → sign_text s ≡ a ∷ [] → rest ≡ b ∷ more → ⊥
not_longer a b s rest c first may bytes more is follows =
    let byte : first.byte ≡ b = ap (λ l. get_or l 0 0) (sym first.at ∙ follows) in
    elim bytes [
      | inl equal ↦ joining_refused s c may (first.joins (inl (byte ∙ equal)))
      | inr other ↦ elim other [
        | inl plus ↦ joining_refused s c may (first.joins (inr (byte ∙ plus)))
        | inr arrow ↦ arrow_refused s c (dash_text s (is ∙ ap (λ n. n ∷ []) arrow.0)) may (first.ends_arrow (byte ∙ arrow.1))
      ]
    ]

-- a sign of two bytes, where it begins with a sign and with what follows that
longer_sign : (a b : ℕ) (s : Sign) (rest : List ℕ) (c : Class) → FirstByte rest c → may_follow (sign_class s) c ≡ true
    → (b ≡ 61) ⊎ (b ≡ 43) ⊎ ((a ≡ 45) × (b ≡ 62)) → (more : List ℕ) → sign_text s ++ rest ≡ a ∷ b ∷ more → 2 ≤ length (sign_text s)
longer_sign a b s rest c first may bytes more same =
    elim (front_of_two a b (sign_text s) rest more (sign_some s) same) [
      | inl two ↦ two
      | inr alone ↦ absurd (not_longer a b s rest c first may bytes more alone.0 alone.1)
    ]

sign_longest : (s longer : Sign) (rest : List ℕ) (c : Class) → FirstByte rest c → may_follow (sign_class s) c ≡ true
    → IsFrontOf (sign_text longer) (sign_text s ++ rest) → length (sign_text longer) ≤ length (sign_text s)
sign_longest s Arrow rest c first may (more, same) = longer_sign 45 62 s rest c first may (inr (inr (refl, refl))) more same
sign_longest s Equal rest c first may (more, same) = longer_sign 61 61 s rest c first may (inl refl) more same
sign_longest s NotEqual rest c first may (more, same) = longer_sign 33 61 s rest c first may (inl refl) more same
sign_longest s LessEqual rest c first may (more, same) = longer_sign 60 61 s rest c first may (inl refl) more same
sign_longest s GreaterEqual rest c first may (more, same) = longer_sign 62 61 s rest c first may (inl refl) more same
sign_longest s PlusPlus rest c first may (more, same) = longer_sign 43 43 s rest c first may (inr (inl refl)) more same
sign_longest s _ rest c first may front = sign_some s

not_solid : (c : Class) → may_follow Solid c ≡ true → c ≢ Solid
not_solid c may is = let no_way = subst (λ (k : Class). may_follow Solid k ≡ true) is may in cc

begins_not : (kind : ℕ → Bool) (bytes : List ℕ) (byte : ℕ) (more : List ℕ) → bytes ≡ byte ∷ more → kind byte ≡ false → begins kind bytes ≡ false
begins_not kind bytes byte more at no_kind = ap (begins kind) at ∙ no_kind

-- the token is the longest before such an item, whatever comes behind that
pub longest_before : (token : What) (next : Item) (more : List ℕ) → Each CanBeSpelled (item_tokens next) → may_follow (token_class token) (class_of next) ≡ true
    → IsLongest token (spelling next ++ more)
longest_before (what.Word word) next more known may =
    let first = first_byte next more known in
    begins_not is_name_byte (spelling next ++ more) first.byte first.more first.at (first.no_name (not_solid (class_of next) may))
longest_before (what.Int n) next more known may =
    let first = first_byte next more known in
    begins_not is_ascii_digit (spelling next ++ more) first.byte first.more first.at (first.no_digit (not_solid (class_of next) may))
longest_before (what.Text text) next more known may = tt
longest_before (what.Sign s) next more known may = λ longer front. sign_longest s longer (spelling next ++ more) (class_of next) (first_byte next more known) may front

-- and where nothing follows
pub longest_last : (token : What) → IsLongest token []
longest_last (what.Word word) = refl
longest_last (what.Int n) = refl
longest_last (what.Text text) = tt
longest_last (what.Sign s) = λ longer front. (
    let whole = ap length front.1 in
    omega (arith, whole, length-append (sign_text s) [], length-append (sign_text longer) front.0))
