-- Which tokens an expression begins with, and which can't go on with one.
use Rattle.std.proofs.Common.{◌≡◌, ℕ, Bool, true, false, Option, Some, None, List, refl, sym, ap, ◌∙◌}
use Rattle.std.specs.Prelude.{◌||◌, ℤ, bytes_eq}
use Rattle.fb_base.specs.declared.operator.Op2.{Op2}
use Rattle.fb_syntax.specs.declared.sign.Sign.{Sign}
use Rattle.fb_syntax.specs.declared.sign.Sign.TheVariants as sign
use Rattle.fb_syntax.specs.declared.reserved.Reserved.{Reserved}
use Rattle.fb_syntax.specs.declared.reserved.Reserved.TheVariants as word
use Rattle.fb_syntax.specs.declared.token.What.{What}
use Rattle.fb_syntax.specs.declared.token.What.TheVariants as what
use Rattle.fb_syntax.specs.Keywords.{reserved_of, reserved_text}
use Rattle.fb_syntax.specs.TokenKinds.{is_word, is_sign, name_of, by_sign, comparison_sign, sum_sign, product_sign, int_of, content_of}
use Rattle.fb_syntax.specs.ExpressionGrammar.{goes_on_post, goes_on_product, goes_on_sum}
use Rattle.fb_syntax.proofs.ReservedWords.{word_again}
use Rattle.fb_syntax.proofs.TokensOfKind.{sign_is, word_is, name_is, none_from_name}
use Rattle.fb_syntax.proofs.Complete.{Differ}

-- ---- no operator goes on with an operand

product_next : (s : Sign) (o : Op2) → product_sign s ≡ Some o → goes_on_post (what.Sign s) ≡ false
product_next sign.Dot o h = absurd cc
product_next sign.OpenBracket o h = absurd cc
product_next _ o h = refl

sum_next : (s : Sign) (o : Op2) → sum_sign s ≡ Some o → goes_on_product (what.Sign s) ≡ false
sum_next sign.Dot o h = absurd cc
sum_next sign.OpenBracket o h = absurd cc
sum_next sign.Star o h = absurd cc
sum_next sign.Slash o h = absurd cc
sum_next sign.Percent o h = absurd cc
sum_next _ o h = refl

comparison_next : (s : Sign) (o : Op2) → comparison_sign s ≡ Some o → goes_on_sum (what.Sign s) ≡ false
comparison_next sign.Dot o h = absurd cc
comparison_next sign.OpenBracket o h = absurd cc
comparison_next sign.Star o h = absurd cc
comparison_next sign.Slash o h = absurd cc
comparison_next sign.Percent o h = absurd cc
comparison_next sign.Plus o h = absurd cc
comparison_next sign.PlusPlus o h = absurd cc
comparison_next sign.Minus o h = absurd cc
comparison_next _ o h = refl

by_sign_next : (operator : Sign → Option Op2) (goes_on : What → Bool) → ((s : Sign) (o : Op2) → operator s ≡ Some o → goes_on (what.Sign s) ≡ false)
    → (token : What) (o : Op2) → by_sign operator token ≡ Some o → goes_on token ≡ false
by_sign_next operator goes_on next (what.Sign s) o h = next s o h
by_sign_next operator goes_on next (what.Word found) o h = absurd cc
by_sign_next operator goes_on next (what.Int found) o h = absurd cc
by_sign_next operator goes_on next (what.Text found) o h = absurd cc

pub product_operator_next : (token : What) (o : Op2) → by_sign product_sign token ≡ Some o → goes_on_post token ≡ false
product_operator_next = by_sign_next product_sign goes_on_post product_next

pub sum_operator_next : (token : What) (o : Op2) → by_sign sum_sign token ≡ Some o → goes_on_product token ≡ false
sum_operator_next = by_sign_next sum_sign goes_on_product sum_next

pub comparison_operator_next : (token : What) (o : Op2) → by_sign comparison_sign token ≡ Some o → goes_on_sum token ≡ false
comparison_operator_next = by_sign_next comparison_sign goes_on_sum comparison_next

-- ---- what an atom, an operand and an expression begin with

abbrev atom_word : Option Reserved → Bool
atom_word None = true
atom_word (Some word.True) = true
atom_word (Some word.False) = true
atom_word (Some word.Injected) = true
atom_word (Some word.InjectedOn) = true
atom_word (Some word.Len) = true
atom_word (Some word.List) = true
atom_word (Some _) = false

abbrev pub begins_atom : What → Bool
begins_atom (what.Int _) = true
begins_atom (what.Text _) = true
begins_atom (what.Word found) = atom_word (reserved_of found)
begins_atom (what.Sign found) = is_sign sign.OpenParen (what.Sign found)

abbrev pub begins_unary : What → Bool
begins_unary token = begins_atom token || is_sign sign.Minus token

abbrev pub begins_neg : What → Bool
begins_neg token = begins_unary token || is_word word.Not token

pub int_begins : (n : ℤ) (token : What) → int_of token ≡ Some n → begins_atom token ≡ true
int_begins n (what.Int found) h = refl
int_begins n (what.Text found) h = absurd cc
int_begins n (what.Word found) h = absurd cc
int_begins n (what.Sign found) h = absurd cc

pub text_begins : (text : List ℕ) (token : What) → content_of token ≡ Some text → begins_atom token ≡ true
text_begins text (what.Text found) h = refl
text_begins text (what.Int found) h = absurd cc
text_begins text (what.Word found) h = absurd cc
text_begins text (what.Sign found) h = absurd cc

pub name_begins : (name : List ℕ) (token : What) → name_of token ≡ Some name → begins_atom token ≡ true
name_begins name token h =
    let is = name_is name token h in
    ap begins_atom is.0 ∙ ap atom_word (none_from_name name is.1)

pub paren_begins : (token : What) → is_sign sign.OpenParen token ≡ true → begins_atom token ≡ true
paren_begins token h = ap begins_atom (sign_is sign.OpenParen token h)

word_text_begins : (w : Reserved) (token : What) → atom_word (Some w) ≡ true → is_word w token ≡ true → begins_atom token ≡ true
word_text_begins w (what.Word found) atom h = ap atom_word (word_again found w h) ∙ atom
word_text_begins w (what.Int found) atom h = refl
word_text_begins w (what.Text found) atom h = refl
word_text_begins w (what.Sign found) atom h = absurd cc

pub word_begins_atom : (w : Reserved) → atom_word (Some w) ≡ true → (token : What) → is_word w token ≡ true → begins_atom token ≡ true
word_begins_atom w atom token h = word_text_begins w token atom h

pub atom_is_unary : (token : What) → begins_atom token ≡ true → begins_unary token ≡ true
atom_is_unary token h = ap (λ b. b || is_sign sign.Minus token) h

or_right : (a b : Bool) → b ≡ true → (a || b) ≡ true
or_right true b h = refl
or_right false b h = h

pub minus_is_unary : (token : What) → is_sign sign.Minus token ≡ true → begins_unary token ≡ true
minus_is_unary token h = or_right (begins_atom token) (is_sign sign.Minus token) h

pub unary_is_neg : (token : What) → begins_unary token ≡ true → begins_neg token ≡ true
unary_is_neg token h = ap (λ b. b || is_word word.Not token) h

pub not_is_neg : (token : What) → is_word word.Not token ≡ true → begins_neg token ≡ true
not_is_neg token h = or_right (begins_unary token) (is_word word.Not token) h

-- ---- what it doesn't begin with

-- a kind that excludes another
excluded : (a b : Bool) → (b ≡ true → a ≡ false) → a ≡ true → b ≡ false
excluded a true no_way h = absurd (let false_too = no_way refl in cc)
excluded a false no_way h = refl

pub atom_not_minus : Differ begins_atom (is_sign sign.Minus)
atom_not_minus token h = excluded (begins_atom token) (is_sign sign.Minus token) (λ minus. ap begins_atom (sign_is sign.Minus token minus)) h

not_begins : (token : What) → is_word word.Not token ≡ true → begins_unary token ≡ false
not_begins (what.Word found) h = ap (λ o. atom_word o || false) (word_again found word.Not h)
not_begins (what.Int found) h = absurd cc
not_begins (what.Text found) h = absurd cc
not_begins (what.Sign found) h = absurd cc

pub unary_not_not : Differ begins_unary (is_word word.Not)
unary_not_not token h = excluded (begins_unary token) (is_word word.Not token) (not_begins token) h

-- a sign, or a reserved word, that isn't of a kind
pub not_sign : (kind : What → Bool) (s : Sign) → kind (what.Sign s) ≡ false → Differ kind (is_sign s)
not_sign kind s none token h = excluded (kind token) (is_sign s token) (λ is. ap kind (sign_is s token is) ∙ none) h

pub not_word : (kind : What → Bool) (w : Reserved) → kind (what.Word (reserved_text w)) ≡ false → Differ kind (is_word w)
not_word kind w none token h = excluded (kind token) (is_word w token) (λ is. ap kind (word_is w token is) ∙ none) h

pub sign_apart : (s : Sign) (other : What → Bool) → other (what.Sign s) ≡ false → Differ (is_sign s) other
sign_apart s other none token h = ap other (sign_is s token h) ∙ none

pub word_apart : (w : Reserved) (other : What → Bool) → other (what.Word (reserved_text w)) ≡ false → Differ (is_word w) other
word_apart w other none token h = ap other (word_is w token h) ∙ none

-- ---- names and reserved words

-- a name is no reserved word
pub name_not_word : (w : Reserved) (name : List ℕ) (token : What) → name_of token ≡ Some name → is_word w token ≡ false
name_not_word w name token h =
    let is = name_is name token h in
    ap (is_word w) is.0 ∙ no_word w name (bytes_eq name (reserved_text w)) refl (none_from_name name is.1)
  where
    no_word : (w : Reserved) (name : List ℕ) (same : Bool) → bytes_eq name (reserved_text w) ≡ same → reserved_of name ≡ None → bytes_eq name (reserved_text w) ≡ false
    no_word w name true is none = absurd (let some = sym (word_again name w is) ∙ none in cc)
    no_word w name false is none = is
