-- Which token is of a kind.
use Rattle.std.proofs.Common.{◌≡◌, ℕ, true, false, Option, Some, None, List, refl, sym, ap, ◌∙◌, inl, inr}
use Rattle.std.specs.Option.{is_some}
use Rattle.fb_syntax.specs.declared.sign.Sign.{Sign}
use Rattle.fb_syntax.specs.declared.reserved.Reserved.{Reserved}
use Rattle.fb_syntax.specs.declared.token.What.{What}
use Rattle.fb_syntax.specs.declared.token.What.TheVariants as what
use Rattle.fb_syntax.specs.Keywords.{reserved_text, reserved_of, is_reserved}
use Rattle.fb_syntax.specs.TokenKinds.{is_word, is_sign, name_of}
use Rattle.fb_syntax.proofs.Choices.{chosen, some_is}
use Rattle.fb_syntax.proofs.Sameness.{bytes_same, sign_same}

pub sign_is : (sign : Sign) (token : What) → is_sign sign token ≡ true → token ≡ what.Sign sign
sign_is sign (what.Word found) h = absurd cc
sign_is sign (what.Int found) h = absurd cc
sign_is sign (what.Text found) h = absurd cc
sign_is sign (what.Sign found) h = ap (λ (s : Sign). what.Sign s) (sign_same found sign h)

-- the token is this reserved word
pub word_is : (w : Reserved) (token : What) → is_word w token ≡ true → token ≡ what.Word (reserved_text w)
word_is w (what.Word found) h = ap (λ (n : List ℕ). what.Word n) (bytes_same found (reserved_text w) h)
word_is w (what.Int found) h = absurd cc
word_is w (what.Text found) h = absurd cc
word_is w (what.Sign found) h = absurd cc

-- a name is no reserved word
pub none_from_name : (bytes : List ℕ) → is_reserved bytes ≡ false → reserved_of bytes ≡ None
none_from_name bytes h = no_word (reserved_of bytes) h
  where
    no_word : (found : Option Reserved) → is_some found ≡ false → found ≡ None
    no_word None h = refl
    no_word (Some word) h = absurd cc

-- the token is this name
pub name_is : (name : List ℕ) (token : What) → name_of token ≡ Some name → (token ≡ what.Word name) × (is_reserved name ≡ false)
name_is name (what.Word found) h =
    elim (chosen (is_reserved found) None (Some found) (Some name) h) [
      | inl w ↦ absurd (let no_way = w.1 in cc)
      | inr w ↦ (
          let same = some_is found name w.1 in
          (ap (λ (n : List ℕ). what.Word n) same, ap is_reserved (sym same) ∙ w.0))
    ]
name_is name (what.Int found) h = absurd cc
name_is name (what.Text found) h = absurd cc
name_is name (what.Sign found) h = absurd cc
