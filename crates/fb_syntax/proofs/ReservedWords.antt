-- The reserved word that bytes spell.
use Rattle.std.proofs.Common.{◌≡◌, ℕ, ◌<◌, true, false, Option, Some, None, List, [], ◌∷◌, length, drop, refl, ap, ◌∙◌, arith}
use Rattle.std.specs.Prelude.{bytes_eq}
use Rattle.std.specs.Option.{is_some}
use Rattle.fb_syntax.specs.declared.reserved.Reserved.{Reserved}
use Rattle.fb_syntax.specs.declared.reserved.Reserved.TheVariants as word
use Rattle.fb_syntax.specs.declared.token.What.{What}
use Rattle.fb_syntax.specs.declared.token.What.TheVariants as what
use Rattle.fb_syntax.specs.declared.token.Token.{Token}
use Rattle.fb_syntax.specs.Keywords.{reserved_text, all_reserved, reserved_of, is_reserved}
use Rattle.fb_syntax.specs.Input.{Input, behind, by_first, first_what, found_at, comes}
use Rattle.fb_syntax.specs.TokenKinds.{is_word}
use Rattle.fb_syntax.proofs.SignTexts.{first_found}
use Rattle.fb_syntax.proofs.Sameness.{bytes_same}

-- what is no reserved word is a name
pub name_from_none : (bytes : List ℕ) → reserved_of bytes ≡ None → is_reserved bytes ≡ false
name_from_none bytes h = ap is_some h

pub spelled_word : (bytes : List ℕ) (w : Reserved) → reserved_of bytes ≡ Some w → bytes_eq bytes (reserved_text w) ≡ true
unfolding reserved_of
spelled_word bytes w h = first_found (λ reserved. bytes_eq bytes (reserved_text reserved)) all_reserved w h

pub reserved_again : (w : Reserved) → reserved_of (reserved_text w) ≡ Some w
unfolding reserved_of
reserved_again word.Service = refl
reserved_again word.Method = refl
reserved_again word.Test = refl
reserved_again word.Let = refl
reserved_again word.If = refl
reserved_again word.Else = refl
reserved_again word.Repeat = refl
reserved_again word.For = refl
reserved_again word.In = refl
reserved_again word.Break = refl
reserved_again word.Return = refl
reserved_again word.Fail = refl
reserved_again word.Call = refl
reserved_again word.On = refl
reserved_again word.Any = refl
reserved_again word.Assert = refl
reserved_again word.Injected = refl
reserved_again word.InjectedOn = refl
reserved_again word.And = refl
reserved_again word.Or = refl
reserved_again word.Not = refl
reserved_again word.True = refl
reserved_again word.False = refl
reserved_again word.Int = refl
reserved_again word.Bool = refl
reserved_again word.Text = refl
reserved_again word.List = refl
reserved_again word.Len = refl

-- the bytes of a word are that word
pub word_again : (bytes : List ℕ) (w : Reserved) → bytes_eq bytes (reserved_text w) ≡ true → reserved_of bytes ≡ Some w
word_again bytes w h = ap reserved_of (bytes_same bytes (reserved_text w) h) ∙ reserved_again w

word_in : (w : Reserved) (bytes : List ℕ) (left : List Token) → by_first left None Some ≡ Some (what.Word bytes) → bytes_eq bytes (reserved_text w) ≡ true → by_first left false (is_word w) ≡ true
word_in w bytes [] first h = absurd (let no_way = first in cc)
word_in w bytes (t ∷ rest) first h =
    let is : t.what ≡ what.Word bytes = cc in
    ap (is_word w) is ∙ h

-- where the word comes
pub word_came : (w : Reserved) (bytes : List ℕ) (input : Input) → first_what input ≡ Some (what.Word bytes) → reserved_of bytes ≡ Some w → comes (is_word w) input ≡ true
unfolding comes
word_came w bytes input first h = word_in w bytes input.left first (spelled_word bytes w h)

first_as : {A : Type 0} (thing : What → Option A) (w : What) (left : List Token) → by_first left None Some ≡ Some w → by_first left None thing ≡ thing w
first_as thing w [] first = absurd (let no_way = first in cc)
first_as thing w (t ∷ rest) first = let is : t.what ≡ w = cc in ap thing is

-- what the first token stands for
pub first_stands : {A : Type 0} (thing : What → Option A) (w : What) (input : Input) → first_what input ≡ Some w → found_at thing input ≡ thing w
first_stands thing w input first = first_as thing w input.left first

less_behind : (w : What) (left : List Token) → by_first left None Some ≡ Some w → length (drop 1 left) < length left
less_behind w [] first = absurd (let no_way = first in cc)
less_behind w (t ∷ rest) first = omega arith

-- where a token comes, one less is left behind it
pub first_shorter : (w : What) (input : Input) → first_what input ≡ Some w → length (behind input).left < length input.left
first_shorter w input first = less_behind w input.left first
