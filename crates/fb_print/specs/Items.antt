-- What a canonical text is made of: its tokens, and the layout between them.
use Rattle.std.specs.Prelude.{ℕ, ◌*◌, ℤ, List, [], ◌∷◌, ◌++◌, replicate, codes}
use Rattle.std.specs.List.{flat_map, join_by}
use Rattle.std.specs.Fmt.{signed_decimal}
use Rattle.fb_syntax.specs.declared.reserved.Reserved.{Reserved}
use Rattle.fb_syntax.specs.declared.sign.Sign.{Sign}
use Rattle.fb_syntax.specs.declared.sign.Sign.TheVariants.{Comma}
use Rattle.fb_syntax.specs.declared.token.What.{What}
use Rattle.fb_syntax.specs.declared.token.What.TheVariants as what
use Rattle.fb_syntax.specs.Keywords.{reserved_text}
use Rattle.fb_syntax.specs.Signs.{sign_text}
use Rattle.fb_syntax.specs.Tokens.{literal}

pub data Item : Type 0 where
  Token : What → Item
  -- one space
  Blank : Item
  -- the end of a line, and the indentation of the next one by so many levels
  Line : ℕ → Item

-- numbers have no leading zeros, and of a text only `"`, `\`, LF and tab are escaped
abbrev pub token_text : What → List ℕ
token_text (what.Word word) = word
token_text (what.Int number) = signed_decimal number
token_text (what.Text text) = literal text
token_text (what.Sign sign) = sign_text sign

-- two spaces a level
abbrev pub spelling : Item → List ℕ
spelling (Token token) = token_text token
spelling Blank = codes " "
spelling (Line levels) = codes "\n" ++ replicate (2 * levels) 32

abbrev pub items_text : List Item → List ℕ
items_text items = flat_map spelling items

-- ---- the tokens by what they are

abbrev pub keyword : Reserved → Item
keyword reserved = Token (what.Word (reserved_text reserved))

abbrev pub name : List ℕ → Item
name bytes = Token (what.Word bytes)

abbrev pub number : ℤ → Item
number n = Token (what.Int n)

abbrev pub text : List ℕ → Item
text bytes = Token (what.Text bytes)

abbrev pub sign : Sign → Item
sign s = Token (what.Sign s)

-- the things with a comma and a space between them
abbrev pub comma_separated : List (List Item) → List Item
comma_separated things = join_by (λ thing. thing) (sign Comma ∷ Blank ∷ []) things
