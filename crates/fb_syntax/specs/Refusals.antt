-- Where the parser refuses a text, in the words of the grammar.
use Rattle.std.specs.Prelude.{◌≡◌, ℕ, List, [], ◌∷◌, ◌++◌, length, Option, Some, None, ◌⊎◌, Err}
use Rattle.fb_syntax.specs.declared.token.Token.{Token}
use Rattle.fb_syntax.specs.declared.parse_error.ParseWhy.{ParseWhy}
use Rattle.fb_syntax.specs.declared.parse_error.ParseWhy.TheVariants.{Unexpected, TooDeep, TooMany}
use Rattle.fb_syntax.specs.Tokens.{HasTokens}
use Rattle.fb_syntax.specs.Lexing.{lexed}
use Rattle.fb_syntax.specs.Spans.{Spelling}
use Rattle.fb_syntax.specs.FileGrammar.{HasTree}

-- the place of a refusal by the parser; the lexer has other causes
abbrev pub parser_place : ParseWhy → Option ℕ
parser_place (Unexpected at) = Some at
parser_place (TooDeep at) = Some at
parser_place (TooMany at) = Some at
parser_place _ = None

-- some text that has a tree begins with these tokens
abbrev pub Begins : {Tree : Type 0} → Spelling Tree → List Token → Type 0
Begins {Tree} Spells tokens = (bytes : List ℕ) × (more : List Token) × (tree : Tree) × HasTokens bytes (tokens ++ more) × HasTree Spells bytes tree

-- Of the text's tokens the first of these that are left begins at this place, and with it those before it begin no text
-- that has a tree; where none is left, the text ends there.
pub record IsRefusedAt {Tree : Type 0} (Spells : Spelling Tree) (bytes : List ℕ) (at : ℕ) : Type 0 where
  pub before : List Token
  pub left : List Token
  pub cut : HasTokens bytes (before ++ left)
  pub token : (first : Token) (more : List Token) → left ≡ first ∷ more → (at ≡ first.from) × (¬ Begins Spells (before ++ first ∷ []))
  pub end : left ≡ [] → at ≡ length bytes

-- by the lexer, or by the parser at such a place
abbrev pub IsRefused : {Tree : Type 0} → Spelling Tree → List ℕ → ParseWhy → Type 0
IsRefused Spells bytes why =
    ((lexed bytes ≡ Err why) × (parser_place why ≡ None)) ⊎ ((at : ℕ) × (parser_place why ≡ Some at) × IsRefusedAt Spells bytes at)
