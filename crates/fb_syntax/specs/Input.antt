-- What is left of a text's tokens.
use Rattle.std.specs.Prelude.{ℕ, Bool, false, List, [], ◌∷◌, drop, Option, Some, None}
use Rattle.fb_syntax.specs.declared.token.What.{What}
use Rattle.fb_syntax.specs.declared.token.Token.{Token}

pub record Input : Type 0 where
  pub left : List Token
  -- the length of the text
  pub end : ℕ
  -- the calls of this body so far
  pub calls : ℕ

-- all tokens of a text of this length
abbrev pub whole_input : List Token → ℕ → Input
whole_input tokens end = record { left = tokens; end = end; calls = 0 }

-- ---- the first token

abbrev pub place_of : List Token → ℕ → ℕ
place_of [] end = end
place_of (first ∷ rest) end = first.from

-- where the first token begins, or the text ends
abbrev pub place : Input → ℕ
place input = place_of input.left input.end

abbrev pub by_first : {A : Type 0} → List Token → A → (What → A) → A
by_first [] none some = none
by_first (first ∷ rest) none some = some first.what

abbrev pub first_what : Input → Option What
first_what input = by_first input.left None Some

-- whether the first token is of a kind
unfoldable pub comes : (What → Bool) → Input → Bool
comes kind input = by_first input.left false kind

-- what the first token stands for, if it stands for something
abbrev pub found_at : {A : Type 0} → (What → Option A) → Input → Option A
found_at find input = by_first input.left None find

-- what is left behind the first token
abbrev pub behind : Input → Input
behind input = record input { left = drop 1 input.left }
