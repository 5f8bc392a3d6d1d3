-- What the grammar reads at each level, and the tokens that items have.
use Rattle.std.specs.Prelude.{◌≡◌, ℕ, List, [], ◌∷◌, Some}
use Rattle.std.specs.List.{flat_map}
use Rattle.fb_syntax.specs.declared.token.What.{What}
use Rattle.fb_syntax.specs.Trees.{Expression}
use Rattle.fb_syntax.specs.Input.{Input, first_what, behind}
use Rattle.fb_syntax.specs.Spans.{Spelling}
use Rattle.fb_syntax.specs.ExpressionGrammar as grammar
use Rattle.fb_syntax.specs.ExpressionGrammar.{Spellings, spelled_below}
use Rattle.fb_syntax.specs.declared.levels.Level.{Level}
use Rattle.fb_syntax.specs.declared.levels.Level.TheVariants as level
use Rattle.fb_print.specs.Items.{Item, Token, Blank, Line}

abbrev pub item_tokens : Item → List What
item_tokens (Token token) = token ∷ []
item_tokens Blank = []
item_tokens (Line depth) = []

-- without the layout
abbrev pub tokens_of : List Item → List What
tokens_of items = flat_map item_tokens items

-- these tokens come first, and the rest is behind them
abbrev pub Begins : List What → Input → Input → Type 0
Begins [] start rest = start ≡ rest
Begins (token ∷ tokens) start rest = (first_what start ≡ Some token) × Begins tokens (behind start) rest

-- over what is spelled behind a token that opens
abbrev pub Within : Level → Spellings → Spelling Expression
Within level.Expr deeper = grammar.Expr deeper
Within level.All deeper = grammar.All deeper
Within level.Neg deeper = grammar.Neg deeper
Within level.Compared deeper = grammar.Compared deeper
Within level.Sum deeper = grammar.Sum deeper
Within level.Product deeper = grammar.Product deeper
Within level.Unary deeper = grammar.Unary deeper
Within level.Post deeper = grammar.Post deeper
Within level.Atom deeper = grammar.Atom deeper

-- the grammar reads the expression at this level, where so many may be opened
abbrev pub Reads : Level → ℕ → Spelling Expression
Reads wanted depth = Within wanted (spelled_below depth)
