-- Reading an expression. Of `(`, `[`, `not` and unary `-` only so many may be open at once.
use Rattle.std.specs.Prelude.{ℕ, zero, suc, ◌-◌, Bool, true, false, ◌||◌, if◌then◌else◌, List, ◌∷◌, [], Option, Some, None}
use Rattle.fb_base.specs.declared.kind.Kind.{Kind}
use Rattle.fb_base.specs.declared.operator.Op2.{Op2}
use Rattle.fb_syntax.specs.declared.sign.Sign.TheVariants as sign
use Rattle.fb_syntax.specs.declared.reserved.Reserved.{Reserved}
use Rattle.fb_syntax.specs.declared.reserved.Reserved.TheVariants as word
use Rattle.fb_syntax.specs.declared.levels.Junction.{Junction}
use Rattle.fb_syntax.specs.declared.levels.Junction.TheVariants as junction
use Rattle.fb_syntax.specs.declared.levels.Series.{Series}
use Rattle.fb_syntax.specs.declared.levels.Series.TheVariants as series
use Rattle.fb_syntax.specs.declared.token.What.{What}
use Rattle.fb_syntax.specs.declared.token.What.TheVariants as what
use Rattle.fb_syntax.specs.declared.parse_error.ParseWhy.{ParseWhy}
use Rattle.fb_syntax.specs.declared.parse_error.ParseWhy.TheVariants.{Unexpected, TooDeep, TooMany}
use Rattle.fb_syntax.specs.Keywords.{reserved_of}
use Rattle.fb_syntax.specs.Trees.{Expression, IntLiteral, TextLiteral, BoolLiteral, Variable, ListLiteral, Length, ItemAt, Negative, Not, Comparison, Chain, Injected, InjectedOn}
use Rattle.fb_syntax.specs.Views.{expressions_of, links_of, junction_of}
use Rattle.fb_syntax.specs.Limits.{longest_list}
use Rattle.fb_syntax.specs.Input.{Input, place, comes, first_what, found_at}
use Rattle.fb_syntax.specs.TokenKinds.{is_word, is_sign, by_sign, comparison_sign, series_operator, junction_word, base_of}
use Rattle.fb_syntax.specs.Reading.{Reading, ◌>>=◌, give, step, unexpected, too_many, taken, if_comes, want, name, open_level, open_sign, all_of, items}

-- ---- what an expression begins with

abbrev pub word_begins : Option Reserved → Bool
word_begins None = true
word_begins (Some word.True) = true
word_begins (Some word.False) = true
word_begins (Some word.Not) = true
word_begins (Some word.List) = true
word_begins (Some word.Len) = true
word_begins (Some word.Injected) = true
word_begins (Some word.InjectedOn) = true
word_begins (Some _) = false

-- whether an expression can begin with it
abbrev pub begins_expr : What → Bool
begins_expr (what.Int _) = true
begins_expr (what.Text _) = true
begins_expr (what.Word found) = word_begins (reserved_of found)
begins_expr (what.Sign found) = is_sign sign.OpenParen (what.Sign found) || is_sign sign.Minus (what.Sign found)

-- whether it opens an expression's operand
abbrev pub opens : What → Bool
opens token = is_word word.Not token || is_sign sign.OpenParen token || is_sign sign.Minus token

-- ---- what may still be opened

-- what is read at one depth
pub record Levels : Type 0 where
  pub expr : Reading Expression
  -- an operand of `not`
  pub neg : Reading Expression
  -- an operand of unary `-`
  pub unary : Reading Expression
  -- why an expression is refused that goes beyond a limit
  pub beyond : Input → ParseWhy

abbrev opens_too_much : Option Levels → Input → Bool
opens_too_much None input = comes opens input
opens_too_much (Some inner) input = false

unfoldable pub beyond_limit : Option Levels → Input → ParseWhy
beyond_limit deeper input =
    if comes begins_expr input then (if opens_too_much deeper input then TooDeep (place input) else TooMany (place input))
    else Unexpected (place input)

-- ---- operators and what they stand between

abbrev pub by_option : {A : Type 0} → Option Op2 → (Op2 → Reading A) → Reading A → Reading A
by_option None some none = none
by_option (Some o) some none = some o

-- goes by the operator that comes, if one does
abbrev pub by_operator : {A : Type 0} → (What → Option Op2) → (Op2 → Reading A) → Reading A → Reading A
by_operator operator some none input = by_option (found_at operator input) some none input

-- further operands, each behind an operator; so many there may be
unfoldable pub links : ℕ → (What → Option Op2) → Reading Expression → Reading (List (Op2 × Expression))
links zero operator operand = by_operator operator (λ _. too_many) (give [])
links (suc room) operator operand =
    by_operator operator
    (λ o. do
      _ ← step
      right ← operand
      rest ← links room operator operand
      give ((o, right) ∷ rest))
    (give [])

-- further operands, each behind the word that joins them
abbrev pub all_others : (What → Bool) → Reading Expression → Reading (List Expression)
all_others joint operand = all_of joint (step >>= λ _. operand)

-- ---- the grammar, from its atoms up

unfoldable pub base_kind : Reading Kind
base_kind input = taken (found_at base_of input) input

-- `list < base >`
unfoldable pub list_head : Reading Kind
list_head = do
  _ ← step
  _ ← want (is_sign sign.Less)
  base ← base_kind
  _ ← want (is_sign sign.Greater)
  give base

unfoldable pub injected_on : Reading Expression
injected_on = do
  _ ← step
  service ← name
  if_comes (is_sign sign.Dot)
      (do
        _ ← step
        method ← name
        give (InjectedOn service (Some method)))
      (give (InjectedOn service None))

-- operators of one level between operands
abbrev pub chained : (What → Option Op2) → Reading Expression → Reading Expression
chained operator operand = do
  first ← operand
  by_operator operator
      (λ _. do
        rest ← links (longest_list - 1) operator operand
        give (Chain first (links_of rest)))
      (give first)

-- operands with a word between them
abbrev pub joined_by : Junction → Reading Expression → Reading Expression
joined_by by operand = do
  first ← operand
  if_comes (is_word (junction_word by))
      (do
        rest ← all_others (is_word (junction_word by)) operand
        give (junction_of by (first ∷ rest)))
      (give first)

module _ (deeper : Option Levels) where
  unfoldable pub parenthesized : Reading Expression
  parenthesized = do
    inner ← open_sign sign.OpenParen deeper
    e ← inner.expr
    _ ← want (is_sign sign.CloseParen)
    give e

  unfoldable pub length_of : Reading Expression
  length_of = do
    _ ← step
    e ← parenthesized
    give (Length e)

  unfoldable pub list_literal : Reading Expression
  list_literal = do
    base ← list_head
    inner ← open_sign sign.OpenBracket deeper
    xs ← items longest_list sign.CloseBracket inner.beyond inner.expr
    _ ← want (is_sign sign.CloseBracket)
    give (ListLiteral base (expressions_of xs))

  -- by the word that comes, and the reserved word that it is
  unfoldable pub word_atom : List ℕ → Option Reserved → Reading Expression
  word_atom found None = do
    _ ← step
    give (Variable found)
  word_atom found (Some word.True) = do
    _ ← step
    give (BoolLiteral true)
  word_atom found (Some word.False) = do
    _ ← step
    give (BoolLiteral false)
  word_atom found (Some word.Injected) = do
    _ ← step
    give Injected
  word_atom found (Some word.InjectedOn) = injected_on
  word_atom found (Some word.Len) = length_of
  word_atom found (Some word.List) = list_literal
  word_atom found (Some _) = unexpected

  -- by the token that comes
  unfoldable pub atom_by : Option What → Reading Expression
  atom_by None = unexpected
  atom_by (Some (what.Int n)) = do
    _ ← step
    give (IntLiteral n)
  atom_by (Some (what.Text text)) = do
    _ ← step
    give (TextLiteral text)
  atom_by (Some (what.Sign _)) = parenthesized
  atom_by (Some (what.Word found)) = word_atom found (reserved_of found)

  unfoldable pub atom : Reading Expression
  atom input = atom_by (first_what input) input

  unfoldable pub post : Reading Expression
  post = do
    list ← atom
    if_comes (is_sign sign.OpenBracket)
        (do
          inner ← open_level deeper
          place ← inner.expr
          _ ← want (is_sign sign.CloseBracket)
          give (ItemAt list place))
        (give list)

  unfoldable pub unary : Reading Expression
  unary =
      if_comes (is_sign sign.Minus)
      (do
        inner ← open_level deeper
        e ← inner.unary
        give (Negative e))
      post

  unfoldable pub product : Reading Expression
  product = chained (series_operator series.Product) unary

  unfoldable pub sum : Reading Expression
  sum = chained (series_operator series.Sum) product

  unfoldable pub comparison : Reading Expression
  comparison = do
    left ← sum
    by_operator (by_sign comparison_sign)
        (λ o. do
          _ ← step
          right ← sum
          give (Comparison o left right))
        (give left)

  unfoldable pub neg : Reading Expression
  neg =
      if_comes (is_word word.Not)
      (do
        inner ← open_level deeper
        e ← inner.neg
        give (Not e))
      comparison

  unfoldable pub conjunction : Reading Expression
  conjunction = joined_by junction.And neg

  unfoldable pub expr : Reading Expression
  expr = joined_by junction.Or conjunction

  abbrev pub series_operand : Series → Reading Expression
  series_operand series.Sum = product
  series_operand series.Product = unary

  abbrev pub junction_operand : Junction → Reading Expression
  junction_operand junction.And = neg
  junction_operand junction.Or = conjunction

-- ---- by depth

abbrev pub levels_over : Option Levels → Levels
levels_over deeper = record { expr = expr deeper; neg = neg deeper; unary = unary deeper; beyond = beyond_limit deeper }

-- what is read behind a token that opens, where so many may be opened
unfoldable pub deeper_at : ℕ → Option Levels
deeper_at zero = None
deeper_at (suc depth) = Some (levels_over (deeper_at depth))

abbrev pub levels_at : ℕ → Levels
levels_at depth = levels_over (deeper_at depth)
