-- The canonical spelling of expressions. Binary operators have a space on each side, a comma has one after it, `not`
-- has one after it, and unary `-` has none: `--1` is two signs, since no sign begins with `--`.
use Rattle.std.specs.Prelude.{ℕ, Bool, true, false, Option, Some, None, List, [], ◌∷◌, ◌++◌}
use Rattle.std.specs.List.{join_by}
use Rattle.fb_base.specs.declared.kind.Kind.{Kind}
use Rattle.fb_base.specs.declared.kind.Kind.TheVariants as kind
use Rattle.fb_base.specs.declared.operator.Op2.{Op2}
use Rattle.fb_base.specs.declared.operator.Op2.TheVariants as op
use Rattle.fb_syntax.specs.declared.reserved.Reserved.{Reserved}
use Rattle.fb_syntax.specs.declared.reserved.Reserved.TheVariants as word
use Rattle.fb_syntax.specs.declared.sign.Sign.{Sign}
use Rattle.fb_syntax.specs.declared.sign.Sign.TheVariants as sign
use Rattle.fb_syntax.specs.Trees.{Expression, IntLiteral, TextLiteral, BoolLiteral, Variable, ListLiteral, Length, ItemAt, Negative, Not, Comparison, Chain, Conjunction, Disjunction, Injected, InjectedOn, Expressions, NoExpressions, AndExpressions, Links, NoLinks, AndLinks}
use Rattle.fb_syntax.specs.declared.levels.Level.{Level}
use Rattle.fb_syntax.specs.declared.levels.Level.TheVariants as level
use Rattle.fb_print.specs.Items.{Item, Blank, keyword, name, number, text, sign, comma_separated}
use Rattle.fb_syntax.specs.Levels.{chain_level, link_level}
use Rattle.fb_print.specs.Levels.{parenthesized, placed}

-- ---- words and signs

-- the sign before an operator's second operand
abbrev pub operator_sign : Op2 → Sign
operator_sign op.Add = sign.Plus
operator_sign op.Sub = sign.Minus
operator_sign op.Mul = sign.Star
operator_sign op.Div = sign.Slash
operator_sign op.Rem = sign.Percent
operator_sign op.Eq = sign.Equal
operator_sign op.Ne = sign.NotEqual
operator_sign op.Lt = sign.Less
operator_sign op.Le = sign.LessEqual
operator_sign op.Gt = sign.Greater
operator_sign op.Ge = sign.GreaterEqual
operator_sign op.Join = sign.PlusPlus
operator_sign op.At = sign.OpenBracket

abbrev pub bool_word : Bool → Reserved
bool_word true = word.True
bool_word false = word.False

-- `list<base>`
abbrev pub list_kind_items : List Item → List Item
list_kind_items base = keyword word.List ∷ sign sign.Less ∷ base ++ sign sign.Greater ∷ []

abbrev pub kind_items : Kind → List Item
kind_items kind.Int = keyword word.Int ∷ []
kind_items kind.Bool = keyword word.Bool ∷ []
kind_items kind.Text = keyword word.Text ∷ []
kind_items kind.Ints = list_kind_items (keyword word.Int ∷ [])
kind_items kind.Bools = list_kind_items (keyword word.Bool ∷ [])
kind_items kind.Texts = list_kind_items (keyword word.Text ∷ [])

abbrev pub operator_items : Op2 → List Item
operator_items operator = Blank ∷ sign (operator_sign operator) ∷ Blank ∷ []

-- the operands with a word between them
abbrev pub joined : Reserved → List (List Item) → List Item
joined by operands = join_by (λ operand. operand) (Blank ∷ keyword by ∷ Blank ∷ []) operands

abbrev pub bracketed : List Item → List Item
bracketed items = sign sign.OpenBracket ∷ items ++ sign sign.CloseBracket ∷ []

abbrev pub method_part : Option (List ℕ) → List Item
method_part None = []
method_part (Some method) = sign sign.Dot ∷ name method ∷ []

-- ---- expressions

unfoldable mutual
  -- without parentheses round the whole
  pub bare_items : Expression → List Item
  bare_items (IntLiteral n) = number n ∷ []
  bare_items (TextLiteral bytes) = text bytes ∷ []
  bare_items (BoolLiteral b) = keyword (bool_word b) ∷ []
  bare_items (Variable x) = name x ∷ []
  bare_items (ListLiteral base items) = list_kind_items (kind_items base) ++ bracketed (comma_separated (each_placed level.Expr items))
  bare_items (Length e) = keyword word.Len ∷ parenthesized (placed level.Expr e (bare_items e))
  bare_items (ItemAt list place) =
      placed level.Atom list (bare_items list) ++ bracketed (placed level.Expr place (bare_items place))
  bare_items (Negative e) = sign sign.Minus ∷ placed level.Unary e (bare_items e)
  bare_items (Not e) = keyword word.Not ∷ Blank ∷ placed level.Neg e (bare_items e)
  bare_items (Comparison operator left right) =
      placed level.Sum left (bare_items left) ++ operator_items operator ++ placed level.Sum right (bare_items right)
  bare_items (Chain first links) =
      let operand = link_level (chain_level links) in
      placed operand first (bare_items first) ++ links_items operand links
  bare_items (Conjunction operands) = joined word.And (each_placed level.Neg operands)
  bare_items (Disjunction operands) = joined word.Or (each_placed level.All operands)
  bare_items Injected = keyword word.Injected ∷ []
  bare_items (InjectedOn service method) = keyword word.InjectedOn ∷ Blank ∷ name service ∷ method_part method

  -- each in a place where the grammar reads this level
  pub each_placed : Level → Expressions → List (List Item)
  each_placed wanted NoExpressions = []
  each_placed wanted (AndExpressions e es) = placed wanted e (bare_items e) ∷ each_placed wanted es

  -- each operand behind its operator
  pub links_items : Level → Links → List Item
  links_items wanted NoLinks = []
  links_items wanted (AndLinks operator right links) =
      operator_items operator ++ placed wanted right (bare_items right) ++ links_items wanted links

-- where the grammar reads this level
abbrev pub expression_items : Level → Expression → List Item
expression_items wanted e = placed wanted e (bare_items e)
