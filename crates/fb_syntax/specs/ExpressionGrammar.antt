-- Which tokens spell an expression. Of `(`, `[`, `not` and unary `-` only so many are open at once.
use Rattle.std.specs.Option.{is_some}
use Rattle.std.specs.Prelude.{ℕ, zero, suc, ◌-◌, Bool, true, false, ◌||◌, List, ◌∷◌, Option, Some, None}
use Rattle.fb_base.specs.declared.kind.Kind.{Kind}
use Rattle.fb_base.specs.declared.operator.Op2.{Op2}
use Rattle.fb_syntax.specs.declared.sign.Sign.TheVariants as sign
use Rattle.fb_syntax.specs.declared.reserved.Reserved.TheVariants as word
use Rattle.fb_syntax.specs.declared.levels.Junction.{Junction}
use Rattle.fb_syntax.specs.declared.levels.Junction.TheVariants as junction
use Rattle.fb_syntax.specs.declared.levels.Series.TheVariants as series
use Rattle.fb_syntax.specs.declared.token.What.{What}
use Rattle.fb_syntax.specs.Trees.{Expression, IntLiteral, TextLiteral, BoolLiteral, Variable, ListLiteral, Length, ItemAt, Negative, Not, Comparison, Chain, Injected, InjectedOn}
use Rattle.fb_syntax.specs.Views.{expressions_of, links_of, junction_of}
use Rattle.fb_syntax.specs.TokenKinds.{is_word, is_sign, name_of, int_of, content_of, by_sign, comparison_sign, series_operator, base_of, junction_word}
use Rattle.fb_syntax.specs.Limits.{longest_list}
use Rattle.fb_syntax.specs.Spans.{Spelling, As, Is, Or, Pair, Behind, Between, Made, Many, AtLeast, AtMost, Listed}

-- the tokens that can go on with what is spelled before them: with an atom's `injected_on s`, with an item's list,
-- with the operands of each level of operators
abbrev pub goes_on_atom : What → Bool
goes_on_atom = is_sign sign.Dot

abbrev pub goes_on_post : What → Bool
goes_on_post token = goes_on_atom token || is_sign sign.OpenBracket token

abbrev pub goes_on_product : What → Bool
goes_on_product token = goes_on_post token || is_some (series_operator series.Product token)

abbrev pub goes_on_sum : What → Bool
goes_on_sum token = goes_on_product token || is_some (series_operator series.Sum token)

abbrev pub goes_on_comparison : What → Bool
goes_on_comparison token = goes_on_sum token || is_some (by_sign comparison_sign token)

abbrev pub goes_on_all : What → Bool
goes_on_all token = goes_on_comparison token || is_word word.And token

abbrev pub goes_on_expr : What → Bool
goes_on_expr token = goes_on_all token || is_word word.Or token

-- what is spelled at one depth
pub record Spellings : Type 1 where
  pub Expr : Spelling Expression
  -- an operand of `not`
  pub Neg : Spelling Expression
  -- an operand of unary `-`
  pub Unary : Spelling Expression
  -- the items of a list literal
  pub Items : Spelling (List Expression)

-- operators of one level between operands
abbrev pub Chained : (What → Option Op2) → Spelling Expression → Spelling Expression
Chained operator Operand =
    Or Operand
    (Made (λ p. Chain p.0 (links_of p.1)) (Pair Operand (AtLeast 1 (AtMost (longest_list - 1) (Many (Pair (As operator) Operand))))))

-- operands with a word between them
abbrev pub Joined : Junction → Spelling Expression → Spelling Expression
Joined by Operand =
    Or Operand
    (Made (λ p. junction_of by (p.0 ∷ p.1)) (Pair Operand (AtLeast 1 (Many (Behind (is_word (junction_word by)) Operand)))))

-- `injected_on s` and `injected_on s.m`
abbrev pub InjectedOnAtom : Spelling Expression
InjectedOnAtom =
    Behind (is_word word.InjectedOn)
    (Or (Made (λ s. InjectedOn s None) (As name_of))
    (Made (λ p. InjectedOn p.0 (Some p.1)) (Pair (As name_of) (Behind (is_sign sign.Dot) (As name_of)))))

-- `list < base >`
abbrev pub ListHead : Spelling Kind
ListHead = Behind (is_word word.List) (Between (is_sign sign.Less) (As base_of) (is_sign sign.Greater))

-- over what is spelled behind a token that opens
module _ (deeper : Spellings) where
  abbrev pub Parenthesized : Spelling Expression
  Parenthesized = Between (is_sign sign.OpenParen) deeper.Expr (is_sign sign.CloseParen)

  -- behind the head of a list literal
  abbrev pub ListItems : Spelling (List Expression)
  ListItems = Between (is_sign sign.OpenBracket) deeper.Items (is_sign sign.CloseBracket)

  abbrev pub WordAtom : Spelling Expression
  WordAtom =
      Or (Made Variable (As name_of))
      (Or (Is (is_word word.True) (BoolLiteral true))
      (Or (Is (is_word word.False) (BoolLiteral false))
      (Or (Is (is_word word.Injected) Injected)
      (Or InjectedOnAtom
      (Or (Made Length (Behind (is_word word.Len) Parenthesized))
      (Made (λ p. ListLiteral p.0 (expressions_of p.1)) (Pair ListHead ListItems)))))))

  abbrev pub Atom : Spelling Expression
  Atom = Or (Made IntLiteral (As int_of)) (Or (Made TextLiteral (As content_of)) (Or Parenthesized WordAtom))

  abbrev pub Post : Spelling Expression
  Post =
      Or Atom
      (Made (λ p. ItemAt p.0 p.1) (Pair Atom (Between (is_sign sign.OpenBracket) deeper.Expr (is_sign sign.CloseBracket))))

  abbrev pub Unary : Spelling Expression
  Unary = Or Post (Made Negative (Behind (is_sign sign.Minus) deeper.Unary))

  abbrev pub Product : Spelling Expression
  Product = Chained (series_operator series.Product) Unary

  abbrev pub Sum : Spelling Expression
  Sum = Chained (series_operator series.Sum) Product

  abbrev pub Compared : Spelling Expression
  Compared =
      Or Sum (Made (λ p. Comparison p.1.0 p.0 p.1.1) (Pair Sum (Pair (As (by_sign comparison_sign)) Sum)))

  abbrev pub Neg : Spelling Expression
  Neg = Or Compared (Made Not (Behind (is_word word.Not) deeper.Neg))

  abbrev pub All : Spelling Expression
  All = Joined junction.And Neg

  abbrev pub Expr : Spelling Expression
  Expr = Joined junction.Or All

abbrev pub nothing : Spellings
nothing =
    record { Expr = λ start rest e. ⊥; Neg = λ start rest e. ⊥; Unary = λ start rest e. ⊥; Items = λ start rest xs. ⊥ }

abbrev pub spellings_over : Spellings → Spellings
spellings_over deeper =
    record { Expr = Expr deeper; Neg = Neg deeper; Unary = Unary deeper; Items = Listed longest_list (Expr deeper) }

-- what is spelled behind a token that opens, where so many may be opened
unfoldable pub spelled_below : ℕ → Spellings
spelled_below zero = nothing
spelled_below (suc depth) = spellings_over (spelled_below depth)

-- these tokens spell the expression, where so many may be opened
abbrev pub SpellsExpression : ℕ → Spelling Expression
SpellsExpression depth = Expr (spelled_below depth)
