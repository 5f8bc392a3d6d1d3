-- Where an operand stands in parentheses: where its level is looser than what the grammar reads in its place.
use Rattle.std.specs.Prelude.{ℕ, nat_lt, Bool}
use Rattle.fb_base.specs.declared.operator.Op2.{Op2}
use Rattle.fb_base.specs.declared.operator.Op2.TheVariants as op
use Rattle.fb_syntax.specs.declared.levels.Level.{Level}
use Rattle.fb_syntax.specs.declared.levels.Level.TheVariants as level
use Rattle.fb_syntax.specs.Trees.{Expression, IntLiteral, TextLiteral, BoolLiteral, Variable, ListLiteral, Length, ItemAt, Negative, Not, Comparison, Chain, Conjunction, Disjunction, Injected, InjectedOn, Links, NoLinks, AndLinks}

-- the place of a level among all, the loosest first
abbrev pub rank : Level → ℕ
rank level.Expr = 0
rank level.All = 1
rank level.Neg = 2
rank level.Compared = 3
rank level.Sum = 4
rank level.Product = 5
rank level.Unary = 6
rank level.Post = 7
rank level.Atom = 8

-- the level of what an operator makes of its operands
abbrev pub operator_level : Op2 → Level
operator_level op.Eq = level.Compared
operator_level op.Ne = level.Compared
operator_level op.Lt = level.Compared
operator_level op.Le = level.Compared
operator_level op.Gt = level.Compared
operator_level op.Ge = level.Compared
operator_level op.Add = level.Sum
operator_level op.Sub = level.Sum
operator_level op.Join = level.Sum
operator_level op.Mul = level.Product
operator_level op.Div = level.Product
operator_level op.Rem = level.Product
operator_level op.At = level.Post

-- the operators of a chain are of one level
abbrev pub chain_level : Links → Level
chain_level NoLinks = level.Sum
chain_level (AndLinks operator right links) = operator_level operator

-- what the grammar reads between the operators of a chain of this level
abbrev pub link_level : Level → Level
link_level level.Product = level.Unary
link_level _ = level.Product

-- the level by which an expression is spelled
abbrev pub level_of : Expression → Level
level_of (Disjunction operands) = level.Expr
level_of (Conjunction operands) = level.All
level_of (Not operand) = level.Neg
level_of (Comparison operator left right) = level.Compared
level_of (Chain first links) = chain_level links
level_of (Negative operand) = level.Unary
level_of (ItemAt list place) = level.Post
level_of (IntLiteral n) = level.Atom
level_of (TextLiteral bytes) = level.Atom
level_of (BoolLiteral b) = level.Atom
level_of (Variable name) = level.Atom
level_of (ListLiteral base items) = level.Atom
level_of (Length operand) = level.Atom
level_of Injected = level.Atom
level_of (InjectedOn service method) = level.Atom

-- whether an expression needs parentheses where the grammar reads this level
abbrev pub in_parentheses : Level → Expression → Bool
in_parentheses wanted e = nat_lt (rank (level_of e)) (rank wanted)
