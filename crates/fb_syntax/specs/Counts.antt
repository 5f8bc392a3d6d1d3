-- How much a tree holds, and how deep it goes.
use Rattle.std.specs.Prelude.{ℕ, suc, ◌+◌, max, if◌then◌else◌}
use Rattle.fb_syntax.specs.declared.levels.Level.{Level}
use Rattle.fb_syntax.specs.declared.levels.Level.TheVariants as level
use Rattle.fb_syntax.specs.Trees.{Expression, ListLiteral, Length, ItemAt, Negative, Not, Comparison, Chain, Conjunction, Disjunction, Expressions, NoExpressions, AndExpressions, Links, NoLinks, AndLinks}
use Rattle.fb_syntax.specs.Levels.{chain_level, link_level, in_parentheses}
use Rattle.fb_syntax.specs.Trees.{Statement, If, IfElse, Repeat, For, Call, Statements, NoStatements, AndStatements, Handlers, NoHandlers, AndHandlers}

-- ---- expressions

abbrev pub expressions_count : Expressions → ℕ
expressions_count NoExpressions = 0
expressions_count (AndExpressions e es) = suc (expressions_count es)

abbrev pub links_count : Links → ℕ
links_count NoLinks = 0
links_count (AndLinks op e links) = suc (links_count links)

-- where the grammar reads this level: the parentheses that the expression needs open one more than what is inside them
abbrev pub with_parentheses : Level → Expression → ℕ → ℕ
with_parentheses wanted e inside = if in_parentheses wanted e then suc inside else inside

-- how many of `(`, `[`, `not` and unary `-` are open at once, at the most, where each operand has the parentheses that it
-- needs and no others
abbrev mutual
  pub nesting : Expression → ℕ
  nesting (ListLiteral base items) = suc (expressions_nesting level.Expr items)
  nesting (Length e) = suc (nesting e)
  nesting (ItemAt list place) = max (with_parentheses level.Atom list (nesting list)) (suc (nesting place))
  nesting (Negative e) = suc (with_parentheses level.Unary e (nesting e))
  nesting (Not e) = suc (with_parentheses level.Neg e (nesting e))
  nesting (Comparison op left right) =
      max (with_parentheses level.Sum left (nesting left)) (with_parentheses level.Sum right (nesting right))
  nesting (Chain first rest) =
      max (with_parentheses (link_level (chain_level rest)) first (nesting first)) (links_nesting (link_level (chain_level rest)) rest)
  nesting (Conjunction operands) = expressions_nesting level.Neg operands
  nesting (Disjunction operands) = expressions_nesting level.All operands
  nesting _ = 0

  -- each where the grammar reads this level
  pub expressions_nesting : Level → Expressions → ℕ
  expressions_nesting wanted NoExpressions = 0
  expressions_nesting wanted (AndExpressions e es) = max (with_parentheses wanted e (nesting e)) (expressions_nesting wanted es)

  pub links_nesting : Level → Links → ℕ
  links_nesting wanted NoLinks = 0
  links_nesting wanted (AndLinks op e links) = max (with_parentheses wanted e (nesting e)) (links_nesting wanted links)

-- ---- statements

-- how many blocks are open at once, at the most
abbrev mutual
  pub statement_depth : Statement → ℕ
  statement_depth (If cond body) = block_depth body
  statement_depth (IfElse cond body other) = max (block_depth body) (block_depth other)
  statement_depth (Repeat times body) = block_depth body
  statement_depth (For name over body) = block_depth body
  statement_depth (Call target service method args handlers) = handlers_depth handlers
  statement_depth _ = 0

  -- the block itself is open
  pub block_depth : Statements → ℕ
  block_depth NoStatements = 1
  block_depth (AndStatements s ss) = max (suc (statement_depth s)) (block_depth ss)

  pub handlers_depth : Handlers → ℕ
  handlers_depth NoHandlers = 0
  handlers_depth (AndHandlers code body handlers) = max (block_depth body) (handlers_depth handlers)

-- the sum of what each counts, over a statement and all those inside it
abbrev mutual
  pub summed : (Statement → ℕ) → Statement → ℕ
  summed each (If cond body) = each (If cond body) + summed_all each body
  summed each (IfElse cond body other) = each (IfElse cond body other) + summed_all each body + summed_all each other
  summed each (Repeat times body) = each (Repeat times body) + summed_all each body
  summed each (For name over body) = each (For name over body) + summed_all each body
  summed each (Call target service method args handlers) =
      each (Call target service method args handlers) + summed_handlers each handlers
  summed each s = each s

  pub summed_all : (Statement → ℕ) → Statements → ℕ
  summed_all each NoStatements = 0
  summed_all each (AndStatements s ss) = summed each s + summed_all each ss

  pub summed_handlers : (Statement → ℕ) → Handlers → ℕ
  summed_handlers each NoHandlers = 0
  summed_handlers each (AndHandlers code body handlers) = summed_all each body + summed_handlers each handlers

abbrev pub call_weight : Statement → ℕ
call_weight (Call _ _ _ _ _) = 1
call_weight _ = 0

-- the call sites of a block and of all those inside it
abbrev pub calls_count : Statements → ℕ
calls_count = summed_all call_weight

-- the statements of a block and of all those inside it
abbrev pub statements_count : Statements → ℕ
statements_count = summed_all (λ s. 1)

abbrev pub handlers_count : Handlers → ℕ
handlers_count NoHandlers = 0
handlers_count (AndHandlers code body handlers) = suc (handlers_count handlers)
