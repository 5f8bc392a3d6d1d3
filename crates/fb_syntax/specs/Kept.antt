-- What every tree keeps that a text of at most 1 MiB has: the language's limits, and what its names, numbers and texts
-- are.
use Rattle.std.specs.Prelude.{◌≡◌, ℕ, ◌≤◌, ◌<◌, ◌-◌, ◌^◌, ◌⊎◌, ⊤, false, IsTrue, ℤ, pos, List, length, All, Option, Some, None}
use Rattle.std.specs.List.{list_all}
use Rattle.fb_base.specs.declared.kind.Kind.{Kind}
use Rattle.fb_base.specs.declared.kind.Kind.TheVariants as kinds
use Rattle.fb_base.specs.declared.operator.Op2.{Op2}
use Rattle.fb_base.specs.Name.{IsName}
use Rattle.fb_base.specs.Text.{IsText}
use Rattle.fb_syntax.specs.declared.levels.Level.TheVariants as level
use Rattle.fb_syntax.specs.Keywords.{is_reserved}
use Rattle.fb_syntax.specs.Tokens.{stands_in_text}
use Rattle.fb_syntax.specs.Trees.{Expression, IntLiteral, TextLiteral, BoolLiteral, Variable, ListLiteral, Length, ItemAt, Negative, Not, Comparison, Chain, Conjunction, Disjunction, Injected, InjectedOn, Expressions, NoExpressions, AndExpressions, Links, NoLinks, AndLinks}
use Rattle.fb_syntax.specs.Trees.{Statement, Let, Assign, If, IfElse, Repeat, For, Break, Return, Fail, Call, Assert, Statements, NoStatements, AndStatements, Handlers, NoHandlers, AndHandlers}
use Rattle.fb_syntax.specs.Trees.{MethodTree, ServiceTree, ServicesTree, TestTree}
use Rattle.fb_syntax.specs.Levels.{operator_level}
use Rattle.fb_syntax.specs.Counts.{expressions_count, links_count, nesting, block_depth, calls_count, statements_count, handlers_count}
use Rattle.fb_syntax.specs.Limits.{deepest_block, most_services, most_methods, most_params, most_calls, most_handlers, most_turns, longest_list, longest_body, deepest}

-- ---- names, numbers and texts

-- a word that isn't reserved
abbrev pub IsFreeName : List ℕ → Type 0
IsFreeName word = IsName word × (is_reserved word ≡ false)

abbrev pub IsFreeNameIfAny : Option (List ℕ) → Type 0
IsFreeNameIfAny None = ⊤
IsFreeNameIfAny (Some word) = IsFreeName word

-- a number that a literal can spell
abbrev pub IsLiteral : ℤ → Type 0
IsLiteral number = (n : ℕ) × (n < 2 ^ 63) × (number ≡ pos n)

-- a text that a literal can spell
abbrev pub IsLiteralText : List ℕ → Type 0
IsLiteralText text = IsText text × IsTrue (list_all stands_in_text text)

-- ---- operators and kinds

abbrev pub IsComparison : Op2 → Type 0
IsComparison operator = operator_level operator ≡ level.Compared

abbrev pub IsOfSum : Op2 → Type 0
IsOfSum operator = operator_level operator ≡ level.Sum

abbrev pub IsOfProduct : Op2 → Type 0
IsOfProduct operator = operator_level operator ≡ level.Product

-- each link's operator is such
abbrev pub AllOperators : (Op2 → Type 0) → Links → Type 0
AllOperators Is NoLinks = ⊤
AllOperators Is (AndLinks operator e links) = Is operator × AllOperators Is links

-- no list
abbrev pub IsBase : Kind → Type 0
IsBase kinds.Int = ⊤
IsBase kinds.Bool = ⊤
IsBase kinds.Text = ⊤
IsBase _ = ⊥

-- ---- expressions

abbrev mutual
  pub KeepsExpression : Expression → Type 0
  KeepsExpression (IntLiteral n) = IsLiteral n
  KeepsExpression (TextLiteral text) = IsLiteralText text
  KeepsExpression (BoolLiteral b) = ⊤
  KeepsExpression (Variable name) = IsFreeName name
  KeepsExpression (ListLiteral base items) = IsBase base × (expressions_count items ≤ longest_list) × KeepExpressions items
  KeepsExpression (Length e) = KeepsExpression e
  KeepsExpression (ItemAt list place) = KeepsExpression list × KeepsExpression place
  KeepsExpression (Negative e) = KeepsExpression e
  KeepsExpression (Not e) = KeepsExpression e
  KeepsExpression (Comparison operator left right) = IsComparison operator × KeepsExpression left × KeepsExpression right
  KeepsExpression (Chain first rest) =
      (1 ≤ links_count rest) × (links_count rest ≤ longest_list - 1) × (AllOperators IsOfSum rest ⊎ AllOperators IsOfProduct rest)
      × KeepsExpression first × KeepLinks rest
  KeepsExpression (Conjunction operands) = (2 ≤ expressions_count operands) × KeepExpressions operands
  KeepsExpression (Disjunction operands) = (2 ≤ expressions_count operands) × KeepExpressions operands
  KeepsExpression Injected = ⊤
  KeepsExpression (InjectedOn service method) = IsFreeName service × IsFreeNameIfAny method

  pub KeepExpressions : Expressions → Type 0
  KeepExpressions NoExpressions = ⊤
  KeepExpressions (AndExpressions e es) = KeepsExpression e × KeepExpressions es

  pub KeepLinks : Links → Type 0
  KeepLinks NoLinks = ⊤
  KeepLinks (AndLinks operator e links) = KeepsExpression e × KeepLinks links

-- an expression that stands by itself
abbrev pub KeepsWhole : Expression → Type 0
KeepsWhole e = (nesting e ≤ deepest) × KeepsExpression e

abbrev pub KeepsEachWhole : Expressions → Type 0
KeepsEachWhole NoExpressions = ⊤
KeepsEachWhole (AndExpressions e es) = KeepsWhole e × KeepsEachWhole es

-- ---- statements

abbrev mutual
  pub KeepsStatement : Statement → Type 0
  KeepsStatement (Let name value) = IsFreeName name × KeepsWhole value
  KeepsStatement (Assign name value) = IsFreeName name × KeepsWhole value
  KeepsStatement (If cond body) = KeepsWhole cond × KeepStatements body
  KeepsStatement (IfElse cond body other) = KeepsWhole cond × KeepStatements body × KeepStatements other
  KeepsStatement (Repeat times body) = (times ≤ most_turns) × KeepStatements body
  KeepsStatement (For name over body) = IsFreeName name × KeepsWhole over × KeepStatements body
  KeepsStatement Break = ⊤
  KeepsStatement (Return value) = KeepsWhole value
  KeepsStatement (Fail code) = IsFreeName code
  KeepsStatement (Call target service method args handlers) =
      IsFreeName target × IsFreeName service × IsFreeName method × (expressions_count args ≤ most_params) × KeepsEachWhole args
      × (handlers_count handlers ≤ most_handlers) × KeepHandlers handlers
  KeepsStatement (Assert cond) = KeepsWhole cond

  pub KeepStatements : Statements → Type 0
  KeepStatements NoStatements = ⊤
  KeepStatements (AndStatements s ss) = KeepsStatement s × KeepStatements ss

  pub KeepHandlers : Handlers → Type 0
  KeepHandlers NoHandlers = ⊤
  KeepHandlers (AndHandlers code body handlers) = IsFreeNameIfAny code × KeepStatements body × KeepHandlers handlers

pub record KeepsBody (body : Statements) : Type 0 where
  pub statements : KeepStatements body
  pub nested : block_depth body ≤ deepest_block
  pub calls : calls_count body ≤ most_calls
  pub counted : statements_count body < longest_body

-- ---- services and tests

pub record KeepsMethod (method : MethodTree) : Type 0 where
  pub named : IsFreeName method.name
  pub params_named : All (λ param. IsFreeName param.name) method.params
  pub params_counted : length method.params ≤ most_params
  pub body : KeepsBody method.body

pub record KeepsService (service : ServiceTree) : Type 0 where
  pub named : IsFreeName service.name
  pub methods_counted : length service.methods ≤ most_methods
  pub methods : All KeepsMethod service.methods

pub record KeepsServicesLimits (tree : ServicesTree) : Type 0 where
  pub services_counted : length tree.services ≤ most_services
  pub services : All KeepsService tree.services

pub record KeepsTestLimits (test : TestTree) : Type 0 where
  pub named : IsFreeName test.name
  pub body : KeepsBody test.body
