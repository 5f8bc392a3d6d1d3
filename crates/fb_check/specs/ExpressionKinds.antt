-- The kind of an expression, or the first rule that it breaks: from left to right, operands before their operator.
use Rattle.std.specs.Prelude.{ℕ, Bool, true, false, ◌&&◌, if◌then◌else◌, Option, Some, None, Result, Ok, Err}
use Rattle.fb_base.specs.declared.kind.Kind.{Kind}
use Rattle.fb_base.specs.declared.kind.Kind.TheVariants.{Int, Bool as Boolean, Text}
use Rattle.fb_base.specs.declared.operator.Op1.{Op1}
use Rattle.fb_base.specs.declared.operator.Op1.TheVariants as op1
use Rattle.fb_base.specs.declared.operator.Op2.{Op2}
use Rattle.fb_base.specs.declared.operator.Op2.TheVariants as op2
use Rattle.fb_base.specs.KindSame.{same_kind}
use Rattle.fb_base.specs.Kinds.{kind_of_unary, kind_of_binary, kind_of_list}
use Rattle.fb_syntax.specs.Trees.{Expression, IntLiteral, TextLiteral, BoolLiteral, Variable, ListLiteral, Length, ItemAt, Negative, Not, Comparison, Chain, Conjunction, Disjunction, Injected, InjectedOn, Expressions, NoExpressions, AndExpressions, Links, NoLinks, AndLinks}
use Rattle.fb_check.specs.declared.owner.Owner.{Owner}
use Rattle.fb_check.specs.declared.owner.Owner.TheVariants as owner
use Rattle.fb_check.specs.declared.error.CheckRule.{CheckRule}
use Rattle.fb_check.specs.declared.error.CheckRule.TheVariants.{UnknownName, UnknownCallee, WrongKind, TestOnly, MethodOnly}
use Rattle.fb_base.specs.Results.{◌>>=◌}
use Rattle.fb_check.specs.Scopes.{Scope, kind_named}
use Rattle.fb_check.specs.declared.declarations.Declarations.{Declarations}
use Rattle.fb_check.specs.Declarations.{is_declared}

-- what a body may use, whose it is, and where it stands
pub record Context : Type 0 where
  pub declared : Declarations
  pub owner : Owner
  -- the positions of its service and its method, or 0 for a test
  pub service : ℕ
  pub method : ℕ

-- a value, or the rule that is broken where there is none
abbrev pub or_rule : {A : Type 0} → CheckRule → Option A → Result A CheckRule
or_rule rule None = Err rule
or_rule rule (Some x) = Ok x

abbrev pub unless : CheckRule → Bool → Result (Unit {0}) CheckRule
unless rule false = Err rule
unless rule true = Ok tt

-- what only a test may have
abbrev pub in_test : Owner → Result (Unit {0}) CheckRule
in_test (owner.Method _) = Err TestOnly
in_test owner.Test = Ok tt

-- what only a method may have: the kind of what it gives
abbrev pub in_method : Owner → Result Kind CheckRule
in_method (owner.Method gives) = Ok gives
in_method owner.Test = Err MethodOnly

abbrev pub unary_kind : Op1 → Result Kind CheckRule → Result Kind CheckRule
unary_kind op operand = do
  found ← operand
  or_rule WrongKind (kind_of_unary op found)

-- an operator, what is left of it, and its other operand
abbrev pub applied_kind : Op2 → Kind → Result Kind CheckRule → Result Kind CheckRule
applied_kind op left operand = do
  right ← operand
  or_rule WrongKind (kind_of_binary op left right)

-- what items of one kind make, where all have it
abbrev pub made_kind : Option Kind → Result Bool CheckRule → Result Kind CheckRule
made_kind made items = do
  fit ← items
  or_rule WrongKind (if fit then made else None)

-- a question about what is there, or isn't
abbrev pub question_kind : Owner → Bool → Result Kind CheckRule
question_kind whose there = do
  _ ← in_test whose
  _ ← unless UnknownCallee there
  Ok Boolean

module _ (about : Context) (scope : Scope) where
  unfoldable mutual
    pub kind_of : Expression → Result Kind CheckRule
    kind_of (IntLiteral _) = Ok Int
    kind_of (TextLiteral _) = Ok Text
    kind_of (BoolLiteral _) = Ok Boolean
    kind_of (Variable name) = or_rule UnknownName (kind_named scope name)
    kind_of (ListLiteral base items) = made_kind (kind_of_list base) (all_have base items)
    kind_of (Length e) = unary_kind op1.Len (kind_of e)
    kind_of (ItemAt list place) = do
      left ← kind_of list
      applied_kind op2.At left (kind_of place)
    kind_of (Negative e) = unary_kind op1.Neg (kind_of e)
    kind_of (Not e) = unary_kind op1.Not (kind_of e)
    kind_of (Comparison op first second) = do
      left ← kind_of first
      applied_kind op left (kind_of second)
    kind_of (Chain first rest) = do
      left ← kind_of first
      kind_of_links left rest
    kind_of (Conjunction items) = made_kind (Some Boolean) (all_have Boolean items)
    kind_of (Disjunction items) = made_kind (Some Boolean) (all_have Boolean items)
    kind_of Injected = question_kind about.owner true
    kind_of (InjectedOn service method) = question_kind about.owner (is_declared about.declared service method)

    -- whether all items have a kind, once each has been found to have some
    pub all_have : Kind → Expressions → Result Bool CheckRule
    all_have wanted NoExpressions = Ok true
    all_have wanted (AndExpressions e es) = do
      found ← kind_of e
      rest ← all_have wanted es
      Ok (same_kind found wanted && rest)

    -- each operator is applied to what is left of it and its own operand
    pub kind_of_links : Kind → Links → Result Kind CheckRule
    kind_of_links left NoLinks = Ok left
    kind_of_links left (AndLinks op operand rest) = do
      applied ← applied_kind op left (kind_of operand)
      kind_of_links applied rest
