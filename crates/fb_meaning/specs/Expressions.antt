-- The value of an expression, or none where it faults: from left to right, operands before their operator.
use Rattle.std.specs.Prelude.{ℕ, Bool, true, false, not, ◌&&◌, bytes_eq, List, [], ◌∷◌, Option, Some, None}
use Rattle.std.specs.List.{list_any}
use Rattle.std.specs.Option.{option_map, option_map_or}
use Rattle.fb_base.specs.declared.method.MethodId.{MethodId}
use Rattle.fb_base.specs.declared.value.Value.{Value}
use Rattle.fb_base.specs.declared.value.Value.TheVariants as value
use Rattle.fb_base.specs.declared.operator.Op1.TheVariants as op1
use Rattle.fb_base.specs.declared.operator.Op2.TheVariants as op2
use Rattle.fb_base.specs.Operators.{value_of_unary, value_of_binary, value_of_list}
use Rattle.fb_syntax.specs.Trees.{ServicesTree}
use Rattle.fb_syntax.specs.Trees.{Expression, IntLiteral, TextLiteral, BoolLiteral, Variable, ListLiteral, Length, ItemAt, Negative, Not, Comparison, Chain, Conjunction, Disjunction, Injected, InjectedOn, Expressions, NoExpressions, AndExpressions, Links, NoLinks, AndLinks}
use Rattle.fb_check.specs.declared.signature.Signature.{Signature}
use Rattle.fb_check.specs.Programs.{signature_at}
use Rattle.fb_meaning.specs.Evaluations.{NamedValue}
use Rattle.fb_meaning.specs.Variables.{value_named}

infixl 10 ◌>>=◌
abbrev pub ◌>>=◌ : {A B : Type 0} → Option A → (A → Option B) → Option B
None >>= more = None
(Some x) >>= more = more x

-- what an expression reads: the variables, and in a test the callees that have been injected so far
pub record Environment : Type 0 where
  pub variables : List NamedValue
  pub injected : Option (List MethodId)

-- ---- questions

-- the method is one of the service, and where a method is named it is that one
abbrev pub is_asked_for : List ℕ → Option (List ℕ) → Signature → Bool
is_asked_for service None signature = bytes_eq service signature.name.service
is_asked_for service (Some method) signature = bytes_eq service signature.name.service && bytes_eq method signature.name.method

abbrev pub is_some_injected : List MethodId → Bool
is_some_injected [] = false
is_some_injected (callee ∷ callees) = true

abbrev pub is_injected_on : ServicesTree → List ℕ → Option (List ℕ) → List MethodId → Bool
is_injected_on services service method = list_any (λ callee. option_map_or (is_asked_for service method) (signature_at services callee.0) false)

-- a question is asked in a test alone
abbrev pub answer : (List MethodId → Bool) → Option (List MethodId) → Option Value
answer question injected = option_map (λ callees. value.Bool (question callees)) injected

-- ---- what stops when it is decided

-- the first operand decides where it is this truth value, and else the others do
abbrev pub decided_by : Bool → Value → Option Value → Option Value
decided_by false (value.Bool false) others = Some (value.Bool false)
decided_by false (value.Bool true) others = others
decided_by true (value.Bool true) others = Some (value.Bool true)
decided_by true (value.Bool false) others = others
decided_by deciding other others = None

-- ---- values

module _ (services : ServicesTree) (here : Environment) where
  unfoldable mutual
    pub value_of : Expression → Option Value
    value_of (IntLiteral n) = Some (value.Int n)
    value_of (TextLiteral text) = Some (value.Text text)
    value_of (BoolLiteral b) = Some (value.Bool b)
    value_of (Variable name) = value_named here.variables name
    value_of (ListLiteral base items) = do
      values ← values_of items
      value_of_list values
    value_of (Length e) = do
      operand ← value_of e
      value_of_unary op1.Len operand
    value_of (ItemAt list place) = do
      left ← value_of list
      right ← value_of place
      value_of_binary op2.At left right
    value_of (Negative e) = do
      operand ← value_of e
      value_of_unary op1.Neg operand
    value_of (Not e) = do
      operand ← value_of e
      value_of_unary op1.Not operand
    value_of (Comparison op first second) = do
      left ← value_of first
      right ← value_of second
      value_of_binary op left right
    value_of (Chain first rest) = do
      left ← value_of first
      value_of_links left rest
    value_of (Conjunction operands) = value_of_operands false operands
    value_of (Disjunction operands) = value_of_operands true operands
    value_of Injected = answer is_some_injected here.injected
    value_of (InjectedOn service method) = answer (is_injected_on services service method) here.injected

    pub values_of : Expressions → Option (List Value)
    values_of NoExpressions = Some []
    values_of (AndExpressions e es) = do
      first ← value_of e
      rest ← values_of es
      Some (first ∷ rest)

    -- each operator is applied to what is left of it and its own operand
    pub value_of_links : Value → Links → Option Value
    value_of_links left NoLinks = Some left
    value_of_links left (AndLinks op operand rest) = do
      right ← value_of operand
      applied ← value_of_binary op left right
      value_of_links applied rest

    -- the first operand with this truth value decides; without one it is the other
    pub value_of_operands : Bool → Expressions → Option Value
    value_of_operands deciding NoExpressions = Some (value.Bool (not deciding))
    value_of_operands deciding (AndExpressions e es) = do
      operand ← value_of e
      decided_by deciding operand (value_of_operands deciding es)
