-- The language's trees as plain data. Lists of what leads back to itself are data of their own. Parentheses leave no
-- node.
use Rattle.std.specs.Prelude.{ℕ, ℤ, Bool, List, Option}
use Rattle.fb_base.specs.declared.kind.Kind.{Kind}
use Rattle.fb_base.specs.declared.operator.Op2.{Op2}

-- ---- expressions

mutual
  pub data Expression : Type 0 where
    IntLiteral : ℤ → Expression
    TextLiteral : List ℕ → Expression
    BoolLiteral : Bool → Expression
    Variable : List ℕ → Expression
    -- the kind of the items, and the items
    ListLiteral : Kind → Expressions → Expression
    Length : Expression → Expression
    -- the list, and the place in it
    ItemAt : Expression → Expression → Expression
    Negative : Expression → Expression
    Not : Expression → Expression
    Comparison : Op2 → Expression → Expression → Expression
    -- the first operand, and each further one with the operator before it
    Chain : Expression → Links → Expression
    Conjunction : Expressions → Expression
    Disjunction : Expressions → Expression
    Injected : Expression
    -- the service, and its method if one is named
    InjectedOn : List ℕ → Option (List ℕ) → Expression

  pub data Expressions : Type 0 where
    NoExpressions : Expressions
    AndExpressions : Expression → Expressions → Expressions

  pub data Links : Type 0 where
    NoLinks : Links
    AndLinks : Op2 → Expression → Links → Links

-- ---- statements

mutual
  pub data Statement : Type 0 where
    -- the variable, and its value
    Let : List ℕ → Expression → Statement
    Assign : List ℕ → Expression → Statement
    -- the condition, and what is done where it holds
    If : Expression → Statements → Statement
    -- the same, and what is done elsewhere
    IfElse : Expression → Statements → Statements → Statement
    -- the number of turns, and what is done in each
    Repeat : ℕ → Statements → Statement
    -- the variable, the list that it goes through, and what is done in each turn
    For : List ℕ → Expression → Statements → Statement
    Break : Statement
    Return : Expression → Statement
    Fail : List ℕ → Statement
    -- the variable that takes the value, the service, its method, the arguments, the handlers
    Call : List ℕ → List ℕ → List ℕ → Expressions → Handlers → Statement
    Assert : Expression → Statement

  pub data Statements : Type 0 where
    NoStatements : Statements
    AndStatements : Statement → Statements → Statements

  -- each with its code, or with none for any, and what is done
  pub data Handlers : Type 0 where
    NoHandlers : Handlers
    AndHandlers : Option (List ℕ) → Statements → Handlers → Handlers

-- ---- services and tests

pub record Parameter : Type 0 where
  pub name : List ℕ
  pub kind : Kind

pub record MethodTree : Type 0 where
  pub name : List ℕ
  pub params : List Parameter
  pub gives : Kind
  pub body : Statements

pub record ServiceTree : Type 0 where
  pub name : List ℕ
  pub methods : List MethodTree

pub record ServicesTree : Type 0 where
  pub services : List ServiceTree

pub record TestTree : Type 0 where
  pub name : List ℕ
  pub body : Statements
