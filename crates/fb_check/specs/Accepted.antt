-- What it means that a source is accepted.
use Rattle.std.specs.Prelude.{◌≡◌, ◌≢◌, ◌<◌, ℕ, ◌⊎◌, ⊤, Bool, true, false, IsTrue, List, [], ◌∷◌, map, length, All, AllPairs, Contains, Option, Some, None}
use Rattle.fb_base.specs.declared.kind.Kind.{Kind}
use Rattle.fb_base.specs.declared.kind.Kind.TheVariants.{Int, Bool as Boolean, Text}
use Rattle.fb_base.specs.declared.operator.Op1.TheVariants as op1
use Rattle.fb_base.specs.declared.operator.Op2.TheVariants as op2
use Rattle.fb_base.specs.Kinds.{kind_of_unary, kind_of_binary, kind_of_list}
use Rattle.fb_syntax.specs.Trees.{Expression, IntLiteral, TextLiteral, BoolLiteral, Variable, ListLiteral, Length, ItemAt, Negative, Not, Comparison, Chain, Conjunction, Disjunction, Injected, InjectedOn, Expressions, NoExpressions, AndExpressions, Links, NoLinks, AndLinks}
use Rattle.fb_syntax.specs.Trees.{Statement, Let, Assign, If, IfElse, Repeat, For, Break, Return, Fail, Call, Assert, Statements, NoStatements, AndStatements, Handlers, NoHandlers, AndHandlers}
use Rattle.fb_syntax.specs.Trees.{MethodTree, ServiceTree, ServicesTree, TestTree}
use Rattle.fb_check.specs.declared.owner.Owner.{Owner}
use Rattle.fb_check.specs.declared.owner.Owner.TheVariants as owner
use Rattle.fb_check.specs.Declarations.{kinds_of_parameters, service_names}
use Rattle.fb_check.specs.Programs.{methods_of}
use Rattle.fb_check.specs.Calls.{rank_limit, graph_of}
use Rattle.fb_graph.specs.Chain.{IsRank}

-- no two are equal
abbrev pub AllDiffer : List (List ℕ) → Type 0
AllDiffer names = AllPairs ◌≢◌ names

-- ---- what the services declare

abbrev pub HasService : ServicesTree → List ℕ → Type 0
HasService tree name = Contains (service_names tree.services) name

-- a service with this name has a method with this name, which takes and gives these kinds
pub record HasMethod (tree : ServicesTree) (service_name method_name : List ℕ) (params : List Kind) (gives : Kind) : Type 0 where
  pub service : ServiceTree
  pub method : MethodTree
  pub has_service : Contains tree.services service
  pub has_method : Contains service.methods method
  pub service_named : service.name ≡ service_name
  pub method_named : method.name ≡ method_name
  pub takes_kinds : kinds_of_parameters method.params ≡ params
  pub gives_kind : method.gives ≡ gives

-- a service with this name, and where one is named a method of it
abbrev pub HasCallee : ServicesTree → List ℕ → Option (List ℕ) → Type 0
HasCallee tree service None = HasService tree service
HasCallee tree service (Some method) = (params : List Kind) × (gives : Kind) × HasMethod tree service method params gives

-- ---- variables

-- which variables there are, and of which kind
abbrev pub Variables : Type 1
Variables = List ℕ → Kind → Type 0

abbrev pub IsNew : Variables → List ℕ → Type 0
IsNew variables name = (kind : Kind) → ¬ variables name kind

abbrev pub with_variable : List ℕ → (Kind → Type 0) → Variables → Variables
with_variable name of_kind variables other kind = ((other ≡ name) × of_kind kind) ⊎ variables other kind

abbrev pub no_variables : Variables
no_variables name kind = ⊥

module _ (tree : ServicesTree) (whose : Owner) where
  -- ---- expressions

  abbrev mutual
    -- with these variables an expression has this kind
    pub HasKind : Variables → Expression → Kind → Type 0
    HasKind variables (IntLiteral _) kind = kind ≡ Int
    HasKind variables (TextLiteral _) kind = kind ≡ Text
    HasKind variables (BoolLiteral _) kind = kind ≡ Boolean
    HasKind variables (Variable name) kind = variables name kind
    HasKind variables (ListLiteral base items) kind = AllHaveKind variables items base × (kind_of_list base ≡ Some kind)
    HasKind variables (Length e) kind = (operand : Kind) × HasKind variables e operand × (kind_of_unary op1.Len operand ≡ Some kind)
    HasKind variables (ItemAt list place) kind =
        (left right : Kind) × HasKind variables list left × HasKind variables place right × (kind_of_binary op2.At left right ≡ Some kind)
    HasKind variables (Negative e) kind = (operand : Kind) × HasKind variables e operand × (kind_of_unary op1.Neg operand ≡ Some kind)
    HasKind variables (Not e) kind = (operand : Kind) × HasKind variables e operand × (kind_of_unary op1.Not operand ≡ Some kind)
    HasKind variables (Comparison op left right) kind =
        (l r : Kind) × HasKind variables left l × HasKind variables right r × (kind_of_binary op l r ≡ Some kind)
    HasKind variables (Chain first rest) kind = (left : Kind) × HasKind variables first left × LinksGive variables left rest kind
    HasKind variables (Conjunction items) kind = AllHaveKind variables items Boolean × (kind ≡ Boolean)
    HasKind variables (Disjunction items) kind = AllHaveKind variables items Boolean × (kind ≡ Boolean)
    -- questions stand only in tests
    HasKind variables Injected kind = (whose ≡ owner.Test) × (kind ≡ Boolean)
    HasKind variables (InjectedOn service method) kind = (whose ≡ owner.Test) × HasCallee tree service method × (kind ≡ Boolean)

    pub AllHaveKind : Variables → Expressions → Kind → Type 0
    AllHaveKind variables NoExpressions kind = ⊤
    AllHaveKind variables (AndExpressions e es) kind = HasKind variables e kind × AllHaveKind variables es kind

    -- operators applied from the left to a value of a kind give one of this kind
    pub LinksGive : Variables → Kind → Links → Kind → Type 0
    LinksGive variables left NoLinks kind = kind ≡ left
    LinksGive variables left (AndLinks op operand rest) kind =
        (right applied : Kind) × HasKind variables operand right × (kind_of_binary op left right ≡ Some applied) × LinksGive variables applied rest kind

  -- as many expressions as kinds, each of its kind
  abbrev pub HaveKinds : Variables → Expressions → List Kind → Type 0
  HaveKinds variables NoExpressions [] = ⊤
  HaveKinds variables (AndExpressions e es) (kind ∷ kinds) = HasKind variables e kind × HaveKinds variables es kinds
  HaveKinds variables _ _ = ⊥

  -- ---- statements

  -- the variables behind a statement: only `let` declares one
  abbrev pub behind : Variables → Statement → Variables
  behind variables (Let name value) = with_variable name (HasKind variables value) variables
  behind variables _ = variables

  abbrev mutual
    -- with these variables, in a loop of its body or in none, a statement is well formed
    pub Fits : Bool → Variables → Statement → Type 0
    Fits looping variables (Let name value) = IsNew variables name × ((kind : Kind) × HasKind variables value kind)
    Fits looping variables (Assign name value) = (kind : Kind) × HasKind variables value kind × variables name kind
    Fits looping variables (If cond body) = HasKind variables cond Boolean × BlockFits looping variables body
    Fits looping variables (IfElse cond body other) =
        HasKind variables cond Boolean × BlockFits looping variables body × BlockFits looping variables other
    Fits looping variables (Repeat times body) = BlockFits true variables body
    Fits looping variables (For name over body) =
        (list item : Kind) × HasKind variables over list × (kind_of_list item ≡ Some list) × IsNew variables name × BlockFits true (with_variable name (λ kind. kind ≡ item) variables) body
    Fits looping variables Break = IsTrue looping
    -- answers stand only in methods
    Fits looping variables (Return value) = (gives : Kind) × (whose ≡ owner.Method gives) × HasKind variables value gives
    Fits looping variables (Fail code) = (gives : Kind) × (whose ≡ owner.Method gives)
    Fits looping variables (Call target service method args handlers) =
        (params : List Kind) × (gives : Kind) × HasMethod tree service method params gives × HaveKinds variables args params × variables target gives × HandlersFit looping variables handlers
    Fits looping variables (Assert cond) = (whose ≡ owner.Test) × HasKind variables cond Boolean

    -- each statement, with the variables of those before it
    pub BlockFits : Bool → Variables → Statements → Type 0
    BlockFits looping variables NoStatements = ⊤
    BlockFits looping variables (AndStatements s ss) = Fits looping variables s × BlockFits looping (behind variables s) ss

    pub HandlersFit : Bool → Variables → Handlers → Type 0
    HandlersFit looping variables NoHandlers = ⊤
    HandlersFit looping variables (AndHandlers code body handlers) = BlockFits looping variables body × HandlersFit looping variables handlers

-- ---- the end of a method

abbrev mutual
  -- it is a return, a fail, or an `if` whose two branches end
  pub StatementEnds : Statement → Type 0
  StatementEnds (Return value) = ⊤
  StatementEnds (Fail code) = ⊤
  StatementEnds (IfElse cond body other) = Ends body × Ends other
  StatementEnds _ = ⊥

  -- one of its statements ends
  pub Ends : Statements → Type 0
  Ends NoStatements = ⊥
  Ends (AndStatements s ss) = StatementEnds s ⊎ Ends ss

-- ---- the whole

abbrev pub has_parameters : MethodTree → Variables
has_parameters method name kind = Contains method.params (record { name = name; kind = kind })

pub record IsAcceptedMethod (tree : ServicesTree) (method : MethodTree) : Type 0 where
  pub parameters_differ : AllDiffer (map (λ param. param.name) method.params)
  pub body_fits : BlockFits tree (owner.Method method.gives) false (has_parameters method) method.body
  pub body_ends : Ends method.body

pub record IsAcceptedService (tree : ServicesTree) (service : ServiceTree) : Type 0 where
  pub methods_differ : AllDiffer (map (λ method. method.name) service.methods)
  pub methods_accepted : All (IsAcceptedMethod tree) service.methods

-- the longest chain of calls below the method ends, and is short
abbrev pub IsRanked : ServicesTree → ℕ → Type 0
IsRanked tree m = (k : ℕ) × IsRank (graph_of tree) m k × (k < rank_limit)

pub record IsAccepted (tree : ServicesTree) : Type 0 where
  pub services_differ : AllDiffer (service_names tree.services)
  pub services_accepted : All (IsAcceptedService tree) tree.services
  pub ranked : (m : ℕ) → m < length (methods_of tree) → IsRanked tree m

-- a test of these services
abbrev pub IsAcceptedTest : ServicesTree → TestTree → Type 0
IsAcceptedTest tree test = BlockFits tree owner.Test false no_variables test.body
