-- Values have at run time the kinds that acceptance tells.
use Rattle.std.specs.Prelude.{◌≡◌, ◌↔◌, ◌≤◌, ℕ, ⊤, Bool, false, List, [], ◌∷◌, ◌++◌, IfSome, IsNone, Option, Some, None}
use Rattle.fb_base.specs.declared.kind.Kind.{Kind}
use Rattle.fb_base.specs.declared.method.MethodId.{MethodId}
use Rattle.fb_base.specs.declared.reply.Reply.{Reply}
use Rattle.fb_base.specs.declared.value.Value.{Value}
use Rattle.fb_base.specs.Values.{HasKind}
use Rattle.fb_index.specs.Entry.{Occurrence}
use Rattle.fb_index.specs.declared.fault.Fault.{Fault as FaultOf}
use Rattle.fb_syntax.specs.Trees.{Expression, Statement, Statements, AndStatements, MethodTree, ServicesTree, TestTree}
use Rattle.fb_check.specs.Accepted.{Variables, HasKind as HasKindIn, behind, Fits, BlockFits}
use Rattle.fb_check.specs.Declarations.{kinds_of_parameters}
use Rattle.fb_check.specs.FirstRefusal.{first_refusal, first_refusal_of_test}
use Rattle.fb_check.specs.Programs.{method_at, callee_at, test_callee_at, kinds_given}
use Rattle.fb_check.specs.Scopes.{Scope, kind_named}
use Rattle.fb_check.specs.declared.owner.Owner.{Owner}
use Rattle.fb_check.specs.declared.owner.Owner.TheVariants as owner
use Rattle.fb_tree.specs.Runs.{Tree, Invocation, CallList, NoCalls, AndCall, How, Faulted, Ran, Known as KnownHow, TestRun}
use Rattle.fb_tree.specs.Records.{records_in}
use Rattle.fb_tree.specs.declared.asked.Asked.{Asked}
use Rattle.fb_tree.specs.declared.recorded.Record.{Record}
use Rattle.fb_transport.specs.Sources.{Source, plan_source}
use Rattle.fb_transport.specs.declared.decision.Decision.{Decision}
use Rattle.fb_transport.specs.declared.decision.Decision.TheVariants.{Forward, Fault, Known}
use Rattle.fb_meaning.specs.Bodies.{Whose, OfMethod, OfTest, Frame}
use Rattle.fb_meaning.specs.Each.{HoldsOfEach}
use Rattle.fb_meaning.specs.Evaluations.{Evaluation, Spent, Missing, Done, Flow, Next, Broke, Gave, Ended, NamedValue, State}
use Rattle.fb_meaning.specs.Expressions.{Environment, value_of}
use Rattle.fb_meaning.specs.Meaning.{meaning, method_meaning, test_meaning}
use Rattle.fb_meaning.specs.Positions.{Position}
use Rattle.fb_meaning.specs.Records.{HaveKinds, IsOkOfKind, IsTrueRecord}
use Rattle.fb_meaning.specs.Runs.{run_of}
use Rattle.fb_meaning.specs.Variables.{parameters_with}

-- ---- names and values

-- the variables of a scope, from the first declared to the last, each with a value of its kind
abbrev pub AreOfScope : Scope → List NamedValue → Type 0
AreOfScope [] [] = ⊤
AreOfScope (binding ∷ scope) (variable ∷ variables) = (variable.name ≡ binding.name) × HasKind variable.value binding.kind × AreOfScope scope variables
AreOfScope _ _ = ⊥

-- the variables of a scope, as acceptance speaks of them
abbrev pub in_scope : Scope → Variables
in_scope scope name kind = kind_named scope name ≡ Some kind

-- ---- sources

-- an Ok that it gives itself has the kind of the callee
abbrev pub GivesKind : Kind → Option Decision → Type 0
GivesKind kind None = ⊤
GivesKind kind (Some Forward) = ⊤
GivesKind kind (Some (Fault given)) = IsOkOfKind kind given
GivesKind kind (Some (Known given steps injected)) = IsOkOfKind kind given

abbrev pub GivesKinds : ServicesTree → Source → Type 0
GivesKinds services source =
    (index : List Occurrence) (callee : ℕ) (args : List Value) (method : MethodTree) → method_at services callee ≡ Some method →
    GivesKind method.gives (source index callee args)

abbrev pub PlansGiveKinds : Type 0
PlansGiveKinds = (services : ServicesTree) (plan : List FaultOf) → GivesKinds services (plan_source (kinds_given services) plan)

-- ---- calls

-- the callee is that of the site, and takes the arguments; an Ok has the kind that it gives
pub record IsFittingCall (services : ServicesTree) (callee_of : ℕ → Option ℕ) (asked : Asked) : Type 0 where
  pub callee : MethodTree
  pub at_site : callee_of asked.entry.site ≡ Some asked.callee.0
  pub there : method_at services asked.callee.0 ≡ Some callee
  pub takes : HaveKinds asked.args (kinds_of_parameters callee.params)
  pub gives : IsOkOfKind callee.gives asked.reply

-- the method takes the arguments; an Ok has the kind that it gives
pub record IsFittingInvocation (services : ServicesTree) (method : ℕ) (args : List Value) (got : Reply) : Type 0 where
  pub callee : MethodTree
  pub there : method_at services method ≡ Some callee
  pub takes : HaveKinds args (kinds_of_parameters callee.params)
  pub gives : IsOkOfKind callee.gives got

-- the same of the calls of a body whose sites have these callees, and of all below them
unfoldable mutual
  pub CallsFit : ServicesTree → (ℕ → Option ℕ) → CallList → Type 0
  CallsFit services callee_of NoCalls = ⊤
  CallsFit services callee_of (AndCall before asked how) =
      CallsFit services callee_of before × IsFittingCall services callee_of asked × FitsBelow services how

  pub FitsBelow : ServicesTree → How → Type 0
  FitsBelow services Faulted = ⊤
  FitsBelow services (Ran (Invocation method args calls got steps)) =
      IsFittingInvocation services method.0 args got × CallsFit services (callee_at services method.0) calls
  FitsBelow services (KnownHow steps injected) = ⊤

-- ---- expressions and statements

-- the value of an accepted expression, where there is one, has its kind
abbrev pub ExpressionsKeepKinds : Type 0
ExpressionsKeepKinds =
    (services : ServicesTree) (whose : Owner) (scope : Scope) (here : Environment) (e : Expression) (kind : Kind) →
    HasKindIn services whose (in_scope scope) e kind → AreOfScope scope here.variables → IfSome (value_of services here e) (λ v. HasKind v kind)

-- a frame of the body's owner
abbrev pub IsOf : Owner → Whose → Type 0
IsOf (owner.Method gives) OfMethod = ⊤
IsOf owner.Test OfTest = ⊤
IsOf _ _ = ⊥

-- an Ok has the kind of the method that answers it
abbrev pub AnswerFits : Owner → Reply → Type 0
AnswerFits (owner.Method gives) got = IsOkOfKind gives got
AnswerFits owner.Test got = ⊤

abbrev pub FlowFits : Owner → Flow → Type 0
FlowFits whose Next = ⊤
FlowFits whose Broke = ⊤
FlowFits whose (Gave got) = AnswerFits whose got
FlowFits whose (Ended how) = ⊤

-- where it goes on, just these are declared
abbrev pub NextDeclares : Variables → Flow → Scope → Type 0
NextDeclares declared Next scope = (name : List ℕ) (kind : Kind) → declared name kind ↔ in_scope scope name kind
NextDeclares declared Broke scope = ⊤
NextDeclares declared (Gave got) scope = ⊤
NextDeclares declared (Ended how) scope = ⊤

-- wherever a statement goes on, the variables of its scope have values of their kinds, and so have those that it
-- declared behind them; what it answers fits
pub record EndsInKind (whose : Owner) (scope : Scope) (declared : Variables) (flow : Flow) (after : State) : Type 0 where
  pub more : Scope
  pub hold : AreOfScope (scope ++ more) after.variables
  pub next : NextDeclares declared flow (scope ++ more)
  pub fits : FlowFits whose flow

abbrev pub KeepsKinds : Owner → Scope → Variables → Evaluation Flow State → Type 0
KeepsKinds whose scope declared Spent = ⊤
KeepsKinds whose scope declared Missing = ⊤
KeepsKinds whose scope declared (Done flow after) = EndsInKind whose scope declared flow after

abbrev pub StatementsKeepKinds : Type 0
StatementsKeepKinds =
    (services : ServicesTree) (source : Source) → IsNone (first_refusal services) → GivesKinds services source →
    (whose : Owner) (looping : Bool) (scope : Scope) (frame : Frame) (at : Position) (s : Statement) (before : State) →
    IsOf whose frame.whose → Fits services whose looping (in_scope scope) s → AreOfScope scope before.variables →
    KeepsKinds whose scope (behind services whose (in_scope scope) s) (meaning services source frame at s before)

-- these variables have values of their kinds, in a scope in which the statements fit
abbrev pub FitThere : ServicesTree → Owner → Bool → Statements → List NamedValue → Type 0
FitThere services whose looping ss variables = (scope : Scope) × AreOfScope scope variables × BlockFits services whose looping (in_scope scope) ss

-- so it is where a body begins
abbrev pub MethodsBeginSo : Type 0
MethodsBeginSo =
    (services : ServicesTree) → IsNone (first_refusal services) → (m : ℕ) (method : MethodTree) (args : List Value) →
    method_at services m ≡ Some method → HaveKinds args (kinds_of_parameters method.params) →
    FitThere services (owner.Method method.gives) false method.body (parameters_with method.params args)

abbrev pub TestsBeginSo : Type 0
TestsBeginSo =
    (services : ServicesTree) (test : TestTree) → IsNone (first_refusal services) → IsNone (first_refusal_of_test services test) →
    FitThere services owner.Test false test.body []

-- and where it goes on behind a statement
abbrev pub BodiesGoOnSo : Type 0
BodiesGoOnSo =
    (services : ServicesTree) (source : Source) → IsNone (first_refusal services) → GivesKinds services source →
    (whose : Owner) (looping : Bool) (frame : Frame) (at : Position) (s : Statement) (ss : Statements) (before after : State) →
    IsOf whose frame.whose → FitThere services whose looping (AndStatements s ss) before.variables →
    meaning services source frame at s before ≡ Done Next after → FitThere services whose looping ss after.variables

-- ---- methods and tests

abbrev pub MethodsKeepKinds : Type 0
MethodsKeepKinds =
    (services : ServicesTree) (source : Source) → IsNone (first_refusal services) → GivesKinds services source →
    (fuel : ℕ) (m : MethodId) (method : MethodTree) (args : List Value) (index : List Occurrence) (tree : Tree) (left : ℕ) →
    method_at services m.0 ≡ Some method → HaveKinds args (kinds_of_parameters method.params) →
    method_meaning services source fuel m args index ≡ Done tree left → FitsBelow services (Ran tree)

abbrev pub TestsKeepKinds : Type 0
TestsKeepKinds =
    (services : ServicesTree) (test : TestTree) (source : Source) → IsNone (first_refusal services) → IsNone (first_refusal_of_test services test) → GivesKinds services source →
    (fuel : ℕ) (run : TestRun) (left : ℕ) → test_meaning services test source fuel ≡ Done run left → CallsFit services (test_callee_at services test) run.calls

-- ---- records

-- with this fuel and any more, each record of a run of accepted sources is true
abbrev pub RecordsOfRunsAreTrue : Type 0
RecordsOfRunsAreTrue =
    (services : ServicesTree) (test : TestTree) → IsNone (first_refusal services) → IsNone (first_refusal_of_test services test) →
    (fuel more : ℕ) (plan : List FaultOf) (run : TestRun) (left : ℕ) → run_of services test fuel plan ≡ Done run left → fuel ≤ more →
    HoldsOfEach (IsTrueRecord services more) (records_in run.calls)

-- no invocation takes more steps than there is fuel
abbrev pub StepsAreWithinFuel : Type 0
StepsAreWithinFuel =
    (services : ServicesTree) (test : TestTree) (source : Source) (fuel : ℕ) (run : TestRun) (left : ℕ) → test_meaning services test source fuel ≡ Done run left →
    HoldsOfEach (λ item. item.steps ≤ fuel) (records_in run.calls)

-- what is true with some fuel is true with any more
abbrev pub TrueRecordsStayTrue : Type 0
TrueRecordsStayTrue =
    (services : ServicesTree) (fuel more : ℕ) (item : Record) → IsTrueRecord services fuel item → fuel ≤ more → IsTrueRecord services more item
