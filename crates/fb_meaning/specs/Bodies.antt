-- What each statement of a body means, by what the statements inside it mean.
use Rattle.std.specs.Prelude.{ℕ, zero, suc, ◌+◌, ◌-◌, nat_le, if◌then◌else◌, bytes_eq, Bool, true, false, List, [], ◌∷◌, ◌++◌, map, length, codes, Option, Some, None}
use Rattle.fb_base.specs.declared.value.Value.{Value}
use Rattle.fb_base.specs.declared.value.Value.TheVariants as value
use Rattle.fb_base.specs.declared.items.Items.{Items}
use Rattle.fb_base.specs.declared.items.Items.TheVariants as items
use Rattle.fb_base.specs.declared.reply.Reply.{Reply}
use Rattle.fb_base.specs.declared.reply.Reply.TheVariants as reply
use Rattle.fb_index.specs.Entry.{Occurrence}
use Rattle.fb_syntax.specs.Trees.{Statement, Let, Assign, If, IfElse, Repeat, For, Break, Return, Fail, Call, Assert, Statements, NoStatements, AndStatements, Handlers, NoHandlers, AndHandlers}
use Rattle.fb_syntax.specs.Trees.{Expression, Expressions, MethodTree, ServicesTree}
use Rattle.fb_check.specs.Declarations.{declarations_of, number_in}
use Rattle.fb_check.specs.Programs.{method_at}
use Rattle.fb_base.specs.declared.method.MethodId.{MethodId}
use Rattle.fb_tree.specs.Runs.{Tree, Invocation, CallList, NoCalls, AndCall, How, Faulted, Ran, Known as KnownHow}
use Rattle.fb_tree.specs.Calls.{calls_at, injected_in}
use Rattle.fb_tree.specs.declared.asked.Asked.{Asked}
use Rattle.fb_tree.specs.declared.outcome.Outcome.TheVariants as outcome
use Rattle.fb_transport.specs.Sources.{Source}
use Rattle.fb_transport.specs.declared.decision.Decision.{Decision}
use Rattle.fb_transport.specs.declared.decision.Decision.TheVariants.{Forward, Fault, Known}
use Rattle.fb_meaning.specs.Evaluations.{Evaluation, Spent, Missing, Done, then_on, Flow, Next, Broke, Gave, Ended, NamedValue, State, holding, Going, with_unit, then_next, then_turn, leave}
use Rattle.fb_meaning.specs.Variables.{with_variable, with_value_of, parameters_with}
use Rattle.fb_meaning.specs.Expressions.{◌>>=◌, Environment, value_of, values_of}
use Rattle.fb_meaning.specs.Positions.{Position, beginning, past, alone, one_block, statement_counts, block_counts}

-- whose body it is
pub data Whose : Type 0 where
  OfMethod : Whose
  OfTest : Whose

-- a body that is executed: whose it is, and the index of its invocation
pub record Frame : Type 0 where
  pub whose : Whose
  pub index : List Occurrence

-- what statements mean
abbrev pub Meaning : Type 0
Meaning = Frame → Position → Statement → State → Going

-- ---- ends of a body

-- an expression faults: a method answers so at once, and a test ends at this statement
abbrev pub fault_flow : Whose → ℕ → Flow
fault_flow OfMethod number = Gave (reply.Err (codes "internal"))
fault_flow OfTest number = Ended (outcome.Fault number)

-- no handler takes an error: a method answers it, and a test ends at this call site
abbrev pub unhandled_flow : Whose → ℕ → List ℕ → Flow
unhandled_flow OfMethod site code = Gave (reply.Err code)
unhandled_flow OfTest site code = Ended (outcome.CallFailed site code)

-- only a method answers, and only a test asserts
abbrev pub answer_flow : Whose → Reply → Option Flow
answer_flow OfMethod answer = Some (Gave answer)
answer_flow OfTest answer = None

abbrev pub assert_flow : Whose → ℕ → Bool → Option Flow
assert_flow OfMethod number holds = None
assert_flow OfTest number true = Some Next
assert_flow OfTest number false = Some (Ended (outcome.AssertFailed number))

abbrev pub truth_of : Value → Option Bool
truth_of (value.Bool b) = Some b
truth_of other = None

abbrev pub values_in : Items → List Value
values_in items.Empty = []
values_in (items.Ints xs) = map value.Int xs
values_in (items.Bools xs) = map value.Bool xs
values_in (items.Texts xs) = map value.Text xs

abbrev pub items_of : Value → Option (List Value)
items_of (value.List xs) = Some (values_in xs)
items_of other = None

-- the callees that have been injected so far, of which only a test asks
abbrev pub questions : Whose → CallList → Option (List MethodId)
questions OfMethod calls = None
questions OfTest calls = Some (injected_in calls)

abbrev pub environment : Whose → State → Environment
environment whose state = record { variables = state.variables; injected = questions whose state.calls }

abbrev pub value_here : ServicesTree → Whose → State → Expression → Option Value
value_here services whose state = value_of services (environment whose state)

-- on with what an expression gives, or the fault of this statement
abbrev pub with_some : {A : Type 0} → Whose → Position → State → Option A → (A → Going) → Going
with_some whose at state None go = Done (fault_flow whose (at.statements + 1)) state
with_some whose at state (Some x) go = go x

abbrev pub with_variables : Whose → Position → State → Option (List NamedValue) → (State → Going) → Going
with_variables whose at state changed go = with_some whose at state changed (λ variables. go (holding variables state))

abbrev pub catches : Option (List ℕ) → List ℕ → Bool
catches None code = true
catches (Some wanted) code = bytes_eq wanted code

module _ (run : Meaning) (frame : Frame) where
  -- ---- blocks

  -- one statement after the other
  abbrev pub statements_go : Position → Statements → State → Going
  statements_go at NoStatements state = Done Next state
  statements_go at (AndStatements s ss) state = then_next (run frame at s state) (statements_go (past at (statement_counts s)) ss)

  -- a block that begins here
  abbrev pub block_goes : Position → Statements → State → Going
  block_goes at body state = leave (length state.variables) (statements_go (past at one_block) body state)

  abbrev pub chosen : Position → Statements → (State → Going) → Bool → State → Going
  chosen at body other true state = block_goes at body state
  chosen at body other false state = other state

  -- ---- loops

  -- so many turns of a block that begins here
  abbrev pub repeat_goes : Position → Statements → ℕ → State → Going
  repeat_goes at body zero state = Done Next state
  repeat_goes at body (suc n) state = with_unit state (λ begun. then_turn (block_goes at body begun) (repeat_goes at body n))

  -- the variable holds the item when the turn begins, and ends with it
  abbrev pub turn_goes : Position → Position → List ℕ → Statements → Value → State → Going
  turn_goes at inside name body item state =
      with_variables frame.whose at state (with_variable name item state.variables)
      (λ begun. leave (length state.variables) (statements_go (past inside one_block) body begun))

  -- a turn for each item of a list
  abbrev pub for_goes : Position → Position → List ℕ → Statements → List Value → State → Going
  for_goes at inside name body [] state = Done Next state
  for_goes at inside name body (item ∷ items) state =
      with_unit state (λ begun. then_turn (turn_goes at inside name body item begun) (for_goes at inside name body items))

  -- ---- the last of the three steps of a call: take the reply

  -- the first handler in source order that has the code, or `any`, is executed
  abbrev pub handled : ℕ → Position → List ℕ → Handlers → State → Going
  handled site at code NoHandlers state = Done (unhandled_flow frame.whose site code) state
  handled site at code (AndHandlers wanted body handlers) state =
      chosen at body (handled site (past at (block_counts body)) code handlers) (catches wanted code) state

  -- an Ok goes to the target, and an Err to the handlers
  abbrev pub taken : Position → Position → List ℕ → Handlers → Reply → State → Going
  taken at inside target hs (reply.Ok v) state =
      with_variables frame.whose at state (with_value_of target v state.variables) (Done Next)
  taken at inside target hs (reply.Err code) state = handled (at.sites + 1) inside code hs state

-- ---- invocations

abbrev pub method_frame : List Occurrence → Frame
method_frame index = record { whose = OfMethod; index = index }

abbrev pub method_state : MethodTree → List Value → ℕ → State
method_state method args fuel = record { variables = parameters_with method.params args; calls = NoCalls; fuel = fuel; steps = 0 }

-- a body whose end is reached answers as one that faults; no accepted body is such
abbrev pub reply_of_flow : Flow → Reply
reply_of_flow (Gave answer) = answer
reply_of_flow other = reply.Err (codes "internal")

abbrev pub invocation_of : MethodId → List Value → Flow → State → Evaluation Tree ℕ
invocation_of callee args flow state = Done (Invocation callee args state.calls (reply_of_flow flow) state.steps) state.fuel

abbrev pub reply_of : Tree → Reply
reply_of (Invocation method args calls got steps) = got

abbrev pub body_goes : Meaning → Option MethodTree → MethodId → List Value → List Occurrence → ℕ → Evaluation Tree ℕ
body_goes run None callee args index fuel = Done (Invocation callee args NoCalls (reply.Err (codes "internal")) 0) fuel
body_goes run (Some method) callee args index fuel =
    then_on (statements_go run (method_frame index) beginning method.body (method_state method args fuel)) (invocation_of callee args)

-- a method on these arguments, at this index, with this fuel
abbrev pub method_goes : ServicesTree → Meaning → MethodId → List Value → List Occurrence → ℕ → Evaluation Tree ℕ
method_goes services run callee = body_goes run (method_at services callee.0) callee

-- ---- the first two steps of a call

-- a call that is prepared: where it stands in its body, and what it asks for
pub record PreparedCall : Type 0 where
  pub entry : Occurrence
  pub callee : MethodId
  pub args : List Value

-- the site, and how often it has called with this time
abbrev pub entry_at : ℕ → CallList → Occurrence
entry_at site calls = record { site = site; count = calls_at site calls + 1 }

-- prepare: the arguments from left to right, and the count of the site
abbrev pub prepared : ServicesTree → Whose → Position → List ℕ → List ℕ → Expressions → State → Option PreparedCall
prepared services whose at service method args state = do
  callee ← number_in (declarations_of services) service method
  values ← values_of services (environment whose state) args
  Some (record { entry = entry_at (at.sites + 1) state.calls; callee = record { 0 = callee }; args = values })

abbrev pub asked_and_got : PreparedCall → Reply → Asked
asked_and_got request got = record { entry = request.entry; callee = request.callee; args = request.args; reply = got }

-- a call that has returned is one of those made, and so many units are left
abbrev pub with_call : State → PreparedCall → How → Reply → ℕ → State
with_call state request how got left = record state { calls = AndCall state.calls (asked_and_got request got) how; fuel = left }

abbrev pub returned : State → PreparedCall → How → Reply → ℕ → Evaluation Reply State
returned state request how got left = Done got (with_call state request how got left)

-- decide: what comes of the source's answer
abbrev pub decided_by : ServicesTree → Meaning → List Occurrence → Option Decision → PreparedCall → State → Evaluation Reply State
decided_by services run index None request state = Missing
decided_by services run index (Some Forward) request state =
    then_on (method_goes services run request.callee request.args index state.fuel)
    (λ tree left. returned state request (Ran tree) (reply_of tree) left)
decided_by services run index (Some (Fault got)) request state = returned state request Faulted got state.fuel
decided_by services run index (Some (Known got steps injected)) request state =
    if nat_le steps state.fuel then returned state request (KnownHow steps injected) got (state.fuel - steps) else Spent

abbrev pub index_of_call : Frame → PreparedCall → List Occurrence
index_of_call frame request = frame.index ++ request.entry ∷ []

abbrev pub decided : ServicesTree → Source → Meaning → Frame → PreparedCall → State → Evaluation Reply State
decided services source run frame request =
    decided_by services run (index_of_call frame request) (source (index_of_call frame request) request.callee.0 request.args) request

-- ---- statements

-- what each statement does once its unit is taken
module _ (services : ServicesTree) (source : Source) (run : Meaning) (frame : Frame) where
  abbrev pub let_goes : Position → List ℕ → Expression → State → Going
  let_goes at name value state =
      with_variables frame.whose at state (value_here services frame.whose state value >>= λ v. with_variable name v state.variables) (Done Next)

  abbrev pub assign_goes : Position → List ℕ → Expression → State → Going
  assign_goes at name value state =
      with_variables frame.whose at state (value_here services frame.whose state value >>= λ v. with_value_of name v state.variables) (Done Next)

  -- the first block is executed where the condition holds, and else the other way is taken
  abbrev pub if_goes : Position → Position → Expression → Statements → (State → Going) → State → Going
  if_goes at inside cond body other state =
      with_some frame.whose at state (value_here services frame.whose state cond >>= truth_of)
      (λ holds. chosen run frame inside body other holds state)

  -- the list is evaluated once
  abbrev pub for_each_goes : Position → Position → List ℕ → Expression → Statements → State → Going
  for_each_goes at inside name over body state =
      with_some frame.whose at state (value_here services frame.whose state over >>= items_of)
      (λ items. for_goes run frame at inside name body items state)

  abbrev pub return_goes : Position → Expression → State → Going
  return_goes at value state =
      with_some frame.whose at state (value_here services frame.whose state value >>= λ v. answer_flow frame.whose (reply.Ok v)) (λ flow. Done flow state)

  abbrev pub fail_goes : Position → List ℕ → State → Going
  fail_goes at code state = with_some frame.whose at state (answer_flow frame.whose (reply.Err code)) (λ flow. Done flow state)

  -- the three steps of a call
  abbrev pub call_goes : Position → Position → List ℕ → List ℕ → List ℕ → Expressions → Handlers → State → Going
  call_goes at inside target service method args handlers state =
      with_some frame.whose at state (prepared services frame.whose at service method args state)
      (λ request. then_on (decided services source run frame request state) (taken run frame at inside target handlers))

  abbrev pub assert_goes : Position → Expression → State → Going
  assert_goes at cond state =
      with_some frame.whose at state (value_here services frame.whose state cond >>= truth_of >>= assert_flow frame.whose (at.asserts + 1))
      (λ flow. Done flow state)

-- where the first block of a statement begins
abbrev pub inside_of : Position → Statement → Position
inside_of at s = past at (alone s)

-- a statement, whose unit is taken
unfoldable pub act : ServicesTree → Source → Meaning → Frame → Position → Statement → State → Going
act services source run frame at (Let name value) = let_goes services source run frame at name value
act services source run frame at (Assign name value) = assign_goes services source run frame at name value
act services source run frame at (If cond body) = if_goes services source run frame at (inside_of at (If cond body)) cond body (Done Next)
act services source run frame at (IfElse cond body other) =
    if_goes services source run frame at (inside_of at (IfElse cond body other)) cond body
    (block_goes run frame (past (inside_of at (IfElse cond body other)) (block_counts body)) other)
act services source run frame at (Repeat times body) = repeat_goes run frame (inside_of at (Repeat times body)) body times
act services source run frame at (For name over body) = for_each_goes services source run frame at (inside_of at (For name over body)) name over body
act services source run frame at Break = Done Broke
act services source run frame at (Return value) = return_goes services source run frame at value
act services source run frame at (Fail code) = fail_goes services source run frame at code
act services source run frame at (Call target service method args handlers) =
    call_goes services source run frame at (inside_of at (Call target service method args handlers)) target service method args handlers
act services source run frame at (Assert cond) = assert_goes services source run frame at cond
