-- By a source that lacks no answer, no answer is missing.
use Rattle.std.specs.Prelude.{◌≡◌, ◌≢◌, ℕ, zero, suc, ◌+◌, ◌-◌, nat_le, if◌then◌else◌, Bool, true, false, List, [], ◌∷◌, length, Option, Some, None, ⊤}
use Rattle.std.proofs.Common.{refl}
use Rattle.fb_base.specs.declared.method.MethodId.{MethodId}
use Rattle.fb_base.specs.declared.value.Value.{Value}
use Rattle.fb_base.specs.declared.reply.Reply.{Reply}
use Rattle.fb_base.specs.declared.reply.Reply.TheVariants as reply
use Rattle.fb_index.specs.Entry.{Occurrence}
use Rattle.fb_syntax.specs.Trees.{Statement, Let, Assign, If, IfElse, Repeat, For, Break, Return, Fail, Call, Assert, Statements, NoStatements, AndStatements, Handlers, NoHandlers, AndHandlers, Expression}
use Rattle.fb_syntax.specs.Trees.{MethodTree, ServicesTree, TestTree}
use Rattle.fb_check.specs.Programs.{method_at}
use Rattle.fb_tree.specs.Runs.{Tree, Ran, Known as KnownHow}
use Rattle.fb_transport.specs.Sources.{Source, fault_or_forward, injected_at}
use Rattle.fb_transport.specs.declared.decision.Decision.{Decision}
use Rattle.fb_transport.specs.declared.decision.Decision.TheVariants.{Forward, Fault, Known}
use Rattle.fb_meaning.specs.Evaluations.{Evaluation, Spent, Missing, Done, then_on, Flow, Next, Broke, Gave, Ended, NamedValue, State, begun, Going, with_unit, with_unit_of, on_next, on_turn, on_leave}
use Rattle.fb_meaning.specs.Variables.{with_variable, with_value_of}
use Rattle.fb_meaning.specs.Expressions.{◌>>=◌}
use Rattle.fb_meaning.specs.Positions.{Position, past, one_block, beginning, statement_counts, block_counts}
use Rattle.fb_meaning.specs.Meaning.{within, meaning, method_meaning, test_meaning, test_frame, test_state, test_run_of}
use Rattle.fb_meaning.specs.Bodies.{Frame, Meaning, PreparedCall, statements_go, block_goes, inside_of, value_here, truth_of, items_of, answer_flow, assert_flow, prepared, with_some, with_variables, decided, decided_by, index_of_call, catches, handled, taken, repeat_goes, turn_goes, for_goes, chosen, act, method_goes, body_goes, method_frame, method_state, invocation_of, returned, reply_of}
use Rattle.fb_meaning.specs.Lacking.{LacksNothing, MethodsMissNothing, TestsMissNothing, PlansLackNothing}

-- no answer is missing
abbrev IsAnswered : {A S : Type 0} → Evaluation A S → Type 0
IsAnswered Spent = ⊤
IsAnswered Missing = ⊥
IsAnswered (Done what state) = ⊤

answered_then : {A S B T : Type 0} (x : Evaluation A S) (go : A → S → Evaluation B T)
    → IsAnswered x → ((what : A) (t : S) → IsAnswered (go what t)) → IsAnswered (then_on x go)
answered_then Spent go h k = tt
answered_then Missing go h k = h
answered_then (Done what t) go h k = k what t

on_next_answered : (go : State → Going) → ((t : State) → IsAnswered (go t)) → (flow : Flow) (t : State) → IsAnswered (on_next go flow t)
on_next_answered go k Next t = k t
on_next_answered go k Broke t = tt
on_next_answered go k (Gave answer) t = tt
on_next_answered go k (Ended how) t = tt

on_turn_answered : (go : State → Going) → ((t : State) → IsAnswered (go t)) → (flow : Flow) (t : State) → IsAnswered (on_turn go flow t)
on_turn_answered go k Next t = k t
on_turn_answered go k Broke t = tt
on_turn_answered go k (Gave answer) t = tt
on_turn_answered go k (Ended how) t = tt

answered_unit_of : (a : State) (go : State → Going) (fuel : ℕ) → ((t : State) → IsAnswered (go t)) → IsAnswered (with_unit_of a go fuel)
answered_unit_of a go zero k = tt
answered_unit_of a go (suc left) k = k _

module _ (run : Meaning) (frame : Frame) (answers : (at : Position) (s : Statement) (t : State) → IsAnswered (run frame at s t)) where
  statements_answered : (at : Position) (ss : Statements) (t : State) → IsAnswered (statements_go run frame at ss t)
  statements_answered at NoStatements t = tt
  statements_answered at (AndStatements s ss) t =
      answered_then (run frame at s t) _ (answers at s t) (on_next_answered _ (statements_answered (past at (statement_counts s)) ss))

  block_answered : (at : Position) (ss : Statements) (t : State) → IsAnswered (block_goes run frame at ss t)
  block_answered at ss t =
      answered_then (statements_go run frame (past at one_block) ss t) (on_leave (length t.variables)) (statements_answered (past at one_block) ss t) (λ flow u. tt)

  some_answered : {A : Type 0} (at : Position) (t : State) (o : Option A) (go : A → Going)
      → ((x : A) → IsAnswered (go x)) → IsAnswered (with_some frame.whose at t o go)
  some_answered at t None go k = tt
  some_answered at t (Some x) go k = k x

  chosen_answered : (at : Position) (body : Statements) (other : State → Going) (holds : Bool) (t : State)
      → IsAnswered (other t) → IsAnswered (chosen run frame at body other holds t)
  chosen_answered at body other true t h = block_answered at body t
  chosen_answered at body other false t h = h

  repeat_answered : (at : Position) (body : Statements) (n : ℕ) (t : State) → IsAnswered (repeat_goes run frame at body n t)
  repeat_answered at body zero t = tt
  repeat_answered at body (suc n) t =
      answered_unit_of t _ t.fuel (λ u. answered_then (block_goes run frame at body u) _ (block_answered at body u) (on_turn_answered _ (repeat_answered at body n)))

  turn_answered : (at inside : Position) (name : List ℕ) (body : Statements) (item : Value) (t : State)
      → IsAnswered (turn_goes run frame at inside name body item t)
  turn_answered at inside name body item t =
      some_answered at t (with_variable name item t.variables) _
      (λ variables. answered_then (statements_go run frame (past inside one_block) body (record t { variables = variables })) (on_leave (length t.variables))
      (statements_answered (past inside one_block) body (record t { variables = variables })) (λ flow u. tt))

  for_answered : (at inside : Position) (name : List ℕ) (body : Statements) (items : List Value) (t : State)
      → IsAnswered (for_goes run frame at inside name body items t)
  for_answered at inside name body [] t = tt
  for_answered at inside name body (item ∷ items) t =
      answered_unit_of t _ t.fuel (λ u. answered_then (turn_goes run frame at inside name body item u) _
      (turn_answered at inside name body item u) (on_turn_answered _ (for_answered at inside name body items)))

  handled_answered : (site : ℕ) (at : Position) (code : List ℕ) (hs : Handlers) (t : State) → IsAnswered (handled run frame site at code hs t)
  handled_answered site at code NoHandlers t = tt
  handled_answered site at code (AndHandlers wanted body hs) t =
      chosen_answered at body _ (catches wanted code) t (handled_answered site (past at (block_counts body)) code hs t)

  taken_answered : (at inside : Position) (target : List ℕ) (hs : Handlers) (got : Reply) (t : State)
      → IsAnswered (taken run frame at inside target hs got t)
  taken_answered at inside target hs (reply.Ok v) t = some_answered at t (with_value_of target v t.variables) _ (λ variables. tt)
  taken_answered at inside target hs (reply.Err code) t = handled_answered (at.sites + 1) inside code hs t

  module _ (services : ServicesTree) (source : Source)
      (decides : (request : PreparedCall) (t : State) → IsAnswered (decided services source run frame request t)) where
    abbrev found : State → Expression → Option Value
    found t e = value_here services frame.whose t e

    variables_answered : (at : Position) (t : State) (o : Option (List NamedValue)) → IsAnswered (with_variables frame.whose at t o (Done Next))
    variables_answered at t None = tt
    variables_answered at t (Some variables) = tt

    flow_answered : (at : Position) (t : State) (o : Option Flow) → IsAnswered (with_some frame.whose at t o (λ flow. Done flow t))
    flow_answered at t None = tt
    flow_answered at t (Some flow) = tt

    act_answered : (at : Position) (s : Statement) (t : State) → IsAnswered (act services source run frame at s t)
    unfolding act
    act_answered at (Let name value) t = variables_answered at t (found t value >>= λ v. with_variable name v t.variables)
    act_answered at (Assign name value) t = variables_answered at t (found t value >>= λ v. with_value_of name v t.variables)
    act_answered at (If cond body) t =
        some_answered at t (found t cond >>= truth_of) _ (λ holds. chosen_answered (inside_of at (If cond body)) body (Done Next) holds t tt)
    act_answered at (IfElse cond body other) t =
        let behind = past (inside_of at (IfElse cond body other)) (block_counts body) in
        some_answered at t (found t cond >>= truth_of) _
        (λ holds. chosen_answered (inside_of at (IfElse cond body other)) body (block_goes run frame behind other) holds t (block_answered behind other t))
    act_answered at (Repeat times body) t = repeat_answered (inside_of at (Repeat times body)) body times t
    act_answered at (For name over body) t =
        some_answered at t (found t over >>= items_of) _ (λ items. for_answered at (inside_of at (For name over body)) name body items t)
    act_answered at Break t = tt
    act_answered at (Return value) t = flow_answered at t (found t value >>= λ v. answer_flow frame.whose (reply.Ok v))
    act_answered at (Fail code) t = flow_answered at t (answer_flow frame.whose (reply.Err code))
    act_answered at (Call target service method args handlers) t =
        some_answered at t (prepared services frame.whose at service method args t) _
        (λ request. answered_then (decided services source run frame request t) (taken run frame at (inside_of at (Call target service method args handlers)) target handlers)
        (decides request t) (taken_answered at (inside_of at (Call target service method args handlers)) target handlers))
    act_answered at (Assert cond) t = flow_answered at t (found t cond >>= truth_of >>= assert_flow frame.whose (at.asserts + 1))

module _ (services : ServicesTree) (source : Source) (whole : LacksNothing source) where
  module _ (run : Meaning) (answers : (frame : Frame) (at : Position) (s : Statement) (t : State) → IsAnswered (run frame at s t)) where
    body_answered : (method : Option MethodTree) (m : MethodId) (args : List Value) (index : List Occurrence) (fuel : ℕ)
        → IsAnswered (body_goes run method m args index fuel)
    body_answered None m args index fuel = tt
    body_answered (Some method) m args index fuel =
        answered_then (statements_go run (method_frame index) beginning method.body (method_state method args fuel)) (invocation_of m args)
        (statements_answered run (method_frame index) (answers (method_frame index)) beginning method.body (method_state method args fuel)) (λ flow u. tt)

    known_answered : (t : State) (request : PreparedCall) (got : Reply) (steps : ℕ) (injected : List MethodId) (fits : Bool)
        → IsAnswered (if fits then returned t request (KnownHow steps injected) got (t.fuel - steps) else Spent)
    known_answered t request got steps injected false = tt
    known_answered t request got steps injected true = tt

    decision_answered : (index : List Occurrence) (decision : Option Decision) → decision ≢ None → (request : PreparedCall) (t : State)
        → IsAnswered (decided_by services run index decision request t)
    decision_answered index None some request t = some refl
    decision_answered index (Some Forward) some request t =
        answered_then (method_goes services run request.callee request.args index t.fuel) (λ tree left. returned t request (Ran tree) (reply_of tree) left)
        (body_answered (method_at services request.callee.0) request.callee request.args index t.fuel) (λ tree left. tt)
    decision_answered index (Some (Fault got)) some request t = tt
    decision_answered index (Some (Known got steps injected)) some request t = known_answered t request got steps injected (nat_le steps t.fuel)

    call_answered : (frame : Frame) (request : PreparedCall) (t : State) → IsAnswered (decided services source run frame request t)
    call_answered frame request t =
        decision_answered (index_of_call frame request) (source (index_of_call frame request) request.callee.0 request.args)
        (whole (index_of_call frame request) request.callee.0 request.args) request t

  within_answered : (bound : ℕ) (frame : Frame) (at : Position) (s : Statement) (t : State) → IsAnswered (within services source bound frame at s t)
  unfolding within
  within_answered zero frame at s t = tt
  within_answered (suc bound) frame at s t =
      answered_unit_of t _ t.fuel
      (act_answered (within services source bound) frame (within_answered bound frame) services source
      (call_answered (within services source bound) (within_answered bound) frame) at s)

  meaning_answered : (frame : Frame) (at : Position) (s : Statement) (t : State) → IsAnswered (meaning services source frame at s t)
  unfolding meaning
  meaning_answered frame at s t = within_answered t.fuel frame at s t

-- what is answered isn't missing
answered_is_there : {A S : Type 0} (x : Evaluation A S) → IsAnswered x → x ≢ Missing
answered_is_there Spent h = λ same. absurd (cc)
answered_is_there Missing h = λ same. h
answered_is_there (Done what state) h = λ same. absurd (cc)

pub methods_miss_nothing : MethodsMissNothing
unfolding method_meaning
methods_miss_nothing services source whole fuel method args index =
    answered_is_there (method_meaning services source fuel method args index)
    (body_answered services source whole (meaning services source) (meaning_answered services source whole) (method_at services method.0) method args index fuel)

pub tests_miss_nothing : TestsMissNothing
unfolding test_meaning
tests_miss_nothing services source whole test fuel =
    answered_is_there (test_meaning services test source fuel)
    (answered_then (statements_go (meaning services source) test_frame beginning test.body (test_state fuel)) test_run_of
    (statements_answered (meaning services source) test_frame (meaning_answered services source whole test_frame) beginning test.body (test_state fuel)) (λ flow u. tt))

pub plans_lack_nothing : PlansLackNothing
plans_lack_nothing kinds plan index callee args = λ same. absurd (cc)
