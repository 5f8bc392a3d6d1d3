-- The numbers of outcomes are counted from 1.
use Rattle.std.specs.Prelude.{◌≡◌, ℕ, zero, suc, ◌+◌, Bool, true, false, List, [], ◌∷◌, length, Option, Some, None, ⊤}
use Rattle.std.proofs.Common.{refl, sym, ap, subst, arith}
use Rattle.fb_base.specs.declared.value.Value.{Value}
use Rattle.fb_base.specs.declared.reply.Reply.{Reply}
use Rattle.fb_base.specs.declared.reply.Reply.TheVariants as reply
use Rattle.fb_syntax.specs.Trees.{Expression, Expressions, Statement, Let, Assign, If, IfElse, Repeat, For, Break, Return, Fail, Call, Assert, Statements, NoStatements, AndStatements, Handlers, NoHandlers, AndHandlers, ServicesTree, TestTree}
use Rattle.fb_tree.specs.Runs.{TestRun}
use Rattle.fb_transport.specs.Sources.{Source}
use Rattle.fb_meaning.specs.Evaluations.{Evaluation, Spent, Missing, Done, then_on, Flow, Next, Broke, Gave, Ended, NamedValue, State, Going, with_unit, with_unit_of, on_next, on_turn, on_leave, leave}
use Rattle.fb_meaning.specs.Expressions.{◌>>=◌}
use Rattle.fb_meaning.specs.Variables.{with_variable, with_value_of}
use Rattle.fb_meaning.specs.Positions.{Position, beginning, past, one_block, statement_counts, block_counts}
use Rattle.fb_meaning.specs.Bodies.{Whose, OfMethod, OfTest, Frame, Meaning, PreparedCall, fault_flow, unhandled_flow, answer_flow, assert_flow, truth_of, items_of, value_here, with_some, with_variables, statements_go, block_goes, inside_of, prepared, decided, catches, handled, taken, repeat_goes, turn_goes, for_goes, chosen, act}
use Rattle.fb_meaning.specs.Meaning.{within, meaning, test_meaning, test_frame, test_state, test_run_of, outcome_of_flow}
use Rattle.fb_report.specs.Ranges.{IsCounted}

-- where a body ends the test, it is with such an outcome
abbrev FlowCounts : Flow → Type 0
FlowCounts Next = ⊤
FlowCounts Broke = ⊤
FlowCounts (Gave answer) = ⊤
FlowCounts (Ended how) = IsCounted how

abbrev Counts : Going → Type 0
Counts Spent = ⊤
Counts Missing = ⊤
Counts (Done flow state) = FlowCounts flow

then_counts : {A : Type 0} (x : Evaluation A State) (go : A → State → Going) → ((what : A) (t : State) → Counts (go what t)) → Counts (then_on x go)
then_counts Spent go k = tt
then_counts Missing go k = tt
then_counts (Done what t) go k = k what t

flow_counts : (x : Going) (go : Flow → State → Going) → Counts x → ((flow : Flow) (t : State) → FlowCounts flow → Counts (go flow t)) → Counts (then_on x go)
flow_counts Spent go h k = tt
flow_counts Missing go h k = tt
flow_counts (Done flow t) go h k = k flow t h

next_counts : (go : State → Going) → ((t : State) → Counts (go t)) → (flow : Flow) (t : State) → FlowCounts flow → Counts (on_next go flow t)
next_counts go k Next t h = k t
next_counts go k Broke t h = tt
next_counts go k (Gave answer) t h = tt
next_counts go k (Ended how) t h = h

turn_counts : (go : State → Going) → ((t : State) → Counts (go t)) → (flow : Flow) (t : State) → FlowCounts flow → Counts (on_turn go flow t)
turn_counts go k Next t h = k t
turn_counts go k Broke t h = tt
turn_counts go k (Gave answer) t h = tt
turn_counts go k (Ended how) t h = h

unit_counts : (go : State → Going) → ((t : State) → Counts (go t)) → (a : State) (fuel : ℕ) → Counts (with_unit_of a go fuel)
unit_counts go k a zero = tt
unit_counts go k a (suc left) = k _

fault_counts : (whose : Whose) (n : ℕ) → FlowCounts (fault_flow whose (n + 1))
fault_counts OfMethod n = tt
fault_counts OfTest n = omega arith

unhandled_counts : (whose : Whose) (n : ℕ) (code : List ℕ) → FlowCounts (unhandled_flow whose (n + 1) code)
unhandled_counts OfMethod n code = tt
unhandled_counts OfTest n code = omega arith

module _ (run : Meaning) (frame : Frame) (counts : (at : Position) (s : Statement) (t : State) → Counts (run frame at s t)) where
  some_counts : {A : Type 0} (at : Position) (t : State) (o : Option A) (go : A → Going) → ((x : A) → Counts (go x)) → Counts (with_some frame.whose at t o go)
  some_counts at t None go k = fault_counts frame.whose at.statements
  some_counts at t (Some x) go k = k x

  variables_count : (at : Position) (t : State) (o : Option (List NamedValue)) (go : State → Going) → ((u : State) → Counts (go u)) → Counts (with_variables frame.whose at t o go)
  variables_count at t None go k = fault_counts frame.whose at.statements
  variables_count at t (Some variables) go k = k _

  statements_count : (at : Position) (ss : Statements) (t : State) → Counts (statements_go run frame at ss t)
  statements_count at NoStatements t = tt
  statements_count at (AndStatements s ss) t =
      flow_counts (run frame at s t) _ (counts at s t) (next_counts _ (statements_count (past at (statement_counts s)) ss))

  block_count : (at : Position) (ss : Statements) (t : State) → Counts (block_goes run frame at ss t)
  block_count at ss t = flow_counts (statements_go run frame (past at one_block) ss t) (on_leave (length t.variables)) (statements_count (past at one_block) ss t) (λ flow u h. h)

  chosen_counts : (at : Position) (body : Statements) (other : State → Going) (holds : Bool) (t : State) → Counts (other t) → Counts (chosen run frame at body other holds t)
  chosen_counts at body other true t h = block_count at body t
  chosen_counts at body other false t h = h

  repeat_counts : (at : Position) (body : Statements) (n : ℕ) (t : State) → Counts (repeat_goes run frame at body n t)
  repeat_counts at body zero t = tt
  repeat_counts at body (suc n) t =
      unit_counts _ (λ u. flow_counts (block_goes run frame at body u) _ (block_count at body u) (turn_counts _ (repeat_counts at body n))) t t.fuel

  turn_goes_count : (at inside : Position) (name : List ℕ) (body : Statements) (item : Value) (t : State) → Counts (turn_goes run frame at inside name body item t)
  turn_goes_count at inside name body item t =
      variables_count at t (with_variable name item t.variables) (λ u. leave (length t.variables) (statements_go run frame (past inside one_block) body u))
      (λ u. flow_counts (statements_go run frame (past inside one_block) body u) (on_leave (length t.variables)) (statements_count (past inside one_block) body u) (λ flow v h. h))

  for_counts : (at inside : Position) (name : List ℕ) (body : Statements) (items : List Value) (t : State) → Counts (for_goes run frame at inside name body items t)
  for_counts at inside name body [] t = tt
  for_counts at inside name body (item ∷ items) t =
      unit_counts _ (λ u. flow_counts (turn_goes run frame at inside name body item u) _ (turn_goes_count at inside name body item u)
      (turn_counts _ (for_counts at inside name body items))) t t.fuel

  handled_counts : (site : ℕ) (at : Position) (code : List ℕ) (hs : Handlers) (t : State) → Counts (handled run frame (site + 1) at code hs t)
  handled_counts site at code NoHandlers t = unhandled_counts frame.whose site code
  handled_counts site at code (AndHandlers wanted body hs) t =
      chosen_counts at body _ (catches wanted code) t (handled_counts site (past at (block_counts body)) code hs t)

  taken_counts : (at inside : Position) (target : List ℕ) (hs : Handlers) (got : Reply) (t : State) → Counts (taken run frame at inside target hs got t)
  taken_counts at inside target hs (reply.Ok v) t = variables_count at t (with_value_of target v t.variables) (Done Next) (λ u. tt)
  taken_counts at inside target hs (reply.Err code) t = handled_counts at.sites inside code hs t

  module _ (services : ServicesTree) (source : Source) where
    abbrev found : State → Expression → Option Value
    found t e = value_here services frame.whose t e

    answer_counts : (whose : Whose) (answer : Reply) (at : Position) (t : State) → Counts (with_some frame.whose at t (answer_flow whose answer) (λ flow. Done flow t))
    answer_counts OfMethod answer at t = tt
    answer_counts OfTest answer at t = fault_counts frame.whose at.statements

    value_counts : (whose : Whose) (o : Option Value) (at : Position) (t : State)
        → Counts (with_some frame.whose at t (o >>= λ v. answer_flow whose (reply.Ok v)) (λ flow. Done flow t))
    value_counts whose None at t = fault_counts frame.whose at.statements
    value_counts whose (Some v) at t = answer_counts whose (reply.Ok v) at t

    held_counts : (whose : Whose) (n : ℕ) (holds : Bool) (at : Position) (t : State) → Counts (with_some frame.whose at t (assert_flow whose (n + 1) holds) (λ flow. Done flow t))
    held_counts OfMethod n holds at t = fault_counts frame.whose at.statements
    held_counts OfTest n true at t = tt
    held_counts OfTest n false at t = omega arith

    assert_counts : (whose : Whose) (n : ℕ) (o : Option Bool) (at : Position) (t : State)
        → Counts (with_some frame.whose at t (o >>= assert_flow whose (n + 1)) (λ flow. Done flow t))
    assert_counts whose n None at t = fault_counts frame.whose at.statements
    assert_counts whose n (Some holds) at t = held_counts whose n holds at t

    act_counts : (at : Position) (s : Statement) (t : State) → Counts (act services source run frame at s t)
    unfolding act
    act_counts at (Let name value) t = variables_count at t (found t value >>= λ v. with_variable name v t.variables) (Done Next) (λ u. tt)
    act_counts at (Assign name value) t = variables_count at t (found t value >>= λ v. with_value_of name v t.variables) (Done Next) (λ u. tt)
    act_counts at (If cond body) t =
        some_counts at t (found t cond >>= truth_of) _ (λ holds. chosen_counts (inside_of at (If cond body)) body (Done Next) holds t tt)
    act_counts at (IfElse cond body other) t =
        let behind = past (inside_of at (IfElse cond body other)) (block_counts body) in
        some_counts at t (found t cond >>= truth_of) _
        (λ holds. chosen_counts (inside_of at (IfElse cond body other)) body (block_goes run frame behind other) holds t (block_count behind other t))
    act_counts at (Repeat times body) t = repeat_counts (inside_of at (Repeat times body)) body times t
    act_counts at (For name over body) t =
        some_counts at t (found t over >>= items_of) _ (λ items. for_counts at (inside_of at (For name over body)) name body items t)
    act_counts at Break t = tt
    act_counts at (Return value) t = value_counts frame.whose (found t value) at t
    act_counts at (Fail code) t = answer_counts frame.whose (reply.Err code) at t
    act_counts at (Call target service method args handlers) t =
        some_counts at t (prepared services frame.whose at service method args t) _
        (λ request. then_counts (decided services source run frame request t) (taken run frame at (inside_of at (Call target service method args handlers)) target handlers)
        (taken_counts at (inside_of at (Call target service method args handlers)) target handlers))
    act_counts at (Assert cond) t = assert_counts frame.whose at.asserts (found t cond >>= truth_of) at t

module _ (services : ServicesTree) (source : Source) where
  within_counts : (bound : ℕ) (frame : Frame) (at : Position) (s : Statement) (t : State) → Counts (within services source bound frame at s t)
  unfolding within
  within_counts zero frame at s t = tt
  within_counts (suc bound) frame at s t =
      unit_counts _ (act_counts (within services source bound) frame (within_counts bound frame) services source at s) t t.fuel

  meaning_counts : (frame : Frame) (at : Position) (s : Statement) (t : State) → Counts (meaning services source frame at s t)
  unfolding meaning
  meaning_counts frame at s t = within_counts t.fuel frame at s t

  outcome_counts : (flow : Flow) → FlowCounts flow → IsCounted (outcome_of_flow flow)
  outcome_counts Next h = tt
  outcome_counts Broke h = tt
  outcome_counts (Gave answer) h = tt
  outcome_counts (Ended how) h = h

  ended_counts : (x : Going) (run : TestRun) (left : ℕ) → Counts x → then_on x test_run_of ≡ Done run left → IsCounted run.outcome
  ended_counts Spent run left h e = absurd (cc)
  ended_counts Missing run left h e = absurd (cc)
  ended_counts (Done flow u) run left h e =
      let same : record { calls = u.calls; outcome = outcome_of_flow flow; steps = u.steps } ≡ run = cc in
      subst IsCounted (ap (λ r. r.outcome) same) (outcome_counts flow h)

  pub test_counts : (test : TestTree) (fuel : ℕ) (run : TestRun) (left : ℕ) → test_meaning services test source fuel ≡ Done run left → IsCounted run.outcome
  unfolding test_meaning
  test_counts test fuel run left e =
      ended_counts _ run left (statements_count (meaning services source) test_frame (meaning_counts test_frame) beginning test.body (test_state fuel)) e
