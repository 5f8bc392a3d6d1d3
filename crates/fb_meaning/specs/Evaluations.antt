-- How an evaluation goes on: it takes units of fuel, and may lack an answer to a call.
use Rattle.std.specs.Prelude.{ℕ, zero, suc, List, take}
use Rattle.fb_base.specs.declared.value.Value.{Value}
use Rattle.fb_base.specs.declared.reply.Reply.{Reply}
use Rattle.fb_tree.specs.Runs.{CallList}
use Rattle.fb_tree.specs.declared.outcome.Outcome.{Outcome}

-- it needs more than its fuel, it lacks an answer, or it is done with something, in some state
pub data Evaluation (What State : Type 0) : Type 0 where
  Spent : Evaluation What State
  Missing : Evaluation What State
  Done : What → State → Evaluation What State

-- on with what is done
abbrev pub then_on : {A B S T : Type 0} → Evaluation A S → (A → S → Evaluation B T) → Evaluation B T
then_on Spent go = Spent
then_on Missing go = Missing
then_on (Done what state) go = go what state

-- ---- bodies

-- where a body goes on
pub data Flow : Type 0 where
  -- with the next statement
  Next : Flow
  -- behind the innermost loop
  Broke : Flow
  -- nowhere: the method answers
  Gave : Reply → Flow
  -- nowhere: the test ends
  Ended : Outcome → Flow

pub record NamedValue : Type 0 where
  pub name : List ℕ
  pub value : Value

-- what a body has while it is executed
pub record State : Type 0 where
  -- the variables in scope, from the first declared to the last
  pub variables : List NamedValue
  -- the calls that it has made
  pub calls : CallList
  -- the units that are left
  pub fuel : ℕ
  -- the units that its own statements and turns took
  pub steps : ℕ

abbrev pub holding : List NamedValue → State → State
holding variables state = record state { variables = variables }

-- how a body goes on from a state
abbrev pub Going : Type 0
Going = Evaluation Flow State

-- a unit is taken, and so many are left
abbrev pub begun : ℕ → State → State
begun left state = record state { fuel = left; steps = suc state.steps }

abbrev pub with_unit_of : State → (State → Going) → ℕ → Going
with_unit_of state go zero = Spent
with_unit_of state go (suc left) = go (begun left state)

-- one unit of fuel, and on; without one it is spent
abbrev pub with_unit : State → (State → Going) → Going
with_unit state go = with_unit_of state go state.fuel

-- on with the next statement; all else ends the block too
abbrev pub on_next : (State → Going) → Flow → State → Going
on_next go Next state = go state
on_next go other state = Done other state

abbrev pub then_next : Going → (State → Going) → Going
then_next x go = then_on x (on_next go)

-- on with the next turn; a `break` ends the loop, and all else ends what is around it too
abbrev pub on_turn : (State → Going) → Flow → State → Going
on_turn go Next state = go state
on_turn go Broke state = Done Next state
on_turn go other state = Done other state

abbrev pub then_turn : Going → (State → Going) → Going
then_turn x go = then_on x (on_turn go)

-- so many of the variables stay; those that were declared after them end
abbrev pub on_leave : ℕ → Flow → State → Going
on_leave count flow state = Done flow (holding (take count state.variables) state)

abbrev pub leave : ℕ → Going → Going
leave count x = then_on x (on_leave count)
