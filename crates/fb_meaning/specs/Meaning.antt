-- What methods and tests mean.
use Rattle.std.specs.Prelude.{ℕ, zero, suc, List, []}
use Rattle.fb_base.specs.declared.value.Value.{Value}
use Rattle.fb_index.specs.Entry.{Occurrence}
use Rattle.fb_syntax.specs.Trees.{ServicesTree, TestTree}
use Rattle.fb_base.specs.declared.method.MethodId.{MethodId}
use Rattle.fb_tree.specs.Runs.{Tree, TestRun, NoCalls}
use Rattle.fb_tree.specs.declared.outcome.Outcome.{Outcome}
use Rattle.fb_transport.specs.Sources.{Source}
use Rattle.fb_tree.specs.declared.outcome.Outcome.TheVariants as outcome
use Rattle.fb_meaning.specs.Evaluations.{Evaluation, Spent, Done, then_on, Flow, Ended, State, with_unit}
use Rattle.fb_meaning.specs.Positions.{beginning}
use Rattle.fb_meaning.specs.Bodies.{OfTest, Frame, Meaning, statements_go, method_goes, act}

module _ (services : ServicesTree) (source : Source) where
  -- by a bound on how many statements stand one inside another, callees' included: each takes a unit of fuel first, so
  -- where the bound is no less than the fuel it makes no difference
  unfoldable pub within : ℕ → Meaning
  within zero frame at s state = Spent
  within (suc bound) frame at s state = with_unit state (act services source (within bound) frame at s)

  -- a statement: one unit, and then what it does
  unfoldable pub meaning : Meaning
  meaning frame at s state = within state.fuel frame at s state

  -- a method on arguments at an index, with some fuel
  unfoldable pub method_meaning : ℕ → MethodId → List Value → List Occurrence → Evaluation Tree ℕ
  method_meaning fuel method args index = method_goes services meaning method args index fuel

-- ---- tests

abbrev pub test_frame : Frame
test_frame = record { whose = OfTest; index = [] }

abbrev pub test_state : ℕ → State
test_state fuel = record { variables = []; calls = NoCalls; fuel = fuel; steps = 0 }

-- a test that comes to its end has passed
abbrev pub outcome_of_flow : Flow → Outcome
outcome_of_flow (Ended how) = how
outcome_of_flow other = outcome.Passed

abbrev pub test_run_of : Flow → State → Evaluation TestRun ℕ
test_run_of flow state = Done (record { calls = state.calls; outcome = outcome_of_flow flow; steps = state.steps }) state.fuel

-- a test of these services, with some fuel
unfoldable pub test_meaning : ServicesTree → TestTree → Source → ℕ → Evaluation TestRun ℕ
test_meaning services test source fuel =
    then_on (statements_go (meaning services source) test_frame beginning test.body (test_state fuel)) test_run_of
