-- What is recorded of an invocation, and the steps that it took.
use Rattle.std.specs.Prelude.{ℕ, ◌+◌, List, [], ◌∷◌, ◌++◌}
use Rattle.fb_tree.specs.declared.asked.Asked.{Asked}
use Rattle.fb_tree.specs.declared.recorded.Record.{Record}
use Rattle.fb_tree.specs.Runs.{Tree, Invocation, CallList, NoCalls, AndCall, How, Faulted, Ran, Known, TestRun}

-- the requests of the calls with their replies, the first call first
abbrev pub asked_of : CallList → List Asked
asked_of NoCalls = []
asked_of (AndCall before asked how) = asked_of before ++ asked ∷ []

-- an invocation without those below it, which doesn't tell a fault from a callee that was evaluated
abbrev pub record_of : Tree → Record
record_of (Invocation method args calls reply steps) =
    record { method = method; args = args; calls = asked_of calls; reply = reply; steps = steps }

-- the records of all invocations, in the order in which they begin
unfoldable mutual
  pub records_of : Tree → List Record
  records_of (Invocation method args calls reply steps) =
      record_of (Invocation method args calls reply steps) ∷ records_in calls

  pub records_in : CallList → List Record
  records_in NoCalls = []
  records_in (AndCall before asked how) = records_in before ++ records_below how

  pub records_below : How → List Record
  records_below Faulted = []
  records_below (Ran tree) = records_of tree
  records_below (Known steps injected) = []

-- the steps of all bodies, those that are known with a call too
unfoldable mutual
  pub steps_of : Tree → ℕ
  steps_of (Invocation method args calls reply steps) = steps + steps_in calls

  pub steps_in : CallList → ℕ
  steps_in NoCalls = 0
  steps_in (AndCall before asked how) = steps_in before + steps_below how

  pub steps_below : How → ℕ
  steps_below Faulted = 0
  steps_below (Ran tree) = steps_of tree
  steps_below (Known steps injected) = steps

abbrev pub steps_of_run : TestRun → ℕ
steps_of_run run = run.steps + steps_in run.calls
