-- Runs as plain data. Lists of calls are data of their own, with the last call outermost.
use Rattle.std.specs.Prelude.{ℕ, List}
use Rattle.fb_base.specs.declared.method.MethodId.{MethodId}
use Rattle.fb_base.specs.declared.value.Value.{Value}
use Rattle.fb_base.specs.declared.reply.Reply.{Reply}
use Rattle.fb_tree.specs.declared.asked.Asked.{Asked}
use Rattle.fb_tree.specs.declared.outcome.Outcome.{Outcome}

mutual
  -- an invocation: the method, its arguments, its calls, its reply, the steps of its own body
  pub data Tree : Type 0 where
    Invocation : MethodId → List Value → CallList → Reply → ℕ → Tree

  pub data CallList : Type 0 where
    NoCalls : CallList
    -- the calls before it, its request and reply, and how it got the reply
    AndCall : CallList → Asked → How → CallList

  pub data How : Type 0 where
    -- a fault was injected
    Faulted : How
    -- the callee was evaluated
    Ran : Tree → How
    -- the reply was known, with all steps below the call and the callees of the injected calls there
    Known : ℕ → List MethodId → How

-- an evaluation of a test: its calls, how it ended, the steps of its own body
pub record TestRun : Type 0 where
  pub calls : CallList
  pub outcome : Outcome
  pub steps : ℕ
