-- How an evaluation goes from one moment to another.
use Rattle.std.specs.Prelude.{◌≡◌, ℕ, ◌+◌, ◌≤◌, Bool, false, Option, Result, length, IfOk, OnOk}
use Rattle.fb_base.specs.declared.reply.Reply.{Reply}
use Rattle.fb_tree.specs.Records.{records_of}
use Rattle.fb_tree.specs.Runs.{Tree}
use Rattle.fb_tree.specs.Views.{view_node}
use Rattle.fb_tree.specs.declared.node.Node.{Node}
use Rattle.fb_transport.specs.declared.request.Request.{Request}
use Rattle.fb_meaning.specs.Evaluations.{Evaluation, Done, State, Going}
use Rattle.fb_eval.specs.declared.body.Body.{Body}
use Rattle.fb_eval.specs.declared.flow.Flow.{Flow as FlowOf}
use Rattle.fb_eval.specs.declared.progress.Progress.{Progress}
use Rattle.fb_eval.specs.declared.stop.Stop.{Stop}
use Rattle.fb_eval.specs.Ways.{Ways, WantedAfter, lacks_answer}
use Rattle.fb_eval.specs.Means.{Here}
use Rattle.fb_eval.specs.States.{Ends, IsReady, flow_of, here_of, invocations, state_of}

-- what an evaluation has at a moment, beside its body
pub record Moment : Type 0 where
  pub ways : Ways
  -- the last request that had no answer, where it is told
  pub wanted : Option Request
  -- the units that are left
  pub fuel : ℕ
  -- how many callees were evaluated
  pub evals : ℕ

abbrev pub moment : Ways → Option Request → ℕ → ℕ → Moment
moment ways wanted fuel evals = record { ways = ways; wanted = wanted; fuel = fuel; evals = evals }

-- from one moment to another, where so many units had been taken in advance: each callee takes a unit
pub record Passes (advance : ℕ) (lacks : Bool) (lacked : Type 0) (before after : Moment) : Type 0 where
  pub ways : after.ways ≡ before.ways
  pub wanted : WantedAfter lacks before.wanted after.wanted lacked
  pub fuel : after.fuel ≤ before.fuel
  pub few : after.evals + after.fuel ≤ before.evals + before.fuel + advance
  pub still : before.ways.forwards ≡ false → after.evals ≡ before.evals

-- a body has come from one point to another
pub record Comes (advance : ℕ) (body : Body) (start now : Progress) (before after : Moment) : Type 0 where
  pub ready : IsReady body now after.fuel
  pub ticks : after.evals + invocations start ≡ before.evals + invocations now
  pub passes : Passes advance false (Unit {0}) before after

-- a part of a body ends as it means, and if it is done, the body goes on from there
pub record GoesTo {A W : Type 0} (done : A → W) (advance : ℕ) (body : Body) (means : Here → State → Evaluation W State) (start now : Progress) (before after : Moment)
    (lacked : Type 0) (result : Result A Stop) : Type 0 where
  pub ends : Ends (means (here_of body before.ways.gives) (state_of start before.fuel)) (λ x. Done (done x) (state_of now after.fuel)) result
  pub ready : OnOk result (IsReady body now after.fuel)
  pub ticks : OnOk result (after.evals + invocations start ≡ before.evals + invocations now)
  pub passes : Passes advance (lacks_answer result) lacked before after

-- statements, and what stands in them
abbrev pub Goes : ℕ → Body → (Here → State → Going) → Progress → Progress → Moment → Moment → Type 0 → Result FlowOf Stop → Type 0
Goes = GoesTo flow_of

-- a decision, which gives a reply
abbrev pub Decided : ℕ → Body → (Here → State → Evaluation Reply State) → Progress → Progress → Moment → Moment → Type 0 → Result Reply Stop → Type 0
Decided = GoesTo (λ reply. reply)

-- an invocation ends as it means; its own body isn't among the callees
pub record Invokes (means : Evaluation Tree ℕ) (before after : Moment) (lacked : Type 0) (result : Result Node Stop) : Type 0 where
  pub ends : Ends means (λ node. Done (view_node node) after.fuel) result
  pub ticks : IfOk result (λ node. after.evals + 1 ≡ before.evals + length (records_of (view_node node)))
  pub passes : Passes 0 (lacks_answer result) lacked before after
