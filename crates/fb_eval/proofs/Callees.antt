-- A call that is decided, by what the source gives.
use Rattle.std.proofs.Common.{◌≡◌, ℕ, ◌+◌, ◌<◌, false, List, ◌∷◌, ◌++◌, [], length, Some, Result, Ok, Err, IsErrAnd, refl, sym, ap, ◌∙◌, arith}
use Rattle.fb_base.specs.declared.method.MethodId.{MethodId}
use Rattle.fb_base.specs.declared.reply.Reply.{Reply}
use Rattle.fb_base.specs.declared.value.Value.{Value}
use Rattle.fb_tree.specs.Records.{records_below}
use Rattle.fb_tree.specs.Runs.{Tree, How, Faulted, Ran, Known as KnownHow}
use Rattle.fb_tree.specs.Views.{view_how, view_node}
use Rattle.fb_tree.specs.declared.node.How as how
use Rattle.fb_tree.specs.declared.node.Node.{Node, out-Node}
use Rattle.fb_transport.specs.declared.decision.Decision.TheVariants.{Forward, Fault, Known}
use Rattle.fb_meaning.specs.Evaluations.{Evaluation, State, then_on}
use Rattle.fb_meaning.specs.Bodies.{PreparedCall, reply_of, returned, with_call}
use Rattle.fb_eval.specs.declared.body.Body.{Body}
use Rattle.fb_eval.specs.declared.progress.Progress.{Progress}
use Rattle.fb_eval.specs.declared.stop.Stop.{Stop}
use Rattle.fb_eval.specs.declared.stop.Stop.TheVariants as stop
use Rattle.fb_eval.specs.Means.{Here, decided_means, invocation_means}
use Rattle.fb_eval.specs.Moments.{Moment, Passes, Decided, Invokes}
use Rattle.fb_eval.specs.Ways.{Ways}
use Rattle.fb_eval.specs.States.{IsReady, here_of, invocations, state_of}
use Rattle.fb_eval.proofs.Decisions.{below_fault, below_known, below_ran, callee_stops, comes_returned, fault_seen, known_seen, reply_got, reply_of_node}
use Rattle.fb_eval.proofs.Ends.{stops_by}
use Rattle.fb_eval.proofs.Passing.{goes_done, goes_refused, goes_unfed, passes_by, passes_then}
use Rattle.fb_eval.proofs.Rules.{decided_fault, decided_forward, decided_known, decided_spent}

-- what is kept of a call that has returned
pub record Returns (body : Body) (request : PreparedCall) (view : How) (given : Reply) (start now : Progress) (fuel left : ℕ) (got : Reply) : Type 0 where
  pub reply : got ≡ given
  pub state : state_of now left ≡ with_call (state_of start fuel) request view given left
  pub ready : IsReady body now left
  pub more : invocations now ≡ invocations start + length (records_below view)

module _ (body : Body) where
  pub fault_returns : {request : PreparedCall} {start now : Progress} {before after : Moment} {lacked : Type 0} {given got : Reply}
      → Returns body request (view_how how.Fault) given start now before.fuel after.fuel got
      → before.ways.gives (body.index ++ request.entry ∷ []) request.callee.0 request.args ≡ Some (Fault given) → after.fuel ≡ before.fuel → after.evals ≡ before.evals
      → Passes 1 false (Unit {0}) before after → Decided 1 body (λ here. decided_means here request) start now before after lacked (Ok got)
  fault_returns {request} {start} {now} {before} {after} {lacked} {given} {got} returns is same_fuel same p =
      let counted : after.evals ≡ before.evals + length (records_below (view_how how.Fault)) = omega (arith, same, below_fault (view_how how.Fault) fault_seen) in
      goes_done body 1 1 (omega arith) (comes_returned body 1 (length (records_below (view_how how.Fault))) p returns.ready returns.more counted)
      (decided_fault (here_of body before.ways.gives) request (state_of start before.fuel) given is
      ∙ ap (λ left. returned (state_of start before.fuel) request Faulted given left) (sym same_fuel)
      ∙ reply_got request (state_of start before.fuel) (state_of now after.fuel) Faulted (view_how how.Fault) got given given after.fuel returns.reply refl fault_seen returns.state)

  pub known_returns : {request : PreparedCall} {start now : Progress} {before after : Moment} {lacked : Type 0} {given got : Reply} (steps : ℕ) (injected : List MethodId) → Returns body request (view_how (how.Known steps injected)) given start now before.fuel after.fuel got
      → before.ways.gives (body.index ++ request.entry ∷ []) request.callee.0 request.args ≡ Some (Known given steps injected) → before.fuel ≡ after.fuel + steps → after.evals ≡ before.evals
      → Passes 1 false (Unit {0}) before after → Decided 1 body (λ here. decided_means here request) start now before after lacked (Ok got)
  known_returns {request} {start} {now} {before} {after} {lacked} {given} {got} steps injected returns is fits same p =
      let view = view_how (how.Known steps injected) in
      let counted : after.evals ≡ before.evals + length (records_below view) = omega (arith, same, below_known view steps injected (known_seen steps injected)) in
      goes_done body 1 1 (omega arith) (comes_returned body 1 (length (records_below view)) p returns.ready returns.more counted)
      (decided_known (here_of body before.ways.gives) request (state_of start before.fuel) given steps after.fuel injected fits is
      ∙ reply_got request (state_of start before.fuel) (state_of now after.fuel) (KnownHow steps injected) view got given given after.fuel returns.reply refl (known_seen steps injected) returns.state)

  pub known_unfed : {start last : Progress} {before after : Moment} {lacked : Type 0} {given : Reply} {result : Result Reply Stop} (request : PreparedCall) (steps : ℕ) (injected : List MethodId) → IsErrAnd result (λ why. why ≡ stop.Spent)
      → before.ways.gives (body.index ++ request.entry ∷ []) request.callee.0 request.args ≡ Some (Known given steps injected) → before.fuel < steps
      → Passes 1 false (Unit {0}) before after → Decided 1 body (λ here. decided_means here request) start last before after lacked result
  known_unfed {start} {last} {before} {after} {lacked} {given} {result} request steps injected because is few p =
      goes_unfed body 1 result because p (decided_spent (here_of body before.ways.gives) request (state_of start before.fuel) given steps injected few is)

-- ---- a callee that is evaluated

-- memory is refused once it has returned
pub refused_behind : (body : Body) {means : Here → State → Evaluation Reply State} {start now : Progress} {invoked : Evaluation Tree ℕ} {before middle after : Moment} {lacked other : Type 0} {node : Node}
    (result : Result Reply Stop) → IsErrAnd result (λ why. why ≡ stop.Memory) → Passes 1 false (Unit {0}) before middle → Invokes invoked middle after other (Ok node)
    → Decided 1 body means start now before after lacked result
refused_behind body {means} {start} {now} {invoked} {before} {middle} {after} {lacked} {other} {node} result because p invokes =
    goes_refused body 1 result because
    (passes_then 1 0 1 false (Unit {0}) (Unit {0}) before middle after (omega arith) p (passes_by 0 0 other (Unit {0}) middle after (omega arith) invokes.passes))

-- the invocation of what is asked for is evaluated, on copies of the arguments
pub record IsAsked (body callee : Body) (request : PreparedCall) (ways next : Ways) (args : List Value) : Type 0 where
  pub program : callee.program.now ≡ body.program.now
  pub same : next ≡ ways
  pub copied : args ≡ request.args
  pub index : callee.index ≡ body.index ++ request.entry ∷ []
  pub given : ways.gives (body.index ++ request.entry ∷ []) request.callee.0 request.args ≡ Some Forward

module _ {body callee : Body} {request : PreparedCall} {args : List Value} (before middle : Moment) (asked : IsAsked body callee request before.ways middle.ways args)
    (same_fuel : middle.fuel ≡ before.fuel) (start : Progress) where
  same_invocation : invocation_means body.program.now.tree before.ways.gives request.callee request.args (body.index ++ request.entry ∷ []) before.fuel
      ≡ invocation_means callee.program.now.tree middle.ways.gives request.callee args callee.index middle.fuel
  same_invocation = sym (λ i. invocation_means (asked.program i).tree (asked.same i).gives request.callee (asked.copied i) (asked.index i) (same_fuel i))

  abbrev goes : Tree → ℕ → Evaluation Reply State
  goes tree left = returned (state_of start before.fuel) request (Ran tree) (reply_of tree) left

  decides : decided_means (here_of body before.ways.gives) request (state_of start before.fuel)
      ≡ then_on (invocation_means callee.program.now.tree middle.ways.gives request.callee args callee.index middle.fuel) goes
  decides = decided_forward (here_of body before.ways.gives) request (state_of start before.fuel) asked.given ∙ ap (λ x. then_on x goes) same_invocation

  pub callee_stopped : {after : Moment} {lacked : Type 0} {why : Stop} {result : Result Reply Stop} → IsErrAnd result (λ w. w ≡ why) → Passes 1 false (Unit {0}) before middle
      → Invokes (invocation_means callee.program.now.tree middle.ways.gives request.callee args callee.index middle.fuel) middle after lacked (Err why)
      → Decided 1 body (λ here. decided_means here request) start start before after lacked result
  callee_stopped {after} {lacked} {why} {result} because p invokes = callee_stops body result because p invokes (λ e. stops_by _ _ goes why decides e)

  pub callee_returns : {after : Moment} {lacked other : Type 0} {now : Progress} {given got : Reply} {view : How} (node : Node)
      → Invokes (invocation_means callee.program.now.tree middle.ways.gives request.callee args callee.index middle.fuel) middle after other (Ok node)
      → Returns body request view given start now before.fuel after.fuel got → view ≡ Ran (view_node node) → given ≡ (out-Node node).reply → middle.evals ≡ before.evals + 1
      → Passes 1 false (Unit {0}) before middle → Decided 1 body (λ here. decided_means here request) start now before after lacked (Ok got)
  callee_returns {after} {lacked} {other} {now} {given} {got} {view} node invokes returns seen replied one p =
      let counted : after.evals ≡ before.evals + length (records_below view) = omega (arith, invokes.ticks, one, below_ran view (view_node node) seen) in
      goes_done body 1 1 (omega arith)
      (comes_returned body 1 (length (records_below view)) (passes_then 1 0 1 false (Unit {0}) (Unit {0}) before middle after (omega arith) p (passes_by 0 0 other (Unit {0}) middle after (omega arith) invokes.passes))
      returns.ready returns.more counted)
      (decides ∙ ap (λ x. then_on x goes) invokes.ends
      ∙ reply_got request (state_of start before.fuel) (state_of now after.fuel) (Ran (view_node node)) view got given (reply_of (view_node node)) after.fuel returns.reply
      (replied ∙ reply_of_node node) seen returns.state)
