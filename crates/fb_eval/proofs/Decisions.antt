-- What comes of the decision on a call.
use Rattle.std.proofs.Common.{◌≡◌, ℕ, ◌+◌, Bool, true, false, List, Option, Some, None, Result, Ok, Err, IsErrAnd, length, refl, sym, ap, ◌∙◌, subst, arith}
use Rattle.fb_base.specs.declared.method.MethodId.{MethodId}
use Rattle.fb_base.specs.declared.reply.Reply.{Reply}
use Rattle.fb_base.specs.declared.value.Value.{Value}
use Rattle.fb_index.specs.Entry.{Occurrence}
use Rattle.fb_tree.specs.Records.{records_below, records_of}
use Rattle.fb_tree.specs.Runs.{Tree, How, Faulted, Ran, Known as KnownHow}
use Rattle.fb_tree.specs.ViewEquations.{view_node_opened}
use Rattle.fb_tree.specs.Views.{view_how, view_node}
use Rattle.fb_tree.specs.declared.node.How as how
use Rattle.fb_tree.specs.declared.node.Node.{Node, out-Node}
use Rattle.fb_transport.specs.declared.decision.Decision.{Decision}
use Rattle.fb_transport.specs.declared.decision.Decision.TheVariants.{Forward}
use Rattle.fb_transport.specs.declared.decision.Halt.{Halt}
use Rattle.fb_transport.specs.declared.decision.Halt.TheVariants as halt
use Rattle.fb_transport.specs.Sources.{Source, Answers, MayForward}
use Rattle.fb_meaning.specs.Evaluations.{Evaluation, Missing, Done, State}
use Rattle.fb_meaning.specs.Bodies.{PreparedCall, reply_of, returned, with_call}
use Rattle.fb_eval.specs.declared.body.Body.{Body}
use Rattle.fb_eval.specs.declared.progress.Progress.{Progress}
use Rattle.fb_eval.specs.declared.stop.Stop.{Stop}
use Rattle.fb_eval.specs.Means.{Here}
use Rattle.fb_eval.specs.Moments.{Moment, Passes, Comes, Decided, Invokes}
use Rattle.fb_eval.specs.States.{Stops, IsReady, here_of, invocations, state_of}
use Rattle.fb_eval.specs.Stops.{stop_of_halt}
use Rattle.fb_eval.specs.Ways.{lacks_decision}
use Rattle.fb_eval.proofs.Passing.{passes_stopped, passes_then}

-- ---- what is given at the index of the call

module _ (gives : Source) (callee : ℕ) (index at : List Occurrence) (args values : List Value) (there : index ≡ at) (same : args ≡ values) where
  asked_so : gives index callee args ≡ gives at callee values
  asked_so = (λ i. gives (there i) callee (same i))

  pub given_by : (decision other : Decision) → decision ≡ other → gives index callee args ≡ Some decision → gives at callee values ≡ Some other
  given_by decision other is e = sym asked_so ∙ e ∙ ap Some is

  pub given_none : gives index callee args ≡ None → gives at callee values ≡ None
  given_none e = sym asked_so ∙ e

pub may_forward : (forwards : Bool) (decision : Decision) → decision ≡ Forward → MayForward forwards (Ok decision) → forwards ≡ true
may_forward forwards decision is may = subst (λ d. MayForward forwards (Ok d)) is may

-- ---- a call that has returned

pub reply_got : (request : PreparedCall) (state after : State) (how view : How) (got given reply : Reply) (left : ℕ) → got ≡ given → given ≡ reply → view ≡ how
    → after ≡ with_call state request view given left → returned state request how reply left ≡ Done got after
reply_got request state after how view got given reply left same is seen e =
    (λ i. Done (sym (same ∙ is) i) (sym (e ∙ (λ j. with_call state request (seen j) (is j) left)) i))

pub reply_of_node : (node : Node) → (out-Node node).reply ≡ reply_of (view_node node)
reply_of_node node = sym (ap reply_of (view_node_opened node))

pub fault_seen : view_how how.Fault ≡ Faulted
unfolding view_how
fault_seen = refl

pub known_seen : (steps : ℕ) (injected : List MethodId) → view_how (how.Known steps injected) ≡ KnownHow steps injected
unfolding view_how
known_seen steps injected = refl

-- ---- the invocations below it

pub below_fault : (view : How) → view ≡ Faulted → length (records_below view) ≡ 0
unfolding records_of
below_fault view seen = ap (λ h. length (records_below h)) seen

pub below_known : (view : How) (steps : ℕ) (injected : List MethodId) → view ≡ KnownHow steps injected → length (records_below view) ≡ 0
unfolding records_of
below_known view steps injected seen = ap (λ h. length (records_below h)) seen

pub below_ran : (view : How) (tree : Tree) → view ≡ Ran tree → length (records_below view) ≡ length (records_of tree)
unfolding records_of
below_ran view tree seen = ap (λ h. length (records_below h)) seen

module _ (body : Body) where
  pub comes_returned : {start now : Progress} {before after : Moment} (k below : ℕ) → Passes k false (Unit {0}) before after → IsReady body now after.fuel
      → invocations now ≡ invocations start + below → after.evals ≡ before.evals + below → Comes k body start now before after
  comes_returned {start} {now} {before} {after} k below p ready more ticked = record { ready = ready; ticks = omega (arith, more, ticked); passes = p }

  -- there is no decision
  pub decision_stops : {means : Here → State → Evaluation Reply State} {start : Progress} {before after : Moment} {lacked : Type 0} (k : ℕ) (why : Halt) (given : Option Decision)
      (result : Result Reply Stop) → IsErrAnd result (λ stop. stop ≡ stop_of_halt why) → Answers given (Err why)
      → (given ≡ None → means (here_of body before.ways.gives) (state_of start before.fuel) ≡ Missing)
      → Passes k (lacks_decision {A = Decision} (Err why)) lacked before after → Decided k body means start start before after lacked result
  decision_stops {means} {start} {before} {after} {lacked} k why given (Ok x) is answers missing p = absurd is
  decision_stops {means} {start} {before} {after} {lacked} k halt.Missing given (Err stop) is answers missing p =
      subst (λ (w : Stop). Decided k body means start start before after lacked (Err w)) (sym is) (record { ends = missing answers; ready = tt; ticks = tt; passes = p })
  decision_stops {means} {start} {before} {after} {lacked} k halt.Memory given (Err stop) is answers missing p =
      subst (λ (w : Stop). Decided k body means start start before after lacked (Err w)) (sym is)
      (record { ends = tt; ready = tt; ticks = tt; passes = record { ways = p.ways; wanted = p.wanted; fuel = p.fuel; few = p.few; still = p.still } })

  -- the callee stops
  pub callee_stops : {means : Here → State → Evaluation Reply State} {start : Progress} {invoked : Evaluation Tree ℕ} {before middle after : Moment} {lacked : Type 0} {why : Stop}
      (result : Result Reply Stop) → IsErrAnd result (λ w. w ≡ why) → Passes 1 false (Unit {0}) before middle → Invokes invoked middle after lacked (Err why)
      → (Stops invoked why → Stops (means (here_of body before.ways.gives) (state_of start before.fuel)) why)
      → Decided 1 body means start start before after lacked result
  callee_stops {means} {start} {invoked} {before} {middle} {after} {lacked} {why} (Ok x) is p callee stops = absurd is
  callee_stops {means} {start} {invoked} {before} {middle} {after} {lacked} {why} (Err other) is p callee stops =
      subst (λ (w : Stop). Decided 1 body means start start before after lacked (Err w)) (sym is)
      (record {
        ends = stops callee.ends;
        ready = tt;
        ticks = tt;
        passes = passes_then 1 0 1 _ lacked (Unit {0}) before middle after (omega arith) p (passes_stopped Node Reply 0 lacked middle after why callee.passes);
      })
