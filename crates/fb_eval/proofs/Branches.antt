-- The ways of a condition, of a list and of a call.
use Rattle.std.proofs.Common.{◌≡◌, ℕ, ◌+◌, Bool, true, false, List, Option, Some, None, Result, Ok, Err, IsErrAnd, sym, ap, ◌∙◌, arith}
use Rattle.std.specs.Option.{option_map}
use Rattle.fb_base.specs.declared.items.Items.{Items}
use Rattle.fb_base.specs.declared.reply.Reply.{Reply}
use Rattle.fb_syntax.specs.Trees.{Expression, Statements}
use Rattle.fb_meaning.specs.Evaluations.{Done, Flow, then_on}
use Rattle.fb_meaning.specs.Positions.{Position, past, block_counts}
use Rattle.fb_meaning.specs.Bodies.{fault_flow, values_in}
use Rattle.fb_eval.specs.declared.body.Body.{Body}
use Rattle.fb_eval.specs.declared.calling.Calling.{Calling}
use Rattle.fb_eval.specs.declared.calling.Prepared.{Prepared}
use Rattle.fb_eval.specs.declared.flow.Flow.{Flow as FlowOf}
use Rattle.fb_eval.specs.declared.flow.Flow.TheVariants as flow
use Rattle.fb_eval.specs.declared.progress.Progress.{Progress}
use Rattle.fb_eval.specs.declared.stop.Stop.{Stop}
use Rattle.fb_eval.specs.Calling.{calling_means, prepared_now, prepared_of, reply_means}
use Rattle.fb_eval.specs.Means.{block_means, decided_means, for_each_means, for_means, if_means, otherwise}
use Rattle.fb_eval.specs.Moments.{Moment, Decided, Goes}
use Rattle.fb_eval.specs.States.{IsReady, IsReadyToCall, condition_now, flow_of, here_of, items_now, state_of, whose_of}
use Rattle.fb_eval.proofs.Ends.{stops_by}
use Rattle.fb_eval.proofs.Passing.{comes_first, comes_then, goes_after, goes_by, goes_done, goes_stopped}
use Rattle.fb_eval.proofs.Rules.{if_true, if_false, if_fault, for_items, for_fault, call_fault, call_goes_on}

-- ---- a condition

module _ (body : Body) (at inside : Position) (cond : Expression) (block : Statements) (other : Option Statements) {start : Progress} {before : Moment} {holds : Option Bool}
    (is : holds ≡ condition_now body start cond) where
  pub branch_faults : {lacked : Type 0} {how : FlowOf} → IsReady body start before.fuel → holds ≡ None → flow_of how ≡ fault_flow (whose_of body.whose) (at.statements + 1)
      → Goes 0 body (λ here. if_means here at inside cond block other) start start before before lacked (Ok how)
  branch_faults {lacked} {how} ready none faults =
      goes_done body 0 0 (omega arith) (comes_first body start before ready)
      (if_fault (here_of body before.ways.gives) at inside cond block other (state_of start before.fuel) (sym is ∙ none) ∙ ap (λ (f : Flow). Done f (state_of start before.fuel)) (sym faults))

  pub branch_first : {last : Progress} {end : Moment} {lacked : Type 0} {result : Result FlowOf Stop} → holds ≡ Some true
      → Goes 0 body (λ here. block_means here inside block) start last before end lacked result → Goes 0 body (λ here. if_means here at inside cond block other) start last before end lacked result
  branch_first {last} {end} {lacked} {result} so goes =
      goes_by body 0 0 (omega arith) (if_true (here_of body before.ways.gives) at inside cond block other (state_of start before.fuel) (sym is ∙ so)) goes

  pub branch_none : {lacked : Type 0} → IsReady body start before.fuel → holds ≡ Some false → other ≡ None
      → Goes 0 body (λ here. if_means here at inside cond block other) start start before before lacked (Ok flow.Next)
  branch_none {lacked} ready so none =
      goes_done body 0 0 (omega arith) (comes_first body start before ready)
      (if_false (here_of body before.ways.gives) at inside cond block other (state_of start before.fuel) (sym is ∙ so)
      ∙ ap (λ o. otherwise (here_of body before.ways.gives) inside block o (state_of start before.fuel)) none)

  pub branch_other : {last : Progress} {end : Moment} {lacked : Type 0} {result : Result FlowOf Stop} {behind : Position} {second : Statements} → holds ≡ Some false → other ≡ Some second
      → behind ≡ past inside (block_counts block) → Goes 0 body (λ here. block_means here behind second) start last before end lacked result
      → Goes 0 body (λ here. if_means here at inside cond block other) start last before end lacked result
  branch_other {last} {end} {lacked} {result} {behind} {second} so some place goes =
      goes_by body 0 0 (omega arith)
      (if_false (here_of body before.ways.gives) at inside cond block other (state_of start before.fuel) (sym is ∙ so)
      ∙ ap (λ o. otherwise (here_of body before.ways.gives) inside block o (state_of start before.fuel)) some
      ∙ ap (λ p. block_means (here_of body before.ways.gives) p second (state_of start before.fuel)) (sym place)) goes

-- ---- a list

module _ (body : Body) (at inside : Position) (name : List ℕ) (over : Expression) (block : Statements) {start : Progress} {before : Moment} {list : Option Items}
    (is : option_map values_in list ≡ items_now body start over) where
  pub list_faults : {lacked : Type 0} {how : FlowOf} → IsReady body start before.fuel → list ≡ None → flow_of how ≡ fault_flow (whose_of body.whose) (at.statements + 1)
      → Goes 0 body (λ here. for_each_means here at inside name over block) start start before before lacked (Ok how)
  list_faults {lacked} {how} ready none faults =
      goes_done body 0 0 (omega arith) (comes_first body start before ready)
      (for_fault (here_of body before.ways.gives) at inside name over block (state_of start before.fuel) (sym is ∙ ap (option_map values_in) none)
      ∙ ap (λ (f : Flow). Done f (state_of start before.fuel)) (sym faults))

  pub list_goes : {last : Progress} {end : Moment} {lacked : Type 0} {result : Result FlowOf Stop} {items : Items} → list ≡ Some items
      → Goes 0 body (λ here. for_means here at inside name block (values_in items)) start last before end lacked result
      → Goes 0 body (λ here. for_each_means here at inside name over block) start last before end lacked result
  list_goes {last} {end} {lacked} {result} {items} some goes =
      goes_by body 0 0 (omega arith)
      (for_items (here_of body before.ways.gives) at inside name over block (state_of start before.fuel) (values_in items) (sym is ∙ ap (option_map values_in) some)) goes

-- ---- a call

module _ (body : Body) (call : Calling) (start : Progress) (before : Moment) {request : Option Prepared} (is : option_map prepared_of request ≡ prepared_now body start call)
    (ready : IsReadyToCall body start before.fuel) where
  pub call_faults : {lacked : Type 0} {how : FlowOf} → request ≡ None → flow_of how ≡ fault_flow (whose_of body.whose) (call.at.statements + 1)
      → Goes 1 body (λ here. calling_means here call) start start before before lacked (Ok how)
  call_faults {lacked} {how} none faults =
      goes_done body 0 1 (omega arith) (comes_first body start before ready.0)
      (call_fault (here_of body before.ways.gives) call.at call.inside _ _ _ _ _ (state_of start before.fuel) (sym is ∙ ap (option_map prepared_of) none)
      ∙ ap (λ (f : Flow). Done f (state_of start before.fuel)) (sym faults))

  module _ {asked : Prepared} (some : request ≡ Some asked) where
    goes_on : calling_means (here_of body before.ways.gives) call (state_of start before.fuel)
        ≡ then_on (decided_means (here_of body before.ways.gives) (prepared_of asked) (state_of start before.fuel)) (reply_means (here_of body before.ways.gives) call)
    goes_on =
        call_goes_on (here_of body before.ways.gives) call.at call.inside _ _ _ _ _ (state_of start before.fuel) (prepared_of asked) (sym is ∙ ap (option_map prepared_of) some)

    pub call_stopped : {last : Progress} {end : Moment} {lacked : Type 0} {why : Stop} {result : Result FlowOf Stop} → IsErrAnd result (λ w. w ≡ why)
        → Decided 1 body (λ here. decided_means here (prepared_of asked)) start last before end lacked (Err why)
        → Goes 1 body (λ here. calling_means here call) start last before end lacked result
    call_stopped {last} {end} {lacked} {why} {result} because decided =
        goes_stopped body 0 1 1 result because (omega arith) (comes_first body start before ready.0) decided
        (stops_by _ _ (reply_means (here_of body before.ways.gives) call) why goes_on)

    pub call_taken : {between last : Progress} {middle end : Moment} {lacked other : Type 0} {reply : Reply} {result : Result FlowOf Stop}
        → Decided 1 body (λ here. decided_means here (prepared_of asked)) start between before middle other (Ok reply)
        → Goes 0 body (λ here. reply_means here call reply) between last middle end lacked result
        → Goes 1 body (λ here. calling_means here call) start last before end lacked result
    call_taken {between} {last} {middle} {end} {lacked} {other} {reply} {result} decided goes =
        goes_after body 1 0 1 (omega arith) (comes_then body 0 1 1 (omega arith) (comes_first body start before ready.0) decided) goes
        (goes_on ∙ ap (λ x. then_on x (reply_means (here_of body before.ways.gives) call)) decided.ends)
