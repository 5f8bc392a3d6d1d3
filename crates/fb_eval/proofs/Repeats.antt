-- The turns of a `repeat` and of a `for`.
use Rattle.std.proofs.Common.{◌≡◌, ℕ, suc, ◌≤◌, List, [], ◌∷◌, Result, Ok, Err, IsErrAnd, refl, sym, ap, ◌∙◌, arith}
use Rattle.fb_base.specs.declared.value.Value.{Value}
use Rattle.fb_syntax.specs.Trees.{Statements}
use Rattle.fb_meaning.specs.Evaluations.{Done, begun}
use Rattle.fb_meaning.specs.Positions.{Position}
use Rattle.fb_eval.specs.declared.body.Body.{Body}
use Rattle.fb_eval.specs.declared.flow.Flow.{Flow as FlowOf}
use Rattle.fb_eval.specs.declared.flow.Flow.TheVariants as flow
use Rattle.fb_eval.specs.declared.progress.Progress.{Progress}
use Rattle.fb_eval.specs.declared.stop.Stop.{Stop}
use Rattle.fb_eval.specs.declared.stop.Stop.TheVariants as stop
use Rattle.fb_eval.specs.Means.{block_means, repeat_means, for_means, turn_means}
use Rattle.fb_eval.specs.Moments.{Moment, Comes, Goes}
use Rattle.fb_eval.specs.States.{IsReady, IsReadyToCall, flow_of, here_of, invocations, state_of}
use Rattle.fb_eval.proofs.Ends.{stops_as}
use Rattle.fb_eval.proofs.Loops.{repeat_breaks, repeat_ends, repeat_goes_on, repeat_over, repeat_spent, repeat_stops, for_breaks, for_ends, for_goes_on, for_over, for_spent, for_stops}
use Rattle.fb_eval.proofs.Passing.{comes_begun, comes_first, comes_on, comes_then, ends_there, goes_done, goes_refused, goes_stopped, goes_unfed, passes_spending, passes_then}

-- ---- a `repeat`

-- so many turns are left
pub record RepeatLeft (body : Body) (inside : Position) (block : Statements) (times : ℕ) (start : Progress) (before : Moment) (left : ℕ) (now : Progress) (after : Moment) : Type 0 where
  pub means : repeat_means (here_of body before.ways.gives) inside block left (state_of now after.fuel)
      ≡ repeat_means (here_of body before.ways.gives) inside block times (state_of start before.fuel)
  pub comes : Comes 0 body start now before after

pub all_turns_left : {body : Body} {inside : Position} {block : Statements} {times : ℕ} {start : Progress} {before : Moment} (left : ℕ) → left ≡ times → IsReady body start before.fuel
    → RepeatLeft body inside block times start before left start before
all_turns_left {body} {inside} {block} {times} {start} {before} left same ready = record {
  means = ap (λ n. repeat_means (here_of body before.ways.gives) inside block n (state_of start before.fuel)) same;
  comes = comes_first body start before ready;
}

module _ {body : Body} {inside : Position} {block : Statements} {times : ℕ} {start : Progress} {before : Moment} {left : ℕ} {now : Progress} {after : Moment}
    (so_far : RepeatLeft body inside block times start before left now after) where
  pub turns_over : {lacked : Type 0} → left ≡ 0 → Goes 0 body (λ here. repeat_means here inside block times) start now before after lacked (Ok flow.Next)
  turns_over {lacked} none =
      goes_done body 0 0 (omega arith) so_far.comes (sym so_far.means ∙ repeat_over (here_of body before.ways.gives) inside block left (state_of now after.fuel) none)

  module _ (less : ℕ) (count : left ≡ suc less) where
    pub turn_unfed : {last : Progress} {lacked : Type 0} {result : Result FlowOf Stop} (fuel : ℕ) → IsErrAnd result (λ w. w ≡ stop.Spent) → after.fuel ≡ 0 → fuel ≤ after.fuel
        → Goes 0 body (λ here. repeat_means here inside block times) start last before (record after { fuel = fuel }) lacked result
    turn_unfed {last} {lacked} {result} fuel because spent less_fuel =
        goes_unfed body 0 result because
        (passes_then 0 0 0 _ _ _ before after (record after { fuel = fuel }) (omega arith) so_far.comes.passes (passes_spending after.ways after.wanted after.fuel fuel after.evals less_fuel))
        (sym so_far.means ∙ repeat_spent (here_of body before.ways.gives) inside block left less (state_of now after.fuel) count spent)

    module _ {one : Progress} {fuel : ℕ} (unit : after.fuel ≡ suc fuel) (begins : state_of one fuel ≡ begun fuel (state_of now after.fuel)) (ready : IsReadyToCall body one fuel)
        (alike : invocations one ≡ invocations now) where
      comes_one : Comes 0 body start one before (record after { fuel = fuel })
      comes_one = comes_on body so_far.comes (comes_begun body now one after.ways after.wanted after.fuel fuel after.evals unit ready alike)

      pub turn_stopped : {last : Progress} {end : Moment} {lacked : Type 0} {why : Stop} {result : Result FlowOf Stop} → IsErrAnd result (λ w. w ≡ why)
          → Goes 0 body (λ here. block_means here inside block) one last (record after { fuel = fuel }) end lacked (Err why)
          → Goes 0 body (λ here. repeat_means here inside block times) start last before end lacked result
      turn_stopped {last} {end} {lacked} {why} {result} because goes =
          goes_stopped body 0 0 0 result because (omega arith) comes_one goes
          (λ e. stops_as _ _ why (sym so_far.means)
          (repeat_stops (here_of body before.ways.gives) inside block left less count (state_of now after.fuel) (state_of one fuel) fuel unit begins why e))

      module _ {how : FlowOf} {last : Progress} {end : Moment} {lacked : Type 0} (goes : Goes 0 body (λ here. block_means here inside block) one last (record after { fuel = fuel }) end lacked (Ok how)) where
        comes_last : Comes 0 body start last before end
        comes_last = comes_then body 0 0 0 (omega arith) comes_one goes

        pub turn_broke : how ≡ flow.Broke → Goes 0 body (λ here. repeat_means here inside block times) start last before end lacked (Ok flow.Next)
        turn_broke broke =
            goes_done body 0 0 (omega arith) comes_last
            (sym so_far.means
            ∙ repeat_breaks (here_of body before.ways.gives) inside block left less count (state_of now after.fuel) (state_of one fuel) fuel unit begins (state_of last end.fuel)
            (ends_there body comes_one goes ∙ ap (λ f. Done (flow_of f) (state_of last end.fuel)) broke))

        pub turn_ended : (how ≡ flow.Next → ⊥) → (how ≡ flow.Broke → ⊥) → Goes 0 body (λ here. repeat_means here inside block times) start last before end lacked (Ok how)
        turn_ended other also =
            goes_done body 0 0 (omega arith) comes_last
            (sym so_far.means
            ∙ repeat_ends (here_of body before.ways.gives) inside block left less count (state_of now after.fuel) (state_of one fuel) fuel unit begins (state_of last end.fuel) how other also
            (ends_there body comes_one goes))

        pub turn_done : how ≡ flow.Next → RepeatLeft body inside block times start before less last end
        turn_done next = record {
          means = sym (repeat_goes_on (here_of body before.ways.gives) inside block left less count (state_of now after.fuel) (state_of one fuel) fuel unit begins (state_of last end.fuel)
              (ends_there body comes_one goes ∙ ap (λ f. Done (flow_of f) (state_of last end.fuel)) next))
              ∙ so_far.means;
          comes = comes_last;
        }

-- ---- a `for`

-- a turn is left for each of these items
pub record ItemsLeft (body : Body) (at inside : Position) (name : List ℕ) (block : Statements) (all : List Value) (start : Progress) (before : Moment) (left : List Value) (now : Progress)
    (after : Moment) : Type 0 where
  pub means : for_means (here_of body before.ways.gives) at inside name block left (state_of now after.fuel)
      ≡ for_means (here_of body before.ways.gives) at inside name block all (state_of start before.fuel)
  pub comes : Comes 0 body start now before after

pub all_items_left : {body : Body} {at inside : Position} {name : List ℕ} {block : Statements} {all : List Value} {start : Progress} {before : Moment} → IsReady body start before.fuel
    → ItemsLeft body at inside name block all start before all start before
all_items_left {body} {at} {inside} {name} {block} {all} {start} {before} ready = record { means = refl; comes = comes_first body start before ready }

module _ {body : Body} {at inside : Position} {name : List ℕ} {block : Statements} {all : List Value} {start : Progress} {before : Moment} {left : List Value} {now : Progress} {after : Moment}
    (so_far : ItemsLeft body at inside name block all start before left now after) where
  pub items_over : {lacked : Type 0} → left ≡ [] → Goes 0 body (λ here. for_means here at inside name block all) start now before after lacked (Ok flow.Next)
  items_over {lacked} none =
      goes_done body 0 0 (omega arith) so_far.comes (sym so_far.means ∙ for_over (here_of body before.ways.gives) at inside name block left (state_of now after.fuel) none)

  pub item_refused : {last : Progress} {lacked : Type 0} {result : Result FlowOf Stop} → IsErrAnd result (λ w. w ≡ stop.Memory)
      → Goes 0 body (λ here. for_means here at inside name block all) start last before after lacked result
  item_refused {last} {lacked} {result} because = goes_refused body 0 result because so_far.comes.passes

  module _ (item : Value) (items : List Value) (split : left ≡ item ∷ items) where
    pub item_unfed : {last : Progress} {lacked : Type 0} {result : Result FlowOf Stop} (fuel : ℕ) → IsErrAnd result (λ w. w ≡ stop.Spent) → after.fuel ≡ 0 → fuel ≤ after.fuel
        → Goes 0 body (λ here. for_means here at inside name block all) start last before (record after { fuel = fuel }) lacked result
    item_unfed {last} {lacked} {result} fuel because spent less_fuel =
        goes_unfed body 0 result because
        (passes_then 0 0 0 _ _ _ before after (record after { fuel = fuel }) (omega arith) so_far.comes.passes (passes_spending after.ways after.wanted after.fuel fuel after.evals less_fuel))
        (sym so_far.means ∙ for_spent (here_of body before.ways.gives) at inside name block left items item split (state_of now after.fuel) spent)

    module _ {one : Progress} {fuel : ℕ} (unit : after.fuel ≡ suc fuel) (begins : state_of one fuel ≡ begun fuel (state_of now after.fuel)) (ready : IsReadyToCall body one fuel)
        (alike : invocations one ≡ invocations now) where
      comes_to_item : Comes 0 body start one before (record after { fuel = fuel })
      comes_to_item = comes_on body so_far.comes (comes_begun body now one after.ways after.wanted after.fuel fuel after.evals unit ready alike)

      pub item_stopped : {last : Progress} {end : Moment} {lacked : Type 0} {why : Stop} {result : Result FlowOf Stop} → IsErrAnd result (λ w. w ≡ why)
          → Goes 0 body (λ here. turn_means here at inside name block item) one last (record after { fuel = fuel }) end lacked (Err why)
          → Goes 0 body (λ here. for_means here at inside name block all) start last before end lacked result
      item_stopped {last} {end} {lacked} {why} {result} because goes =
          goes_stopped body 0 0 0 result because (omega arith) comes_to_item goes
          (λ e. stops_as _ _ why (sym so_far.means)
          (for_stops (here_of body before.ways.gives) at inside name block left items item split (state_of now after.fuel) (state_of one fuel) fuel unit begins why e))

      module _ {how : FlowOf} {last : Progress} {end : Moment} {lacked : Type 0}
          (goes : Goes 0 body (λ here. turn_means here at inside name block item) one last (record after { fuel = fuel }) end lacked (Ok how)) where
        comes_behind : Comes 0 body start last before end
        comes_behind = comes_then body 0 0 0 (omega arith) comes_to_item goes

        pub item_broke : how ≡ flow.Broke → Goes 0 body (λ here. for_means here at inside name block all) start last before end lacked (Ok flow.Next)
        item_broke broke =
            goes_done body 0 0 (omega arith) comes_behind
            (sym so_far.means
            ∙ for_breaks (here_of body before.ways.gives) at inside name block left items item split (state_of now after.fuel) (state_of one fuel) fuel unit begins (state_of last end.fuel)
            (ends_there body comes_to_item goes ∙ ap (λ f. Done (flow_of f) (state_of last end.fuel)) broke))

        pub item_ended : (how ≡ flow.Next → ⊥) → (how ≡ flow.Broke → ⊥) → Goes 0 body (λ here. for_means here at inside name block all) start last before end lacked (Ok how)
        item_ended other also =
            goes_done body 0 0 (omega arith) comes_behind
            (sym so_far.means
            ∙ for_ends (here_of body before.ways.gives) at inside name block left items item split (state_of now after.fuel) (state_of one fuel) fuel unit begins (state_of last end.fuel) how other also
            (ends_there body comes_to_item goes))

        pub item_done : how ≡ flow.Next → ItemsLeft body at inside name block all start before items last end
        item_done next = record {
          means = sym (for_goes_on (here_of body before.ways.gives) at inside name block left items item split (state_of now after.fuel) (state_of one fuel) fuel unit begins (state_of last end.fuel)
              (ends_there body comes_to_item goes ∙ ap (λ f. Done (flow_of f) (state_of last end.fuel)) next))
              ∙ so_far.means;
          comes = comes_behind;
        }
