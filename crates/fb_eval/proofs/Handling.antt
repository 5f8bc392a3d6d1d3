-- The handlers of a call, one after another.
use Rattle.std.proofs.Common.{◌≡◌, ℕ, ◌≤◌, ◌<◌, true, false, List, length, get_or, map, Result, Ok, refl, sym, ap, ◌∙◌, subst, arith}
use Rattle.fb_syntax.specs.declared.stmt.Handler.{Handler}
use Rattle.fb_syntax.specs.Trees.{Handlers, AndHandlers}
use Rattle.fb_syntax.specs.Views.{view_block, view_handler, handlers_of}
use Rattle.fb_meaning.specs.Evaluations.{Done, Flow}
use Rattle.fb_meaning.specs.Positions.{Position, past, block_counts}
use Rattle.fb_meaning.specs.Bodies.{catches, unhandled_flow}
use Rattle.fb_eval.specs.declared.body.Body.{Body}
use Rattle.fb_eval.specs.declared.flow.Flow.{Flow as FlowOf}
use Rattle.fb_eval.specs.declared.progress.Progress.{Progress}
use Rattle.fb_eval.specs.declared.stop.Stop.{Stop}
use Rattle.fb_eval.specs.Places.{BlockStands, HandlersStand}
use Rattle.fb_eval.specs.Means.{block_means, handled_means}
use Rattle.fb_eval.specs.Moments.{Moment, Comes, Goes}
use Rattle.fb_eval.specs.States.{IsReady, flow_of, here_of, state_of, whose_of}
use Rattle.fb_eval.proofs.Called.{handlers_split, handlers_over}
use Rattle.fb_eval.proofs.Passing.{comes_first, goes_after, goes_done}
use Rattle.fb_eval.proofs.Places.{handler_stands, further_handlers_stand}
use Rattle.fb_eval.proofs.Rules.{handled_here, handled_further}
use Rattle.fb_eval.proofs.Sequences.{rest_of, rest_is}

abbrev pub handlers_viewed : List Handler → Handlers
handlers_viewed handlers = handlers_of (map view_handler handlers)

-- none of the handlers before these takes the error
pub record HandlersLeft (body : Body) (site : ℕ) (code : List ℕ) (first : Position) (all : List Handler) (start : Progress) (before : Moment) (left : List Handler) (at : Position) (now : Progress)
    (after : Moment) : Type 0 where
  pub means : handled_means (here_of body before.ways.gives) site at code (handlers_viewed left) (state_of now after.fuel)
      ≡ handled_means (here_of body before.ways.gives) site first code (handlers_viewed all) (state_of start before.fuel)
  pub stands : HandlersStand body.counts.now at (handlers_viewed left)
  pub comes : Comes 0 body start now before after

pub all_handlers_left : {body : Body} {site : ℕ} {code : List ℕ} {at : Position} {all : List Handler} {start : Progress} {before : Moment} → HandlersStand body.counts.now at (handlers_viewed all)
    → IsReady body start before.fuel → HandlersLeft body site code at all start before all at start before
all_handlers_left {body} {site} {code} {at} {all} {start} {before} stands ready = record { means = refl; stands = stands; comes = comes_first body start before ready }

module _ {body : Body} {site : ℕ} {code : List ℕ} {first : Position} {all : List Handler} {start : Progress} {before : Moment} {left : List Handler} {at : Position} {now : Progress} {after : Moment}
    (so_far : HandlersLeft body site code first all start before left at now after) where
  pub unhandled_goes : {lacked : Type 0} {how : FlowOf} → length left < 1 → flow_of how ≡ unhandled_flow (whose_of body.whose) site code
      → Goes 0 body (λ here. handled_means here site first code (handlers_viewed all)) start now before after lacked (Ok how)
  unhandled_goes {lacked} {how} none is =
      goes_done body 0 0 (omega arith) so_far.comes
      (sym so_far.means ∙ handlers_over (here_of body before.ways.gives) site at code left (state_of now after.fuel) none ∙ ap (λ (f : Flow). Done f (state_of now after.fuel)) (sym is))

  module _ {h : Handler} (some : 1 ≤ length left) (is : h ≡ get_or left 0 h) where
    split : handlers_viewed left ≡ AndHandlers h.code (view_block h.body) (handlers_viewed (rest_of left))
    split = handlers_split left (rest_of left) h some is (rest_is left)

    parts_stand : HandlersStand body.counts.now at (AndHandlers h.code (view_block h.body) (handlers_viewed (rest_of left)))
    parts_stand = subst (λ hs. HandlersStand body.counts.now at hs) split so_far.stands

    pub next_block_stands : BlockStands body.counts.now at (view_block h.body)
    next_block_stands = handler_stands body.counts.now at h.code (view_block h.body) (handlers_viewed (rest_of left)) parts_stand

    pub handled_goes : {last : Progress} {end : Moment} {lacked : Type 0} {result : Result FlowOf Stop} → catches h.code code ≡ true
        → Goes 0 body (λ here. block_means here at (view_block h.body)) now last after end lacked result
        → Goes 0 body (λ here. handled_means here site first code (handlers_viewed all)) start last before end lacked result
    handled_goes {last} {end} {lacked} {result} taken goes =
        goes_after body 0 0 0 (omega arith) so_far.comes goes
        (sym so_far.means ∙ ap (λ hs. handled_means (here_of body before.ways.gives) site at code hs (state_of now after.fuel)) split
        ∙ handled_here (here_of body before.ways.gives) site at code h.code (view_block h.body) (handlers_viewed (rest_of left)) (state_of now after.fuel) taken)

    pub handler_passed : {behind : Position} → catches h.code code ≡ false → behind ≡ past at (block_counts (view_block h.body))
        → HandlersLeft body site code first all start before (rest_of left) behind now after
    handler_passed {behind} other place = record {
      means = sym (ap (λ hs. handled_means (here_of body before.ways.gives) site at code hs (state_of now after.fuel)) split
          ∙ handled_further (here_of body before.ways.gives) site at code h.code (view_block h.body) (handlers_viewed (rest_of left)) (state_of now after.fuel) other
          ∙ ap (λ p. handled_means (here_of body before.ways.gives) site p code (handlers_viewed (rest_of left)) (state_of now after.fuel)) (sym place))
          ∙ so_far.means;
      stands = subst (λ p. HandlersStand body.counts.now p (handlers_viewed (rest_of left))) (sym place)
          (further_handlers_stand body.counts.now at h.code (view_block h.body) (handlers_viewed (rest_of left)) parts_stand);
      comes = so_far.comes;
    }
