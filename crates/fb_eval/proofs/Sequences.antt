-- Statements one after another.
use Rattle.std.proofs.Common.{◌≡◌, ◌-◌, ◌<◌, ◌≤◌, List, length, take, drop, get_or, map, Result, Ok, Err, IsErrAnd, refl, sym, ap, ◌∙◌, subst, arith, take_all, length-drop}
use Rattle.fb_syntax.specs.declared.stmt.Stmt.{Stmt}
use Rattle.fb_syntax.specs.Trees.{Statements, AndStatements}
use Rattle.fb_syntax.specs.Views.{view_stmt, statements_of}
use Rattle.fb_meaning.specs.Evaluations.{Done}
use Rattle.fb_meaning.specs.Positions.{Position, past, statement_counts}
use Rattle.fb_eval.specs.declared.body.Body.{Body}
use Rattle.fb_eval.specs.declared.flow.Flow.{Flow as FlowOf}
use Rattle.fb_eval.specs.declared.flow.Flow.TheVariants as flow
use Rattle.fb_eval.specs.declared.progress.Progress.{Progress}
use Rattle.fb_eval.specs.declared.stop.Stop.{Stop}
use Rattle.fb_eval.specs.Places.{StatementStands, StatementsStand}
use Rattle.fb_eval.specs.Means.{statement_means, statements_mean}
use Rattle.fb_eval.specs.Moments.{Moment, Comes, Goes}
use Rattle.fb_eval.specs.States.{IsReady, flow_of, here_of, state_of}
use Rattle.fb_eval.proofs.Ends.{stops_as}
use Rattle.fb_eval.proofs.Loops.{statements_split, statements_go_on, statements_end, statements_stop, statements_none_left}
use Rattle.fb_eval.proofs.Passing.{comes_first, comes_then, ends_there, goes_done, goes_stopped}
use Rattle.fb_eval.proofs.Places.{first_stands, next_stand}

-- what is behind the first
abbrev pub rest_of : {A : Type 0} → List A → List A
rest_of left = take (length left - 1) (drop 1 left)

pub rest_is : {A : Type 0} (left : List A) → rest_of left ≡ drop 1 left
rest_is left = take_all (length left - 1) (drop 1 left) (omega (arith, length-drop 1 left))

abbrev pub viewed : List Stmt → Statements
viewed stmts = statements_of (map view_stmt stmts)

-- some of the statements are left
pub record StatementsLeft (body : Body) (first : Position) (all : List Stmt) (start : Progress) (before : Moment) (left : List Stmt) (at : Position) (now : Progress) (after : Moment) : Type 0 where
  pub means : statements_mean (here_of body before.ways.gives) at (viewed left) (state_of now after.fuel)
      ≡ statements_mean (here_of body before.ways.gives) first (viewed all) (state_of start before.fuel)
  pub stands : StatementsStand body.counts.now at (viewed left)
  pub comes : Comes 0 body start now before after

pub all_left : {body : Body} {at : Position} {all : List Stmt} {start : Progress} {before : Moment} → StatementsStand body.counts.now at (viewed all) → IsReady body start before.fuel
    → StatementsLeft body at all start before all at start before
all_left {body} {at} {all} {start} {before} stands ready = record { means = refl; stands = stands; comes = comes_first body start before ready }

module _ {body : Body} {first : Position} {all : List Stmt} {start : Progress} {before : Moment} {left : List Stmt} {at : Position} {now : Progress} {after : Moment}
    (so_far : StatementsLeft body first all start before left at now after) where
  pub none_left : {lacked : Type 0} → length left < 1 → Goes 0 body (λ here. statements_mean here first (viewed all)) start now before after lacked (Ok flow.Next)
  none_left {lacked} none =
      goes_done body 0 0 (omega arith) so_far.comes
      (sym so_far.means ∙ statements_none_left (here_of body before.ways.gives) at left (state_of now after.fuel) none)

  module _ {s : Stmt} (some : 1 ≤ length left) (is : s ≡ get_or left 0 s) where
    split : viewed left ≡ AndStatements (view_stmt s) (viewed (rest_of left))
    split = statements_split (here_of body before.ways.gives) left (rest_of left) s some is (rest_is left)

    parts_stand : StatementsStand body.counts.now at (AndStatements (view_stmt s) (viewed (rest_of left)))
    parts_stand = subst (λ ss. StatementsStand body.counts.now at ss) split so_far.stands

    pub next_stands : StatementStands body.counts.now at (view_stmt s)
    next_stands = first_stands body.counts.now at (view_stmt s) (viewed (rest_of left)) parts_stand

    pub next_stopped : {last : Progress} {end : Moment} {lacked : Type 0} {why : Stop} {result : Result FlowOf Stop} → IsErrAnd result (λ w. w ≡ why)
        → Goes 0 body (λ here. statement_means here at (view_stmt s)) now last after end lacked (Err why)
        → Goes 0 body (λ here. statements_mean here first (viewed all)) start last before end lacked result
    next_stopped {last} {end} {lacked} {why} {result} because goes =
        goes_stopped body 0 0 0 result because (omega arith) so_far.comes goes
        (λ e. stops_as _ _ why (sym so_far.means)
        (statements_stop (here_of body before.ways.gives) at (viewed left) (view_stmt s) (viewed (rest_of left)) (state_of now after.fuel) why split e))

    module _ {how : FlowOf} {last : Progress} {end : Moment} {lacked : Type 0} (goes : Goes 0 body (λ here. statement_means here at (view_stmt s)) now last after end lacked (Ok how)) where
      pub next_ended : (how ≡ flow.Next → ⊥) → Goes 0 body (λ here. statements_mean here first (viewed all)) start last before end lacked (Ok how)
      next_ended other =
          goes_done body 0 0 (omega arith) (comes_then body 0 0 0 (omega arith) so_far.comes goes)
          (sym so_far.means
          ∙ statements_end (here_of body before.ways.gives) at (viewed left) (view_stmt s) (viewed (rest_of left)) (state_of now after.fuel) (state_of last end.fuel) how split other
          (ends_there body so_far.comes goes))

      pub next_done : {behind : Position} → how ≡ flow.Next → behind ≡ past at (statement_counts (view_stmt s))
          → StatementsLeft body first all start before (rest_of left) behind last end
      next_done {behind} next place = record {
        means = sym (statements_go_on (here_of body before.ways.gives) at behind (viewed left) (view_stmt s) (viewed (rest_of left)) (state_of now after.fuel) (state_of last end.fuel) split place
            (ends_there body so_far.comes goes ∙ ap (λ f. Done (flow_of f) (state_of last end.fuel)) next))
            ∙ so_far.means;
        stands = subst (λ p. StatementsStand body.counts.now p (viewed (rest_of left))) (sym place) (next_stand body.counts.now at (view_stmt s) (viewed (rest_of left)) parts_stand);
        comes = comes_then body 0 0 0 (omega arith) so_far.comes goes;
      }
