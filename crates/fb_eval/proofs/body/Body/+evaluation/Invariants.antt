use Rattle.std.proofs.Common.{◌+◌, ◌-◌, ◌*◌, length, drop}
use Rattle.fb_syntax.specs.Views.{view_block}
use Rattle.fb_meaning.specs.Bodies.{values_in}
use Rattle.fb_eval.specs.Moments.{moment}
use Rattle.fb_eval.proofs.Handling.{HandlersLeft}
use Rattle.fb_eval.proofs.Repeats.{ItemsLeft, RepeatLeft}
use Rattle.fb_eval.proofs.Sequences.{StatementsLeft}
use Rattle.fb_eval.proofs.body.Body.+evaluation.Given as goal

abbrev pub decreases-act : goal.decreases-act
decreases-act g l = 8 * l.fuel.now + 6

abbrev pub decreases-block : goal.decreases-block
decreases-block g l = 8 * l.fuel.now + 2

abbrev pub decreases-branch : goal.decreases-branch
decreases-branch g l = 8 * l.fuel.now + 3

abbrev pub decreases-call : goal.decreases-call
decreases-call g l = 8 * l.fuel.now + 5

abbrev pub decreases-decide : goal.decreases-decide
decreases-decide g l = 8 * l.fuel.now + 3

abbrev pub decreases-for_each : goal.decreases-for_each
decreases-for_each g l = 8 * l.fuel.now + 4

abbrev pub decreases-handle : goal.decreases-handle
decreases-handle g l = 8 * l.fuel.now + 3

abbrev pub decreases-invoke : goal.decreases-invoke
decreases-invoke g l = 8 * l.fuel.now + 2

abbrev pub decreases-repeat : goal.decreases-repeat
decreases-repeat g l = 8 * l.fuel.now + 3

abbrev pub decreases-statement : goal.decreases-statement
decreases-statement g l = 8 * l.fuel.now

abbrev pub decreases-statements : goal.decreases-statements
decreases-statements g l = 8 * l.fuel.now + 1

abbrev pub decreases-take : goal.decreases-take
decreases-take g l = 8 * l.fuel.now + 4

abbrev pub decreases-turn : goal.decreases-turn
decreases-turn g l = 8 * l.fuel.now + 2

abbrev pub decreases-turns : goal.decreases-turns
decreases-turns g l = 8 * l.fuel.now + 3

abbrev pub invariant-statements-loop-left : goal.invariant-statements-loop-left
invariant-statements-loop-left g l =
    StatementsLeft l.self l.fn.at l.stmts l.fn.progress (moment (g.D.Decides.ways l.fn.decider) (g.D.Decides.wanted l.fn.decider) l.fn.fuel l.fn.evals) l.left l.at l.progress
    (moment (g.D.Decides.ways l.decider) (g.D.Decides.wanted l.decider) l.fuel l.evals)

abbrev pub decreases-statements-loop-left : goal.decreases-statements-loop-left
decreases-statements-loop-left g l = length l.left

abbrev pub invariant-repeat-loop-turn : goal.invariant-repeat-loop-turn
invariant-repeat-loop-turn g l =
    RepeatLeft l.self l.inside (view_block l.body) l.times l.fn.progress (moment (g.D.Decides.ways l.fn.decider) (g.D.Decides.wanted l.fn.decider) l.fn.fuel l.fn.evals) (l.times - l._turn) l.progress
    (moment (g.D.Decides.ways l.decider) (g.D.Decides.wanted l.decider) l.fuel l.evals)

abbrev pub invariant-turns-loop-place : goal.invariant-turns-loop-place
invariant-turns-loop-place g l =
    ItemsLeft l.self l.at l.inside l.name (view_block l.body) (values_in l.items) l.fn.progress (moment (g.D.Decides.ways l.fn.decider) (g.D.Decides.wanted l.fn.decider) l.fn.fuel l.fn.evals)
    (drop l.place (values_in l.items)) l.progress (moment (g.D.Decides.ways l.decider) (g.D.Decides.wanted l.decider) l.fuel l.evals)

abbrev pub invariant-handle-loop-left : goal.invariant-handle-loop-left
invariant-handle-loop-left g l =
    HandlersLeft l.self l.site l.code l.fn.at l.handlers l.fn.progress (moment (g.D.Decides.ways l.fn.decider) (g.D.Decides.wanted l.fn.decider) l.fn.fuel l.fn.evals) l.left l.at l.progress
    (moment (g.D.Decides.ways l.decider) (g.D.Decides.wanted l.decider) l.fuel l.evals)

abbrev pub decreases-handle-loop-left : goal.decreases-handle-loop-left
decreases-handle-loop-left g l = length l.left
