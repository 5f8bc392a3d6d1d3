use Rattle.std.proofs.Common.{◌≡◌, ◌++◌, length}
use Rattle.fb_tree.specs.Calls.{visits_of}
use Rattle.fb_tree.specs.Views.{view_run}
use Rattle.fb_explore.proofs.recording.calls_of_run.Given as goal

abbrev pub invariant-loop-call : goal.invariant-loop-call
invariant-loop-call l = l.calls ++ l.left ≡ visits_of (view_run l.run)

abbrev pub decreases-loop-call : goal.decreases-loop-call
decreases-loop-call l = length l.left
