use Rattle.std.proofs.Common.{◌≡◌, length}
use Rattle.fb_tree.specs.Walk.{visits_of_frames}
use Rattle.fb_tree.proofs.preorder.take_call.Given as goal

abbrev pub invariant-loop-frame : goal.invariant-loop-frame
invariant-loop-frame l = visits_of_frames l.fn.frames.items ≡ visits_of_frames l.frames.items

abbrev pub decreases-loop-frame : goal.decreases-loop-frame
decreases-loop-frame l = length l.frames.items
