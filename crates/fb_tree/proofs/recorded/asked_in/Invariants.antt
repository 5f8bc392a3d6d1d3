use Rattle.std.proofs.Common.{◌≡◌, map, take}
use Rattle.fb_tree.specs.Views.{view_asked}
use Rattle.fb_tree.proofs.recorded.asked_in.Given as goal

abbrev pub invariant-loop-made : goal.invariant-loop-made
invariant-loop-made l = l.asked ≡ map view_asked (take l.made-index l.calls)
