use Rattle.std.proofs.Common.{◌≡◌, ◌++◌, take}
use Rattle.fb_tree.specs.Calls.{injected_in}
use Rattle.fb_tree.specs.Views.{view_calls}
use Rattle.fb_tree.proofs.injected.+injected.Given as goal

abbrev pub invariant-add_below-loop-made : goal.invariant-add_below-loop-made
invariant-add_below-loop-made l = l.callees ≡ l.fn.callees ++ injected_in (view_calls (take l.made-index l.made-items))
