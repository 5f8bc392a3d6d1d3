use Rattle.std.proofs.Common.{◌≡◌, ◌++◌, take}
use Rattle.fb_base.proofs.duplicate.copy_onto.Given as goal

abbrev pub invariant-loop-item : goal.invariant-loop-item
invariant-loop-item g l = l.made.items ≡ l.fn.made.items ++ take l.item-index l.items
