use Rattle.std.proofs.Common.{◌≡◌, ◌++◌, take}
use Rattle.fb_tree.proofs.injected.add_all.Given as goal

abbrev pub invariant-loop-callee : goal.invariant-loop-callee
invariant-loop-callee l = l.callees ≡ l.fn.callees ++ take l.callee-index l.more
