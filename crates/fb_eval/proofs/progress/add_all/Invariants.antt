use Rattle.std.proofs.Common.{◌≡◌, ◌++◌, take}
use Rattle.fb_eval.proofs.progress.add_all.Given as goal

abbrev pub invariant-loop-callee : goal.invariant-loop-callee
invariant-loop-callee l = l.injected ≡ l.fn.injected ++ take l.callee-index l.callees
