use Rattle.std.proofs.Common.{◌≡◌, ◌++◌, drop}
use Rattle.fb_check.specs.Calls.{known_callees}
use Rattle.fb_check.proofs.calls.known_callees.Given as goal

-- the callees so far and those that are left are all of them
abbrev pub invariant-loop-callee : goal.invariant-loop-callee
invariant-loop-callee l = l.known ++ known_callees (drop l.callee-index l.callees) ≡ known_callees l.callees
