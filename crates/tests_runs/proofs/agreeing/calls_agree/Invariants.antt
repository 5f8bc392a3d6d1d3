use Rattle.std.proofs.Common.{◌≡◌, length}
use Rattle.tests_runs.specs.Agreeing.{calls_agree}
use Rattle.tests_runs.proofs.agreeing.calls_agree.Given as goal

-- the calls so far are alike, and got the same
abbrev pub invariant-loop-left : goal.invariant-loop-left
invariant-loop-left l = calls_agree l.holds l.left l.other ≡ calls_agree l.holds l.fn.a l.fn.b

abbrev pub decreases-loop-left : goal.decreases-loop-left
decreases-loop-left l = length l.left
