use Rattle.std.proofs.Common.{length}
use Rattle.fb_report.proofs.Cuts.{IsCutSoFar}
use Rattle.fb_report.proofs.cut.cut.Given as goal

abbrev pub invariant-loop-left : goal.invariant-loop-left
invariant-loop-left l = IsCutSoFar l.sign l.bytes l.len l.left

abbrev pub decreases-loop-left : goal.decreases-loop-left
decreases-loop-left l = length l.left
