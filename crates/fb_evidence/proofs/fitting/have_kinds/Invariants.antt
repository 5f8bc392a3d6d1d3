use Rattle.std.proofs.Common.{◌≡◌, length}
use Rattle.fb_evidence.specs.Fitting.{have_kinds}
use Rattle.fb_evidence.proofs.fitting.have_kinds.Given as goal

abbrev pub invariant-loop-left : goal.invariant-loop-left
invariant-loop-left l = have_kinds l.left l.others ≡ have_kinds l.values l.kinds

abbrev pub decreases-loop-left : goal.decreases-loop-left
decreases-loop-left l = length l.left
