use Rattle.std.proofs.Common.{◌≡◌, length}
use Rattle.fb_tally.specs.Owning.{first_not_owned}
use Rattle.fb_tally.proofs.owning.first_not_owned.Given as goal

-- those so far are owned
abbrev pub invariant-loop-left : goal.invariant-loop-left
invariant-loop-left l = first_not_owned l.left ≡ first_not_owned l.fn.records

abbrev pub decreases-loop-left : goal.decreases-loop-left
decreases-loop-left l = length l.left
