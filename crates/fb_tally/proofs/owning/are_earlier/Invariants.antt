use Rattle.std.proofs.Common.{◌≡◌, length}
use Rattle.fb_tally.specs.Owning.{are_earlier}
use Rattle.fb_tally.proofs.owning.are_earlier.Given as goal

-- those so far are
abbrev pub invariant-loop-left : goal.invariant-loop-left
invariant-loop-left l = are_earlier l.records l.count l.left ≡ are_earlier l.records l.count l.uses

abbrev pub decreases-loop-left : goal.decreases-loop-left
decreases-loop-left l = length l.left
