use Rattle.std.proofs.Common.{◌≡◌, ◌+◌, length}
use Rattle.fb_tally.specs.Owning.{first_without_record}
use Rattle.fb_tally.proofs.owning.first_unmarked.Given as goal

-- those so far own a record
abbrev pub invariant-loop-left : goal.invariant-loop-left
invariant-loop-left l =
    (first_without_record l.marks l.number l.left ≡ first_without_record l.marks 0 l.fn.plans)
    × (l.number + length l.left ≡ length l.fn.plans)

abbrev pub decreases-loop-left : goal.decreases-loop-left
decreases-loop-left l = length l.left
