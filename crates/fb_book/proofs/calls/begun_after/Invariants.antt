use Rattle.std.proofs.Common.{◌≡◌, length}
use Rattle.fb_campaign.specs.Plans.{begun_after}
use Rattle.fb_book.proofs.calls.begun_after.Given as goal

-- the calls so far begin before it
abbrev pub invariant-loop-left : goal.invariant-loop-left
invariant-loop-left l = begun_after l.index l.left ≡ begun_after l.index l.fn.calls

abbrev pub decreases-loop-left : goal.decreases-loop-left
decreases-loop-left l = length l.left
