use Rattle.std.proofs.Common.{◌≡◌, ◌+◌, length}
use Rattle.std.specs.List.{position_from}
use Rattle.fb_base.specs.Replies.{same_reply}
use Rattle.fb_book.proofs.book.place_among.Given as goal

-- it isn't among the replies so far
abbrev pub invariant-loop-left : goal.invariant-loop-left
invariant-loop-left l =
    (position_from (same_reply l.reply) l.place l.left ≡ position_from (same_reply l.reply) 0 l.choices)
    × (l.place + length l.left ≡ length l.choices)

abbrev pub decreases-loop-left : goal.decreases-loop-left
decreases-loop-left l = length l.left
