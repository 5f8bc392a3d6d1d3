use Rattle.std.proofs.Common.{◌≡◌, ◌+◌, length}
use Rattle.fb_config.specs.Choices.{choices_for}
use Rattle.fb_book.specs.Books.{AreKnown, missing_row}
use Rattle.fb_book.proofs.book.missing_row.Given as goal

-- the extensions of the rows so far have lines
abbrev pub invariant-loop-left : goal.invariant-loop-left
invariant-loop-left l =
    (missing_row l.told (choices_for l.faults) l.parent l.left ≡ missing_row l.told (choices_for l.faults) 0 l.rows)
    × AreKnown l.faults l.left × (l.parent + length l.left ≡ length l.rows)

abbrev pub decreases-loop-left : goal.decreases-loop-left
decreases-loop-left l = length l.left
