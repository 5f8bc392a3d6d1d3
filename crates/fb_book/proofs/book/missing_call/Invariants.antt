use Rattle.std.proofs.Common.{◌≡◌, ◌+◌, All, length}
use Rattle.fb_config.specs.Choices.{choices_for}
use Rattle.fb_book.specs.Calls.{HasMethod}
use Rattle.fb_book.specs.Books.{missing_call}
use Rattle.fb_book.proofs.book.missing_call.Given as goal

-- the extensions at the calls so far have lines
abbrev pub invariant-loop-left : goal.invariant-loop-left
invariant-loop-left l =
    (missing_call l.told (choices_for l.faults) l.parent l.place l.left ≡ missing_call l.told (choices_for l.faults) l.parent 0 l.calls)
    × All (HasMethod l.faults) l.left × (l.place + length l.left ≡ length l.calls)

abbrev pub decreases-loop-left : goal.decreases-loop-left
decreases-loop-left l = length l.left
