use Rattle.std.proofs.Common.{◌≡◌, ◌+◌, length}
use Rattle.fb_book.specs.Children.{first_missing}
use Rattle.fb_book.proofs.children.Children.first_missing.Given as goal

-- the extensions by the choices so far have lines
abbrev pub invariant-loop-left : goal.invariant-loop-left
invariant-loop-left l =
    (first_missing l.self l.parent l.call l.choice l.left ≡ first_missing l.self l.parent l.call 0 l.choices)
    × (l.choice + length l.left ≡ length l.choices)

abbrev pub decreases-loop-left : goal.decreases-loop-left
decreases-loop-left l = length l.left
