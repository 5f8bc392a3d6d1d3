use Rattle.std.proofs.Common.{◌≡◌, ◌++◌, ◌+◌, length, take}
use Rattle.fb_index.specs.Pieces.{up_to, behind}
use Rattle.fb_index.proofs.pieces.cut.Given as goal

abbrev pub invariant-loop-left : goal.invariant-loop-left
invariant-loop-left l =
    (take l.len l.bytes ++ l.left ≡ l.bytes) × (take l.len l.bytes ++ up_to l.sign l.left ≡ up_to l.sign l.bytes)
    × (behind l.sign l.left ≡ behind l.sign l.bytes) × (l.len + length l.left ≡ length l.bytes)

abbrev pub decreases-loop-left : goal.decreases-loop-left
decreases-loop-left l = length l.left
