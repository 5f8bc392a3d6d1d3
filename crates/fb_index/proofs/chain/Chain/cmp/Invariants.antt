use Rattle.std.proofs.Common.{◌≡◌, length}
use Rattle.std.specs.Ordering.{ordering_then}
use Rattle.std.specs.Cmp.Lexicographic.{slice_cmp}
use Rattle.fb_index.proofs.chain.Chain.cmp.Given as goal

abbrev pub invariant-loop-before : goal.invariant-loop-before
invariant-loop-before g l =
    (length l.left ≡ length l.right)
    × (slice_cmp g.T.Ord.cmp l.self l.other ≡ ordering_then (slice_cmp g.T.Ord.cmp l.left l.right) l.order)
