use Rattle.std.proofs.Common.{◌≡◌, ◌++◌, map, reverse}
use Rattle.fb_index.proofs.chain.Chain.items.Given as goal

abbrev pub invariant-loop-before : goal.invariant-loop-before
invariant-loop-before g l = l.left ++ reverse (map (λ item. item.now) l.items.items) ≡ l.self
