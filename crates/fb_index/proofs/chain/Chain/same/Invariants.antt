use Rattle.std.proofs.Common.{◌≡◌, ◌↔◌}
use Rattle.fb_index.proofs.chain.Chain.same.Given as goal

abbrev pub invariant-loop-before : goal.invariant-loop-before
invariant-loop-before g l = (l.self ≡ l.other) ↔ (l.left ≡ l.right)
