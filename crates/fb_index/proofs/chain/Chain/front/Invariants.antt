use Rattle.std.proofs.Common.{◌≡◌, take}
use Rattle.fb_index.proofs.chain.Chain.front.Given as goal

abbrev pub invariant-loop-front : goal.invariant-loop-front
invariant-loop-front g l = take l.len l.front ≡ take l.len l.self
