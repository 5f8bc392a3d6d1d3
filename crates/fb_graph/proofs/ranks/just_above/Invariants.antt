use Rattle.std.proofs.Common.{take}
use Rattle.fb_graph.specs.Chain.{IsJustAbove}
use Rattle.fb_graph.proofs.ranks.just_above.Given as goal

abbrev pub invariant-loop-callee : goal.invariant-loop-callee
invariant-loop-callee l = IsJustAbove l.ranks (take l.callee-index l.callees) l.above
