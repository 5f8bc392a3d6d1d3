use Rattle.std.proofs.Common.{arith, rules}
use Rattle.fb_graph.proofs.Rounds.{IsJustAbove-more}
use Rattle.fb_graph.proofs.ranks.just_above.Goals as goal

pub loop-callee-preserved : goal.loop-callee-preserved
loop-callee-preserved c =
    IsJustAbove-more c.args.ranks.now c.args.callees.now c.loop-callee.callee-index c.loop-callee.above c.max-above.result
    (omega arith) c.loop-callee.invariant (search rules)
