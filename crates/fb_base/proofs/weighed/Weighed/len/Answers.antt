use Rattle.std.proofs.Common.{arith}
use Rattle.fb_base.proofs.Weights.{length-le-sum_by}
use Rattle.fb_base.proofs.weighed.Weighed.len.Goals as goal

pub returns-clause-short : goal.returns-clause-short
returns-clause-short g c =
    omega (arith, length-le-sum_by g.T.Item.weight g.met.T.Item.weighs c.self.inside.items.items, c.self.invariant.1.light)
