use Rattle.std.proofs.Common.{arith}
use Rattle.fb_stitch.proofs.walks.Walks.end.Goals as goal

pub close-requires-clause-steps : goal.close-requires-clause-steps
close-requires-clause-steps c = omega (arith, c.if-item-self.false, c.requires.within, c.requires.small)
