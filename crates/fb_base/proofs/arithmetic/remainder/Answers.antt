use Rattle.std.proofs.Common.{rules}
use Rattle.fb_base.proofs.Remainders.{remainder_is}
use Rattle.fb_base.proofs.arithmetic.remainder.Goals as goal

pub returns : goal.returns
returns c = rw remainder_is (search rules)
