use Rattle.std.proofs.Common.{arith, rules}
use Rattle.fb_syntax.proofs.Numbers.{overflows}
use Rattle.fb_syntax.proofs.front.number_of.Goals as goal

pub returns-then-digit-number : goal.returns-then-digit-number
returns-then-digit-number c =
    overflows c.args.digits.now c.loop-digit.digit-index c.loop-digit.number c.from-digit.result c.loop-digit-test.true
    c.loop-digit.invariant.same (search rules) (omega arith) c.if-digit-number.true
