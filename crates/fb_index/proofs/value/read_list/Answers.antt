use Rattle.std.proofs.Common.{arith}
use Rattle.fb_index.proofs.ListValues.{list-text, list-some, list-ends}
use Rattle.fb_index.proofs.value.read_list.Goals as goal

pub returns-in_default : goal.returns-in_default
returns-in_default c is =
    omega (arith, list-some c.args.bytes.now (list-text c.args.bytes.now is), c.in_default.ensures.cases)

pub returns-then-last-ne93 : goal.returns-then-last-ne93
returns-then-last-ne93 c is =
    c.if-last-ne93.true
    (list-ends c.args.bytes.now c.in-Some.items.now c.in-Some.last.now c.in-Some.ensures.cases.0 (list-text c.args.bytes.now is))
