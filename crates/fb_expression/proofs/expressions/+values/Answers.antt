use Rattle.std.proofs.Common.{rules}
use Rattle.fb_syntax.specs.ViewEquations.{view_list, view_all, view_any, view_chain}
use Rattle.fb_meaning.specs.Expressions.{value_of}
use Rattle.fb_expression.proofs.expressions.+values.Goals as goal

pub value_of-returns-in-List : goal.value_of-returns-in-List
unfolding value_of
value_of-returns-in-List t c = rw (c.in-List.is, view_list c.in-List.base c.in-List.items) (search rules)

pub value_of-returns-in-All : goal.value_of-returns-in-All
unfolding value_of
value_of-returns-in-All t c = rw (c.in-All.is, view_all c.in-All.operands) (search rules)

pub value_of-returns-in-Any : goal.value_of-returns-in-Any
unfolding value_of
value_of-returns-in-Any t c = rw (c.in-Any.is, view_any c.in-Any.operands) (search rules)

pub value_of-returns-in_ok-left-in-Chain : goal.value_of-returns-in_ok-left-in-Chain
unfolding value_of
value_of-returns-in_ok-left-in-Chain t c = rw (c.in-Chain.is, view_chain c.in-Chain.first c.in-Chain.rest) (search rules)
