use Rattle.std.proofs.Common.{rules}
use Rattle.fb_syntax.specs.ViewEquations.{view_list, view_all, view_any, view_chain}
use Rattle.fb_check.specs.ExpressionKinds.{kind_of}
use Rattle.fb_check.proofs.context.Context.+kinds.Goals as goal

pub kind_of-returns-in-List : goal.kind_of-returns-in-List
unfolding kind_of
kind_of-returns-in-List t c = rw (c.in-List.is, view_list c.in-List.base c.in-List.items) (search rules)

pub kind_of-returns-in-All : goal.kind_of-returns-in-All
unfolding kind_of
kind_of-returns-in-All t c = rw (c.in-All.is, view_all c.in-All.items) (search rules)

pub kind_of-returns-in-Any : goal.kind_of-returns-in-Any
unfolding kind_of
kind_of-returns-in-Any t c = rw (c.in-Any.is, view_any c.in-Any.items) (search rules)

pub kind_of-returns-in_ok-left-in-Chain : goal.kind_of-returns-in_ok-left-in-Chain
unfolding kind_of
kind_of-returns-in_ok-left-in-Chain t c = rw (c.in-Chain.is, view_chain c.in-Chain.first c.in-Chain.rest) (search rules)
