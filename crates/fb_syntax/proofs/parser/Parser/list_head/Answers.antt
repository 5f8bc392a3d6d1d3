use Rattle.std.proofs.Common.{refl, rules}
use Rattle.fb_syntax.specs.ExpressionReading.{list_head}
use Rattle.fb_syntax.proofs.parser.Parser.list_head.Goals as goal

pub returns-in_err-want_sign-2 : goal.returns-in_err-want_sign-2
unfolding list_head
returns-in_err-want_sign-2 c = rw (← c.step.ensures, c.in_ok-want_sign.ensures {u = tt}, c.in_ok-base.ensures) (search rules)

pub returns : goal.returns
unfolding list_head
returns c = rw (← c.step.ensures, c.in_ok-want_sign.ensures {u = tt}, c.in_ok-base.ensures, c.in_ok-want_sign-2.ensures {u = tt}) refl
