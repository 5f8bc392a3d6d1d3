use Rattle.fb_expression.proofs.Callees.{callees-push}
use Rattle.fb_expression.proofs.injected.InjectedCallees.add.Goals as goal

pub invariant_of-self-in-Ok : goal.invariant_of-self-in-Ok
invariant_of-self-in-Ok c =
    rw (c.in-Ok.ensures.keys, c.in_ok-push.ensures.ok) (callees-push c.self.inside.different.keys c.self.inside.all c.args.callee c.self.invariant)
