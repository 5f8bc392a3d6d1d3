use Rattle.fb_report.specs.Names.{IsMethodOf}
use Rattle.fb_report.proofs.Rests.{all-rest, each-step}
use Rattle.fb_report.proofs.named.named_calls.Goals as goal

pub loop-left-preserved : goal.loop-left-preserved
loop-left-preserved c = (
  each-step _ _ _ _ _ _ _ c.loop-left.invariant.0 c.in-len1-up.len_at_least c.asked-item.is c.in_ok-named_call.ensures c.in_ok-push.ensures.ok,
  all-rest (λ asked. IsMethodOf c.args.program.now.tree asked.callee) _ c.in-len1-up.len_at_least c.loop-left.invariant.1,
)
