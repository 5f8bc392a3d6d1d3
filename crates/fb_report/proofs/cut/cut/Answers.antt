use Rattle.fb_report.proofs.Cuts.{cut-step}
use Rattle.fb_report.proofs.cut.cut.Goals as goal

pub loop-left-preserved : goal.loop-left-preserved
loop-left-preserved c = cut-step _ _ _ _ c.loop-left.invariant c.in-len1-up.len_at_least c.if-byte-sign.false
