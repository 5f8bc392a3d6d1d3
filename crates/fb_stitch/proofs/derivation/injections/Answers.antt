use Rattle.fb_stitch.proofs.Parts.{injected_more}
use Rattle.fb_stitch.proofs.derivation.injections.Goals as goal

pub loop-visit-preserved : goal.loop-visit-preserved
loop-visit-preserved c =
    injected_more c.args.visits.now c.loop-visit.visit-index c.visit-item.result c.loop-visit-test.true c.visit-item.is c.loop-visit.injected _ c.loop-visit.invariant c.in_ok-injected.ensures
