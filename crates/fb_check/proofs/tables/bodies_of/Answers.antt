use Rattle.fb_check.proofs.Items.{methods_kept}
use Rattle.fb_check.proofs.tables.bodies_of.Goals as goal

pub with_bodies-requires : goal.with_bodies-requires
with_bodies-requires c =
    rw c.as_slice.ensures.value (methods_kept c.args.services.now c.loop-service.service-index c.service-item.result c.requires c.loop-service-test.true c.service-item.is).1
