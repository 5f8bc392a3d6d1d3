use Rattle.fb_check.proofs.Items.{methods_kept}
use Rattle.fb_check.proofs.bodies.services_check.Goals as goal

pub methods_check-requires-clause-few : goal.methods_check-requires-clause-few
methods_check-requires-clause-few c =
    rw c.as_slice.ensures.value (methods_kept c.args.services.now c.loop-service.service-index c.service-item.result c.requires.kept c.loop-service-test.true c.service-item.is).0

pub methods_check-requires-clause-kept : goal.methods_check-requires-clause-kept
methods_check-requires-clause-kept c =
    rw c.as_slice.ensures.value (methods_kept c.args.services.now c.loop-service.service-index c.service-item.result c.requires.kept c.loop-service-test.true c.service-item.is).1
