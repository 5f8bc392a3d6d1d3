use Rattle.fb_check.proofs.Items.{methods_kept}
use Rattle.fb_check.proofs.naming.services_named.Goals as goal

pub methods_named-requires-clause-few : goal.methods_named-requires-clause-few
methods_named-requires-clause-few c =
    rw c.as_slice.ensures.value (methods_kept c.args.services.now c.loop-service.service-index c.service-item.result c.requires.kept c.loop-service-test.true c.service-item.is).0

pub methods_named-requires-clause-kept : goal.methods_named-requires-clause-kept
methods_named-requires-clause-kept c =
    rw c.as_slice.ensures.value (methods_kept c.args.services.now c.loop-service.service-index c.service-item.result c.requires.kept c.loop-service-test.true c.service-item.is).1
