use Rattle.fb_evidence.proofs.Known.{adds_if_new}
use Rattle.fb_evidence.proofs.adding.add_new.Goals as goal

pub returns-clause-adds : goal.returns-clause-adds
returns-clause-adds c =
    adds_if_new c.args.item c.args.store.now c.add.new.self c.len-known.result c.in_ok-id.id c.len-known.ensures c.in_ok-id.ensures.number c.in_ok-id.ensures.added
