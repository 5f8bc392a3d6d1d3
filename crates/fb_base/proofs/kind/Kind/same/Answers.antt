use Rattle.fb_base.specs.KindSame.{same_kind-Decides}
use Rattle.fb_base.proofs.kind.Kind.same.Goals as goal

pub returns-clause-equal : goal.returns-clause-equal
returns-clause-equal c = rw c.eq.ensures (same_kind-Decides c.args.self c.args.other)
