use Rattle.fb_base.specs.SameLaws.{same_value-Decides}
use Rattle.fb_base.proofs.value.Value.same.Goals as goal

pub returns-clause-equal : goal.returns-clause-equal
returns-clause-equal c = rw c.eq.ensures (same_value-Decides c.args.self.now c.args.other.now)
