use Rattle.std.proofs.Common.{◌≡◌, IfOk, subst}
use Rattle.fb_config.proofs.Reading.{kinds_viewed}
use Rattle.fb_config.proofs.read_item.kinds_meant.Goals as goal

pub returns : goal.returns
returns c =
    subst (λ defined. IfOk c.kinds_where.result (λ kinds. kinds.items ≡ defined)) (kinds_viewed c.args.named.now c.args.methods.now) c.kinds_where.ensures
