use Rattle.std.proofs.Common.{sym, subst}
use Rattle.fb_store.specs.Growth.{AreGrown}
use Rattle.fb_store.proofs.Growing.{grown_none}
use Rattle.fb_store.proofs.store.Store.new.Goals as goal

pub invariant_of-result : goal.invariant_of-result
invariant_of-result c =
    subst (λ records. AreGrown records c.new-2.result) (sym c.new.ensures.items) (grown_none c.new-2.result c.new-2.ensures.roots c.new-2.ensures.branches)
