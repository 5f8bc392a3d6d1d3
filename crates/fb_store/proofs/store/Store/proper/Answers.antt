use Rattle.std.proofs.Common.{subst}
use Rattle.fb_store.specs.Following.{AreAgreed}
use Rattle.fb_store.proofs.store.Store.proper.Goals as goal

pub returns-clause-agreed : goal.returns-clause-agreed
returns-clause-agreed c = subst AreAgreed c.self.view_is c.self.invariant.agreed
