use Rattle.fb_base.proofs.KindLaws.{some_kind, one_kind, shares_kind}
use Rattle.fb_base.proofs.laws.law_of_kinds.Goals as goal

pub returns : goal.returns
returns c = record { some = some_kind; one = one_kind; shared = shares_kind }
