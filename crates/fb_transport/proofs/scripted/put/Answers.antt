use Rattle.std.proofs.Common.{◌∙◌, refl}
use Rattle.fb_transport.proofs.Replies.{is_eq_entries}
use Rattle.fb_transport.proofs.scripted.put.Goals as goal

pub returns : goal.returns
returns c = λ entry. c.in_ok-insert.ensures.updates.0 entry ∙ rw (is_eq_entries c.args.pair.0 entry) refl
