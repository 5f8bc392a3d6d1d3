use Rattle.fb_index.specs.Index.{IsIndexText}
use Rattle.fb_index.proofs.Offsets.{refused-once, plan-once}
use Rattle.fb_index.proofs.laws.refusals_have_one_offset.Goals as goal

pub returns : goal.returns
returns c = record { index = refused-once IsIndexText; plan = plan-once }
