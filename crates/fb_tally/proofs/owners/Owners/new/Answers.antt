use Rattle.fb_tally.proofs.Pushes.{no_lines}
use Rattle.fb_tally.proofs.owners.Owners.new.Goals as goal

pub returns : goal.returns
returns c = no_lines _ c.new.ensures.items c.new-2.ensures.items
