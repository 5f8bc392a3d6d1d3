use Rattle.fb_campaign.proofs.Levels.{met_extended}
use Rattle.fb_campaign.proofs.laws.extensions_are_met.Goals as goal

pub returns : goal.returns
returns c gives runs choices lawful fitting n plan longer met added went done = met_extended gives runs choices lawful fitting n plan longer met added went done
