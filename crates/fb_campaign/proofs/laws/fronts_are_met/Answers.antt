use Rattle.fb_campaign.proofs.Meeting.{front_met}
use Rattle.fb_campaign.proofs.laws.fronts_are_met.Goals as goal

pub returns : goal.returns
returns c gives runs choices lawful n plan fault rest met went done = front_met gives runs choices lawful n plan fault rest met went done
