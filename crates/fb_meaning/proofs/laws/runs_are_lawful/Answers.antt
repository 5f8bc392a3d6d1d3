use Rattle.fb_meaning.proofs.PlacedCalls.{runs_are_lawful as law}
use Rattle.fb_meaning.proofs.laws.runs_are_lawful.Goals as goal

pub returns : goal.returns
returns c = law
