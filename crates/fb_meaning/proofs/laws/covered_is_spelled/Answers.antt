use Rattle.fb_meaning.proofs.SpellingLaws.{covered_is_spelled as law}
use Rattle.fb_meaning.proofs.laws.covered_is_spelled.Goals as goal

pub returns : goal.returns
returns c = law
