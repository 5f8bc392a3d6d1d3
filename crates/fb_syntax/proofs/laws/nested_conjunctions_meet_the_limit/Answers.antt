use Rattle.fb_syntax.proofs.NestedKept.{returned_within}
use Rattle.fb_syntax.proofs.laws.nested_conjunctions_meet_the_limit.Goals as goal

pub returns : goal.returns
returns c = returned_within
