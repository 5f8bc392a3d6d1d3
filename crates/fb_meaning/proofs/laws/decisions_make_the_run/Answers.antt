use Rattle.fb_meaning.proofs.DecisionLaws.{same_decisions_same_tree, same_decisions_same_run, joined_is_made, joined_is_run, parts_are_of_run}
use Rattle.fb_meaning.proofs.laws.decisions_make_the_run.Goals as goal

pub returns-clause-method : goal.returns-clause-method
returns-clause-method c = same_decisions_same_tree

pub returns-clause-test : goal.returns-clause-test
returns-clause-test c = same_decisions_same_run

pub returns-clause-joined : goal.returns-clause-joined
returns-clause-joined c = joined_is_run

pub returns-clause-made : goal.returns-clause-made
returns-clause-made c = joined_is_made

pub returns-clause-parts : goal.returns-clause-parts
returns-clause-parts c = parts_are_of_run
