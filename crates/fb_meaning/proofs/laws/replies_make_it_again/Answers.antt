use Rattle.fb_meaning.proofs.MadeAgain.{records_are_made_again, runs_are_made_again}
use Rattle.fb_meaning.proofs.laws.replies_make_it_again.Goals as goal

pub returns-clause-method : goal.returns-clause-method
returns-clause-method c = records_are_made_again

pub returns-clause-test : goal.returns-clause-test
returns-clause-test c = runs_are_made_again
