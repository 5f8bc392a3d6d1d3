use Rattle.fb_meaning.proofs.SpelledRuns.{spelled_is_run as law, one_is_spelled}
use Rattle.fb_meaning.proofs.SpellingLaws.{runs_are_of_injections, runs_are_spelled}
use Rattle.fb_meaning.proofs.laws.spelled_is_run.Goals as goal

pub returns-clause-run : goal.returns-clause-run
returns-clause-run c = law

pub returns-clause-one : goal.returns-clause-one
returns-clause-one c = one_is_spelled

pub returns-clause-injections : goal.returns-clause-injections
returns-clause-injections c = runs_are_of_injections

pub returns-clause-spelled : goal.returns-clause-spelled
returns-clause-spelled c = runs_are_spelled
