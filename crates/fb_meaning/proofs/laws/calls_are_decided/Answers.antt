use Rattle.fb_meaning.proofs.DecidedCalls.{methods_are_decided, tests_are_decided}
use Rattle.fb_meaning.proofs.laws.calls_are_decided.Goals as goal

pub returns-clause-method : goal.returns-clause-method
returns-clause-method c = methods_are_decided

pub returns-clause-test : goal.returns-clause-test
returns-clause-test c = tests_are_decided
