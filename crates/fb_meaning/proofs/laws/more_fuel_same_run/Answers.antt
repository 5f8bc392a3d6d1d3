use Rattle.fb_meaning.proofs.FuelLaws.{method_follows_fuel, test_follows_fuel}
use Rattle.fb_meaning.proofs.laws.more_fuel_same_run.Goals as goal

pub returns-clause-method : goal.returns-clause-method
returns-clause-method c = method_follows_fuel

pub returns-clause-test : goal.returns-clause-test
returns-clause-test c = test_follows_fuel
