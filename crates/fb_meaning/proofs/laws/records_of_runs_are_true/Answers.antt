use Rattle.fb_meaning.proofs.TrueRecords.{records_of_runs_are_true as law, steps_are_within_fuel, true_records_stay_true}
use Rattle.fb_meaning.proofs.laws.records_of_runs_are_true.Goals as goal

pub returns-clause-records : goal.returns-clause-records
returns-clause-records c =
    law (record { binary = c.law_of_results.ensures.binary; unary = c.law_of_results.ensures.unary; list = c.law_of_results.ensures.list })
    (record { exactly = c.acceptance_is_exact.ensures.services; tests_exactly = c.acceptance_is_exact.ensures.test; numbers = c.lookups_join.ensures.methods; trees = c.lookups_join.ensures.trees })

pub returns-clause-steps : goal.returns-clause-steps
returns-clause-steps c = steps_are_within_fuel

pub returns-clause-stay : goal.returns-clause-stay
returns-clause-stay c = true_records_stay_true
