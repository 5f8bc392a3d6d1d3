use Rattle.fb_meaning.proofs.ExpressionValues.{expressions_keep_kinds}
use Rattle.fb_meaning.proofs.KeptKinds.{statements_keep_kinds, methods_begin_so, tests_begin_so, bodies_go_on_so, methods_keep_kinds, tests_keep_kinds, plans_give_kinds}
use Rattle.fb_meaning.proofs.laws.kinds_are_kept.Goals as goal

pub returns-clause-expressions : goal.returns-clause-expressions
returns-clause-expressions c =
    expressions_keep_kinds (record { binary = c.law_of_results.ensures.binary; unary = c.law_of_results.ensures.unary; list = c.law_of_results.ensures.list })

pub returns-clause-statements : goal.returns-clause-statements
returns-clause-statements c =
    statements_keep_kinds (record { binary = c.law_of_results.ensures.binary; unary = c.law_of_results.ensures.unary; list = c.law_of_results.ensures.list })
    (record { exactly = c.acceptance_is_exact.ensures.services; tests_exactly = c.acceptance_is_exact.ensures.test; numbers = c.lookups_join.ensures.methods; trees = c.lookups_join.ensures.trees })

pub returns-clause-methods : goal.returns-clause-methods
returns-clause-methods c =
    methods_keep_kinds (record { binary = c.law_of_results.ensures.binary; unary = c.law_of_results.ensures.unary; list = c.law_of_results.ensures.list })
    (record { exactly = c.acceptance_is_exact.ensures.services; tests_exactly = c.acceptance_is_exact.ensures.test; numbers = c.lookups_join.ensures.methods; trees = c.lookups_join.ensures.trees })

pub returns-clause-tests : goal.returns-clause-tests
returns-clause-tests c =
    tests_keep_kinds (record { binary = c.law_of_results.ensures.binary; unary = c.law_of_results.ensures.unary; list = c.law_of_results.ensures.list })
    (record { exactly = c.acceptance_is_exact.ensures.services; tests_exactly = c.acceptance_is_exact.ensures.test; numbers = c.lookups_join.ensures.methods; trees = c.lookups_join.ensures.trees })

pub returns-clause-plans : goal.returns-clause-plans
returns-clause-plans c = plans_give_kinds

pub returns-clause-methods_begin : goal.returns-clause-methods_begin
returns-clause-methods_begin c =
    methods_begin_so (record { exactly = c.acceptance_is_exact.ensures.services; tests_exactly = c.acceptance_is_exact.ensures.test; numbers = c.lookups_join.ensures.methods; trees = c.lookups_join.ensures.trees })

pub returns-clause-tests_begin : goal.returns-clause-tests_begin
returns-clause-tests_begin c =
    tests_begin_so (record { exactly = c.acceptance_is_exact.ensures.services; tests_exactly = c.acceptance_is_exact.ensures.test; numbers = c.lookups_join.ensures.methods; trees = c.lookups_join.ensures.trees })

pub returns-clause-goes_on : goal.returns-clause-goes_on
returns-clause-goes_on c =
    bodies_go_on_so (record { binary = c.law_of_results.ensures.binary; unary = c.law_of_results.ensures.unary; list = c.law_of_results.ensures.list })
    (record { exactly = c.acceptance_is_exact.ensures.services; tests_exactly = c.acceptance_is_exact.ensures.test; numbers = c.lookups_join.ensures.methods; trees = c.lookups_join.ensures.trees })
