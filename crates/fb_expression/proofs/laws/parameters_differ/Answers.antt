use Rattle.fb_expression.proofs.FirstVariables.{accepted_method}
use Rattle.fb_expression.proofs.laws.parameters_differ.Goals as goal

pub returns : goal.returns
returns c tree accepted m method is =
    (accepted_method tree tree.services m method ((c.acceptance_is_exact.ensures.services tree).0 accepted).services_accepted is).parameters_differ
