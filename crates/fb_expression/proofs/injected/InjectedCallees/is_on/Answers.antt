use Rattle.std.proofs.Common.{ap, ◌∙◌}
use Rattle.fb_meaning.specs.Expressions.{is_injected_on}
use Rattle.fb_expression.specs.Questions.{asks_for}
use Rattle.fb_expression.proofs.injected.InjectedCallees.is_on.Goals as goal

pub returns : goal.returns
returns c =
    c.any_is_asked_for.ensures
    ∙ c.self.invariant (asks_for c.args.program.now.tree c.args.service.now c.args.method.now)
    ∙ ap (is_injected_on c.args.program.now.tree c.args.service.now c.args.method.now) c.self.view_is
