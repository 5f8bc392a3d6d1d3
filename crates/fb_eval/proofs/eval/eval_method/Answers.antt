use Rattle.std.proofs.Common.{◌∙◌, sym, ap}
use Rattle.fb_tree.specs.Views.{view_node}
use Rattle.fb_meaning.specs.Evaluations.{Done}
use Rattle.fb_eval.proofs.Evaluated.{ends_stopped, method_is_invoked}
use Rattle.fb_eval.proofs.eval.eval_method.Goals as goal

pub returns-in_err-node-clause-means : goal.returns-in_err-node-clause-means
returns-in_err-node-clause-means g c =
    ends_stopped _ _ _ _ c.from_residual-in_err-node.result c.from_residual-in_err-node.ensures.1
    (method_is_invoked c.args.program.now.tree c.of_method-body.result.program.now.tree (g.T.Transport.gives c.args.transport.now) c.args.fuel.now c.args.method c.args.args.now c.in_ok-copied.field-0 c.args.at.now c.of_method-body.result.index
    (ap (λ program. program.tree) c.of_method-body.ensures.program) c.in_ok-copied.ensures (c.of_method-body.ensures.index ∙ c.in_ok-copy.ensures))
    c.in_err-node.ensures.ends

pub returns-clause-means : goal.returns-clause-means
returns-clause-means g c =
    method_is_invoked c.args.program.now.tree c.of_method-body.result.program.now.tree (g.T.Transport.gives c.args.transport.now) c.args.fuel.now c.args.method c.args.args.now c.in_ok-copied.field-0 c.args.at.now c.of_method-body.result.index
    (ap (λ program. program.tree) c.of_method-body.ensures.program) c.in_ok-copied.ensures (c.of_method-body.ensures.index ∙ c.in_ok-copy.ensures)
    ∙ c.in_ok-node.ensures.ends
    ∙ ap (λ node. Done (view_node node) c.invoke.new.fuel) (sym c.in_ok-new.ensures.ok)
