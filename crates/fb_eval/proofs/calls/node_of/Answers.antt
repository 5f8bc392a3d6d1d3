use Rattle.std.proofs.Common.{◌∙◌, ap}
use Rattle.fb_tree.specs.Runs.{Invocation}
use Rattle.fb_tree.specs.ViewEquations.{view_node_made}
use Rattle.fb_eval.specs.States.{calls_of}
use Rattle.fb_eval.proofs.calls.node_of.Goals as goal

pub returns : goal.returns
returns c =
    view_node_made c.args.callee c.args.args c.args.progress.calls c.answer_of-reply.result c.args.progress.steps
    ∙ ap (λ reply. Invocation c.args.callee c.args.args (calls_of c.args.progress) reply c.args.progress.steps) c.answer_of-reply.ensures
