-- Calls of the code, as the meaning has them.
use Rattle.std.specs.Prelude.{map, Option}
use Rattle.fb_base.specs.declared.reply.Reply.{Reply}
use Rattle.fb_syntax.specs.Views.{view_expr, expressions_of, view_handler, handlers_of}
use Rattle.fb_tree.specs.declared.node.Made.{Made}
use Rattle.fb_tree.specs.declared.node.How.{How}
use Rattle.fb_meaning.specs.Evaluations.{State, Going}
use Rattle.fb_meaning.specs.Bodies.{PreparedCall, prepared}
use Rattle.fb_eval.specs.declared.body.Body.{Body}
use Rattle.fb_eval.specs.declared.progress.Progress.{Progress}
use Rattle.fb_eval.specs.declared.calling.Calling.{Calling}
use Rattle.fb_eval.specs.declared.calling.Prepared.{Prepared}
use Rattle.fb_eval.specs.Means.{Here, call_means, taken_means}
use Rattle.fb_eval.specs.States.{whose_of, state_of}

abbrev pub prepared_of : Prepared → PreparedCall
prepared_of request = record { entry = request.entry; callee = request.callee; args = request.args }

abbrev pub made_of : Prepared → How → Reply → Made
made_of request how reply = record { entry = request.entry; callee = request.callee; args = request.args; how = how; reply = reply }

-- what a call means as it stands in its body
abbrev pub calling_means : Here → Calling → State → Going
calling_means here call =
    call_means here call.at call.inside call.target.now call.service.now call.method.now (expressions_of (map view_expr call.args.now)) (handlers_of (map view_handler call.handlers.now))

-- the reply that it gets is taken
abbrev pub reply_means : Here → Calling → Reply → State → Going
reply_means here call = taken_means here call.at call.inside call.target.now (handlers_of (map view_handler call.handlers.now))

-- what a call of a body asks for
abbrev pub prepared_now : Body → Progress → Calling → Option PreparedCall
prepared_now body progress call =
    prepared body.program.now.tree (whose_of body.whose) call.at call.service.now call.method.now (expressions_of (map view_expr call.args.now))
    (state_of progress 0)
