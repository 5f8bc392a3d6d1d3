use Rattle.std.proofs.Common.{codes, refl, ap, ◌∙◌}
use Rattle.std.proofs.lemmas.Result.{err_from_is_err_and}
use Rattle.serde_json.specs.Data.{object, member, string}
use Rattle.fb_report.specs.Ranges.{IsInRange, IsProperLine}
use Rattle.fb_report.specs.Trees.{number_tree, list_tree, value_tree, call_tree, method_tree, reply_tree, line_tree}
use Rattle.fb_reading.specs.declared.key.Key.TheVariants as key
use Rattle.fb_reading.specs.Keys.{key_text}
use Rattle.fb_reading.proofs.Passing.{long-to, missed, passed}
use Rattle.fb_reading.proofs.read_lines.read_inv.Goals as goal

pub returns-in_err-args-clause-refused : goal.returns-in_err-args-clause-refused
returns-in_err-args-clause-refused c =
    let p = err_from_is_err_and c.from_residual.result c.from_residual.ensures.1 in
    rw (p.1, p.2)
    (missed _ _ _ _ _ _ c.in_err-args.ensures.refused)

pub returns-in_err-calls-clause-refused : goal.returns-in_err-calls-clause-refused
returns-in_err-calls-clause-refused c =
    let p = err_from_is_err_and c.from_residual-in_err-calls.result c.from_residual-in_err-calls.ensures.1 in
    rw (p.1, p.2)
    (passed _ _ _ _ _ _ _ _ c.in_ok-args.ensures.read.1 (c.in_ok-args.args, c.in_ok-args.ensures.read.0, refl)
    (missed _ _ _ _ _ _ c.in_err-calls.ensures.refused))

pub returns-in_err-id-clause-refused : goal.returns-in_err-id-clause-refused
returns-in_err-id-clause-refused c =
    let p = err_from_is_err_and c.from_residual-in_err-id.result c.from_residual-in_err-id.ensures.1 in
    rw (p.1, p.2)
    (passed _ _ _ _ _ _ _ _ c.in_ok-args.ensures.read.1 (c.in_ok-args.args, c.in_ok-args.ensures.read.0, refl)
    (passed _ _ _ _ _ _ _ _ c.in_ok-calls.ensures.read.1 (c.in_ok-calls.calls, c.in_ok-calls.ensures.read.0, refl)
    (missed _ _ _ _ _ _ c.in_err-id.ensures.refused)))

pub returns-in_err-word-clause-refused : goal.returns-in_err-word-clause-refused
returns-in_err-word-clause-refused c =
    let p = err_from_is_err_and c.from_residual-in_err-word.result c.from_residual-in_err-word.ensures.1 in
    rw (p.1, p.2)
    (passed _ _ _ _ _ _ _ _ c.in_ok-args.ensures.read.1 (c.in_ok-args.args, c.in_ok-args.ensures.read.0, refl)
    (passed _ _ _ _ _ _ _ _ c.in_ok-calls.ensures.read.1 (c.in_ok-calls.calls, c.in_ok-calls.ensures.read.0, refl)
    (passed _ _ _ _ _ _ _ _ c.in_ok-id.ensures.read.1 (c.in_ok-id.id, c.in_ok-id.ensures.read.0, refl)
    (missed _ _ _ _ _ _ c.in_err-word.ensures.refused))))

pub returns-in_err-method-clause-refused : goal.returns-in_err-method-clause-refused
returns-in_err-method-clause-refused c =
    let p = err_from_is_err_and c.from_residual-in_err-method.result c.from_residual-in_err-method.ensures.1 in
    rw (p.1, p.2)
    (passed _ _ _ _ _ _ _ _ c.in_ok-args.ensures.read.1 (c.in_ok-args.args, c.in_ok-args.ensures.read.0, refl)
    (passed _ _ _ _ _ _ _ _ c.in_ok-calls.ensures.read.1 (c.in_ok-calls.calls, c.in_ok-calls.ensures.read.0, refl)
    (passed _ _ _ _ _ _ _ _ c.in_ok-id.ensures.read.1 (c.in_ok-id.id, c.in_ok-id.ensures.read.0, refl)
    (passed _ _ _ _ _ _ _ _ c.in_ok-word.ensures.read refl
    (missed _ _ _ _ _ _ c.in_err-method.ensures.refused)))))

pub returns-in_err-plan-clause-refused : goal.returns-in_err-plan-clause-refused
returns-in_err-plan-clause-refused c =
    let p = err_from_is_err_and c.from_residual-in_err-plan.result c.from_residual-in_err-plan.ensures.1 in
    rw (p.1, p.2)
    (passed _ _ _ _ _ _ _ _ c.in_ok-args.ensures.read.1 (c.in_ok-args.args, c.in_ok-args.ensures.read.0, refl)
    (passed _ _ _ _ _ _ _ _ c.in_ok-calls.ensures.read.1 (c.in_ok-calls.calls, c.in_ok-calls.ensures.read.0, refl)
    (passed _ _ _ _ _ _ _ _ c.in_ok-id.ensures.read.1 (c.in_ok-id.id, c.in_ok-id.ensures.read.0, refl)
    (passed _ _ _ _ _ _ _ _ c.in_ok-word.ensures.read refl
    (passed _ _ _ _ _ _ _ _ c.in_ok-method.ensures.read.1 (c.in_ok-method.method, c.in_ok-method.ensures.read.0, refl)
    (missed _ _ _ _ _ _ c.in_err-plan.ensures.refused))))))

pub returns-in_err-reply-clause-refused : goal.returns-in_err-reply-clause-refused
returns-in_err-reply-clause-refused c =
    let p = err_from_is_err_and c.from_residual-in_err-reply.result c.from_residual-in_err-reply.ensures.1 in
    rw (p.1, p.2)
    (passed _ _ _ _ _ _ _ _ c.in_ok-args.ensures.read.1 (c.in_ok-args.args, c.in_ok-args.ensures.read.0, refl)
    (passed _ _ _ _ _ _ _ _ c.in_ok-calls.ensures.read.1 (c.in_ok-calls.calls, c.in_ok-calls.ensures.read.0, refl)
    (passed _ _ _ _ _ _ _ _ c.in_ok-id.ensures.read.1 (c.in_ok-id.id, c.in_ok-id.ensures.read.0, refl)
    (passed _ _ _ _ _ _ _ _ c.in_ok-word.ensures.read refl
    (passed _ _ _ _ _ _ _ _ c.in_ok-method.ensures.read.1 (c.in_ok-method.method, c.in_ok-method.ensures.read.0, refl)
    (passed _ _ _ _ _ _ _ _ c.in_ok-plan.ensures.read.1 (c.in_ok-plan.plan, c.in_ok-plan.ensures.read.0, refl)
    (missed _ _ _ _ _ _ c.in_err-reply.ensures.refused)))))))

pub returns-in_err-steps-clause-refused : goal.returns-in_err-steps-clause-refused
returns-in_err-steps-clause-refused c =
    let p = err_from_is_err_and c.from_residual-in_err-steps.result c.from_residual-in_err-steps.ensures.1 in
    rw (p.1, p.2)
    (passed _ _ _ _ _ _ _ _ c.in_ok-args.ensures.read.1 (c.in_ok-args.args, c.in_ok-args.ensures.read.0, refl)
    (passed _ _ _ _ _ _ _ _ c.in_ok-calls.ensures.read.1 (c.in_ok-calls.calls, c.in_ok-calls.ensures.read.0, refl)
    (passed _ _ _ _ _ _ _ _ c.in_ok-id.ensures.read.1 (c.in_ok-id.id, c.in_ok-id.ensures.read.0, refl)
    (passed _ _ _ _ _ _ _ _ c.in_ok-word.ensures.read refl
    (passed _ _ _ _ _ _ _ _ c.in_ok-method.ensures.read.1 (c.in_ok-method.method, c.in_ok-method.ensures.read.0, refl)
    (passed _ _ _ _ _ _ _ _ c.in_ok-plan.ensures.read.1 (c.in_ok-plan.plan, c.in_ok-plan.ensures.read.0, refl)
    (passed _ _ _ _ _ _ _ _ c.in_ok-reply.ensures.read.1 (c.in_ok-reply.reply, c.in_ok-reply.ensures.read.0, refl)
    (missed _ _ _ _ _ _ c.in_err-steps.ensures.refused))))))))

pub returns-in_err-end-clause-refused : goal.returns-in_err-end-clause-refused
returns-in_err-end-clause-refused c =
    let p = err_from_is_err_and c.from_residual-in_err-end.result c.from_residual-in_err-end.ensures.1 in
    rw (p.1, p.2)
    (passed _ _ _ _ _ _ _ _ c.in_ok-args.ensures.read.1 (c.in_ok-args.args, c.in_ok-args.ensures.read.0, refl)
    (passed _ _ _ _ _ _ _ _ c.in_ok-calls.ensures.read.1 (c.in_ok-calls.calls, c.in_ok-calls.ensures.read.0, refl)
    (passed _ _ _ _ _ _ _ _ c.in_ok-id.ensures.read.1 (c.in_ok-id.id, c.in_ok-id.ensures.read.0, refl)
    (passed _ _ _ _ _ _ _ _ c.in_ok-word.ensures.read refl
    (passed _ _ _ _ _ _ _ _ c.in_ok-method.ensures.read.1 (c.in_ok-method.method, c.in_ok-method.ensures.read.0, refl)
    (passed _ _ _ _ _ _ _ _ c.in_ok-plan.ensures.read.1 (c.in_ok-plan.plan, c.in_ok-plan.ensures.read.0, refl)
    (passed _ _ _ _ _ _ _ _ c.in_ok-reply.ensures.read.1 (c.in_ok-reply.reply, c.in_ok-reply.ensures.read.0, refl)
    (passed _ _ _ _ _ _ _ _ c.in_ok-steps.ensures.read.1 (c.in_ok-steps.steps, c.in_ok-steps.ensures.read.0, refl)
    c.in_err-end.ensures.refused))))))))

pub returns-clause-read : goal.returns-clause-read
unfolding IsProperLine IsInRange line_tree
returns-clause-read c =
    let members =
    (c.in_ok-args.ensures.read.1 ∙ ap (member (key_text key.Args) (list_tree value_tree c.in_ok-args.args))
    (c.in_ok-calls.ensures.read.1 ∙ ap (member (key_text key.Calls) (list_tree call_tree c.in_ok-calls.calls))
    (c.in_ok-id.ensures.read.1 ∙ ap (member (key_text key.Id) (number_tree c.in_ok-id.id))
    (c.in_ok-word.ensures.read ∙ ap (member (key_text key.Kind) (string (codes "inv")))
    (c.in_ok-method.ensures.read.1 ∙ ap (member (key_text key.Method) (method_tree c.in_ok-method.method))
    (c.in_ok-plan.ensures.read.1 ∙ ap (member (key_text key.Plan) (number_tree c.in_ok-plan.plan))
    (c.in_ok-reply.ensures.read.1 ∙ ap (member (key_text key.Reply) (reply_tree c.in_ok-reply.reply))
    (c.in_ok-steps.ensures.read.1 ∙ ap (member (key_text key.Steps) (number_tree c.in_ok-steps.steps))
    c.in_ok-end.ensures.read)))))))) in (
      (
        (
          long-to _ c.in_ok-id.ensures.read.0.1,
          long-to _ c.in_ok-plan.ensures.read.0.1,
          record {
            method = c.in_ok-method.ensures.read.0;
            args = c.in_ok-args.ensures.read.0;
            calls = c.in_ok-calls.ensures.read.0;
            reply = c.in_ok-reply.ensures.read.0;
            steps = long-to _ c.in_ok-steps.ensures.read.0.1;
          },
        ),
        tt,
      ),
      ap object members,
    )
