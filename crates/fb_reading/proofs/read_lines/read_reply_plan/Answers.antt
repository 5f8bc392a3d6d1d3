use Rattle.std.proofs.Common.{refl, ◌∙◌, subst}
use Rattle.std.proofs.lemmas.Result.{err_from_is_err_and}
use Rattle.fb_report.specs.Trees.{reply_tree}
use Rattle.serde_json.specs.View.{members_view}
use Rattle.fb_reading.specs.Answers.{IsRestOfPlan}
use Rattle.fb_reading.specs.Refusals.{OrMemory, plan_refused}
use Rattle.fb_reading.proofs.Passing.{missed, passed}
use Rattle.fb_reading.proofs.PlanLines.{is-there, reply-plan, reply-there}
use Rattle.fb_reading.proofs.read_lines.read_reply_plan.Goals as goal

pub returns-in_err-reply-clause-refused : goal.returns-in_err-reply-clause-refused
returns-in_err-reply-clause-refused c =
    let p = err_from_is_err_and c.from_residual.result c.from_residual.ensures.1 in
    rw (p.1, p.2) (missed _ _ _ _ _ _ c.in_err-reply.ensures.refused)

pub returns-in_err-rest-clause-refused : goal.returns-in_err-rest-clause-refused
returns-in_err-rest-clause-refused c =
    let p = err_from_is_err_and c.from_residual-in_err-rest.result c.from_residual-in_err-rest.ensures.1 in
    rw (p.1, p.2)
    (passed _ _ _ _ _ _ _ _ c.in_ok-reply.ensures.read.1 (c.in_ok-reply.reply, c.in_ok-reply.ensures.read.0, refl)
    (subst (λ b. OrMemory (plan_refused b (members_view c.value.new.left)) c.in_err-rest.field-0.0) (c.is_some.ensures ∙ is-there reply_tree reply-there c.in_ok-reply.reply) c.in_err-rest.ensures.refused))

pub returns-clause-read : goal.returns-clause-read
returns-clause-read c =
    rw c.plan_line.ensures
    (reply-plan _ c.in_ok-reply.reply _ c.in_ok-rest.rest c.in_ok-reply.ensures.read.0 c.in_ok-reply.ensures.read.1 (subst (λ b. IsRestOfPlan b (members_view c.value.new.left) c.in_ok-rest.rest) c.is_some.ensures c.in_ok-rest.ensures.read))
