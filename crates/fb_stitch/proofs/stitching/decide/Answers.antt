use Rattle.std.proofs.Common.{Some, ap, ◌∙◌, subst}
use Rattle.fb_transport.specs.Sources.{fault_or_forward}
use Rattle.fb_stitch.specs.Finding.{FindsTree, ground_of}
use Rattle.fb_stitch.proofs.Knowing.{answers_fault, answers_no_method, answers_none, answers_tree}
use Rattle.fb_stitch.proofs.stitching.decide.Goals as goal

pub returns-in-Some-clause-answers : goal.returns-in-Some-clause-answers
returns-in-Some-clause-answers c =
    let w = c.args.walks.now in
    answers_fault w.program.now.tree w.store.now w.limit w.plan.now c.args.at.now c.args.callee c.args.args.now c.in-Some.reply
    (c.in_ok-reply.ensures ∙ ap (λ f. Some (fault_or_forward f)) c.in-Some.is)

pub returns-in_default-rank-clause-answers : goal.returns-in_default-rank-clause-answers
returns-in_default-rank-clause-answers c =
    let w = c.args.walks.now in
    answers_no_method w.program.now.tree w.store.now w.limit w.plan.now c.calls_are_decided.ensures.method (c.more_fuel_same_run.ensures.method w.program.now.tree)
    c.proper.ensures c.args.at.now c.args.callee c.args.args.now
    (c.in_ok-reply.ensures ∙ ap (λ f. Some (fault_or_forward f)) c.in_default.is) c.in_default-rank.ensures

pub returns-in-None-clause-answers : goal.returns-in-None-clause-answers
returns-in-None-clause-answers c =
    let w = c.args.walks.now in
    answers_none w.program.now.tree w.store.now w.limit w.plan.now c.calls_are_decided.ensures.method (c.more_fuel_same_run.ensures.method w.program.now.tree)
    c.args.at.now c.args.callee c.args.args.now c.new-found.result c.invocation.new.found c.new-found.ensures.steps
    (c.in_ok-reply.ensures ∙ ap (λ f. Some (fault_or_forward f)) c.in_default.is)
    (subst (FindsTree (ground_of w) c.args.callee c.args.args.now c.args.at.now c.new-found.result c.invocation.new.found) c.in-None.is c.in_ok-invocation.ensures)

pub returns-in-Some-2-clause-answers : goal.returns-in-Some-2-clause-answers
returns-in-Some-2-clause-answers c =
    let w = c.args.walks.now in
    answers_tree w.program.now.tree w.store.now w.limit w.plan.now c.decisions_make_the_run.ensures.made c.requires.known
    c.args.at.now c.args.callee c.args.args.now c.new-found.result c.invocation.new.found c.in-Some-2.reply c.new-found.ensures.steps c.new-found.ensures.injected
    (c.in_ok-reply.ensures ∙ ap (λ f. Some (fault_or_forward f)) c.in_default.is)
    (subst (FindsTree (ground_of w) c.args.callee c.args.args.now c.args.at.now c.new-found.result c.invocation.new.found) c.in-Some-2.is c.in_ok-invocation.ensures)
