use Rattle.std.proofs.Common.{◌≡◌, []}
use Rattle.fb_config.specs.Choices.{choices_for}
use Rattle.std.proofs.lemmas.Result.{IfOk-weaker}
use Rattle.fb_verify.specs.Verdicts.{IsVerdict}
use Rattle.fb_verify.proofs.Ends.{ticked-whole}
use Rattle.fb_verify.proofs.verifying.verify.Goals as goal

pub returns-in_err-feed-clause-ticks : goal.returns-in_err-feed-clause-ticks
returns-in_err-feed-clause-ticks g c =
    ticked-whole c.args.report.now c.args.evals.now c.feed.new.evals
    (c.feed.ensures.ticks c.args.program.now.tree c.args.test.now.tree (choices_for c.args.faults.now) [] c.new-checker.ensures)

pub returns-clause-ticks : goal.returns-clause-ticks
returns-clause-ticks g c =
    ticked-whole c.args.report.now c.args.evals.now c.feed.new.evals
    (c.feed.ensures.ticks c.args.program.now.tree c.args.test.now.tree (choices_for c.args.faults.now) [] c.new-checker.ensures)

pub returns-clause-verdict : goal.returns-clause-verdict
returns-clause-verdict g c =
    let services = c.args.program.now.tree in
    let test = c.args.test.now.tree in
    let choices = choices_for c.args.faults.now in
    IfOk-weaker c.finish.result _ (IsVerdict services test choices c.args.report.now)
    (λ verdict all. all services test choices c.args.report.now (c.in_ok-feed.ensures.stands services test choices [] c.new-checker.ensures)) c.finish.ensures.verdict
