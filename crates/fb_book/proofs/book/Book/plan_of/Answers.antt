use Rattle.std.proofs.Common.{sym, subst}
use Rattle.std.proofs.lemmas.Result.{IfOk-weaker}
use Rattle.fb_config.specs.Choices.{choices_for}
use Rattle.fb_book.specs.Laws.{AnswersParent}
use Rattle.fb_book.proofs.Parents.{answers}
use Rattle.fb_book.proofs.book.Book.plan_of.Goals as goal

pub returns : goal.returns
returns c =
    let told = AnswersParent c.args.self.now (choices_for c.args.faults.now) c.args.parent c.args.fault.now c.args.run in
    IfOk-weaker c.plan_for.result _ told
    (λ plan is. subst told (sym is) (answers c.args.self.now (choices_for c.args.faults.now) c.args.parent c.args.fault.now c.args.run)) c.plan_for.ensures
