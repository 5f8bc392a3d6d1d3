use Rattle.std.proofs.Common.{sym, subst}
use Rattle.std.proofs.lemmas.Result.{IfOk-weaker}
use Rattle.fb_config.specs.Choices.{choices_for}
use Rattle.fb_book.specs.Laws.{AnswersMissing}
use Rattle.fb_book.proofs.FirstMissing.{answers_missing}
use Rattle.fb_book.proofs.book.Book.first_missing.Goals as goal

pub returns : goal.returns
returns c =
    let told = AnswersMissing c.args.self.now (choices_for c.args.faults.now) in
    IfOk-weaker c.missing_of.result _ told (λ missing is. subst told (sym is) (answers_missing c.args.self.now (choices_for c.args.faults.now))) c.missing_of.ensures
