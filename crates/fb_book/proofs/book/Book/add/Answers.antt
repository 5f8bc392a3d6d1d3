use Rattle.std.proofs.Common.{sym, subst}
use Rattle.std.proofs.lemmas.Result.{on_ok_weaker}
use Rattle.fb_config.specs.Choices.{choices_for, kind_given}
use Rattle.fb_book.specs.Books.{BookOf, AreKnown}
use Rattle.fb_book.specs.Laws.{AddsLine}
use Rattle.fb_book.proofs.Known.{row_known}
use Rattle.fb_book.proofs.book.Book.add.Goals as goal

pub returns-clause-known : goal.returns-clause-known
returns-clause-known c =
    on_ok_weaker c.add_row.result
    (λ is. subst (λ (book : BookOf). AreKnown c.args.faults.now book.rows) (sym is)
    (row_known c.args.faults.now c.args.self.now.rows _ _ c.args.calls.now c.requires.known c.requires.calls)) c.add_row.ensures

pub returns-clause-book : goal.returns-clause-book
returns-clause-book c =
    let choices = choices_for c.args.faults.now in
    on_ok_weaker c.add_row.result
    (λ is. subst (λ next. AddsLine c.args.self.now next choices c.args.at c.args.plan c.args.parent c.args.fault.now c.args.calls.now) (sym is)
    (c.books_grow.ensures (kind_given c.args.faults.now) choices c.proper.ensures.choices c.args.self.now c.args.at c.args.plan c.args.parent c.args.fault.now c.args.calls.now))
    c.add_row.ensures
