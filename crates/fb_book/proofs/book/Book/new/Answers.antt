use Rattle.std.proofs.Common.{[], sym, subst}
use Rattle.fb_book.specs.Books.{BookOf}
use Rattle.fb_book.specs.Kept.{IsBookOf}
use Rattle.fb_book.proofs.Growing.{no_lines}
use Rattle.fb_book.proofs.book.Book.new.Goals as goal

pub returns-clause-book : goal.returns-clause-book
returns-clause-book c services test choices fuel =
    subst (λ (book : BookOf). IsBookOf services test choices fuel [] book) (λ i. record { rows = sym c.new.ensures.items i; told = sym c.new-2.ensures i })
    (no_lines services test choices fuel)
