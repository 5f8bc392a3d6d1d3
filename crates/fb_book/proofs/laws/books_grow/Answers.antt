use Rattle.fb_book.proofs.Books.{books_grow}
use Rattle.fb_book.proofs.laws.books_grow.Goals as goal

pub returns : goal.returns
returns c = books_grow c.spelled_is_run.ensures.run c.spelled_is_run.ensures.one c.our_runs_are_lawful.ensures
