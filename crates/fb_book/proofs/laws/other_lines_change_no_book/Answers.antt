use Rattle.fb_book.proofs.Growing.{other_lines}
use Rattle.fb_book.proofs.laws.other_lines_change_no_book.Goals as goal

pub returns : goal.returns
returns c = other_lines
