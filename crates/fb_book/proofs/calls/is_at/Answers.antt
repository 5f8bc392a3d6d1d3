use Rattle.fb_book.proofs.Sameness.{is_same_index}
use Rattle.fb_book.proofs.calls.is_at.Goals as goal

pub returns : goal.returns
returns c = is_same_index c.args.call.now.index c.args.index.now c.same.result c.same.ensures
