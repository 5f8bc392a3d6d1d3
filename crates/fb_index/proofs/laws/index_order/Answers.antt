use Rattle.fb_index.proofs.Sameness.{index_cmp-total, index_cmp-Equal, same_index-decides}
use Rattle.fb_index.proofs.laws.index_order.Goals as goal

pub returns : goal.returns
returns c = record { total = index_cmp-total; level = index_cmp-Equal; tested = same_index-decides }
