use Rattle.fb_index.proofs.Unique.{index-unique}
use Rattle.fb_index.proofs.laws.index_of_text.Goals as goal

pub returns : goal.returns
returns c = index-unique
