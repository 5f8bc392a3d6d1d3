use Rattle.fb_print.proofs.ReadBack.{services_back, test_back}
use Rattle.fb_print.proofs.laws.canonical_texts_have_their_trees.Goals as goal

pub returns : goal.returns
returns c = record { services = services_back; test = test_back }
