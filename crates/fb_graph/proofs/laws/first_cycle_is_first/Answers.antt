use Rattle.fb_graph.proofs.Cycles.{first_cycle-tells}
use Rattle.fb_graph.proofs.laws.first_cycle_is_first.Goals as goal

pub returns : goal.returns
returns c = first_cycle-tells
