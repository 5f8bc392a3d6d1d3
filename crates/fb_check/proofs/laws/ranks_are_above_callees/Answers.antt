use Rattle.fb_check.specs.Calls.{rank_limit, graph_of}
use Rattle.fb_check.proofs.CallLaws.{none-shallow}
use Rattle.fb_check.proofs.AcceptanceLaws.{calls_sound}
use Rattle.fb_check.proofs.SiteLaws.{callee-called}
use Rattle.fb_check.proofs.laws.ranks_are_above_callees.Goals as goal

pub returns-clause-above : goal.returns-clause-above
returns-clause-above c tree method site callee k j is rank below =
    c.ranks_fall.ensures (graph_of tree) method callee k j rank (callee-called tree method site callee is) below

pub returns-clause-no_cycle : goal.returns-clause-no_cycle
returns-clause-no_cycle c tree none =
    c.chains_end.ensures (graph_of tree) rank_limit (none-shallow c.chains_are_tested.ensures (graph_of tree) (calls_sound tree none))
