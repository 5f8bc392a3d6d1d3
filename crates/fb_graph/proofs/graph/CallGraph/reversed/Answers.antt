use Rattle.std.proofs.Common.{arith}
use Rattle.fb_graph.proofs.Reversals.{ReversesBelow-more, ReversesBelow-all}
use Rattle.fb_graph.proofs.graph.CallGraph.reversed.Goals as goal

pub loop-caller-preserved : goal.loop-caller-preserved
loop-caller-preserved c =
    ReversesBelow-more c.args.self.now c.loop-caller.callers.items c.add_caller.new.callers.items c.loop-caller.caller
    c.loop-caller.invariant (rw (← c.callees.ensures) c.in_ok-add_caller.ensures)

pub returns : goal.returns
returns c =
    rw (c.of-2.ensures, c.of.ensures)
    (ReversesBelow-all c.args.self.now c.loop-caller.callers.items c.loop-caller.caller (omega arith) c.loop-caller.invariant)
