use Rattle.fb_graph.proofs.Reversals.{ReversesBelow}
use Rattle.fb_graph.proofs.graph.CallGraph.reversed.Given as goal

abbrev pub invariant-loop-caller : goal.invariant-loop-caller
invariant-loop-caller l = ReversesBelow l.self l.caller l.callers.items
