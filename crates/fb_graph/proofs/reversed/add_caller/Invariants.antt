use Rattle.std.proofs.Common.{take}
use Rattle.fb_graph.specs.Reverse.{AddsCaller}
use Rattle.fb_graph.proofs.reversed.add_caller.Given as goal

abbrev pub invariant-loop-callee : goal.invariant-loop-callee
invariant-loop-callee l =
    AddsCaller (take l.callee-index l.callees) l.caller l.initial.callers.items l.callers.items
