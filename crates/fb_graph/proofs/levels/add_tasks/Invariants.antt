use Rattle.std.proofs.Common.{◌≡◌, ◌+◌, length}
use Rattle.fb_graph.proofs.levels.add_tasks.Given as goal

abbrev pub invariant-loop-method : goal.invariant-loop-method
invariant-loop-method l = length l.tasks.items ≡ length l.initial.tasks.items + l.method-index
