use Rattle.std.proofs.Common.{◌+◌, ◌*◌, ◌^◌, count_by, eqb, vec_len}
use Rattle.fb_graph.proofs.graph.CallGraph.walk.Given as goal

-- a method that is entered has fewer callees than a number of 64 bits
abbrev pub decreases-loop-task : goal.decreases-loop-task
decreases-loop-task l = count_by (λ level. eqb level 0) l.levels * 2 ^ 64 + vec_len l.tasks
