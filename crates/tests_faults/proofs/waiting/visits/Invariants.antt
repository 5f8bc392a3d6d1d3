use Rattle.std.proofs.Common.{All}
use Rattle.fb_worklist.specs.Worklists.{HasMethod}
use Rattle.tests_faults.proofs.waiting.visits.Given as goal

abbrev pub invariant-loop-index : goal.invariant-loop-index
invariant-loop-index l = All (HasMethod l.faults) l.visits.items
