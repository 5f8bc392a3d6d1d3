use Rattle.std.proofs.Common.{◌≡◌, ◌++◌, All, length}
use Rattle.fb_index.specs.Fault.{IsSpelledFault, fault_text}
use Rattle.fb_index.proofs.Lists.{closed}
use Rattle.fb_index.proofs.plan.Plan.read_faults.Given as goal

-- whole faults with a `,` behind each, and what is left
abbrev pub invariant-loop-fault : goal.invariant-loop-fault
invariant-loop-fault l = (l.bytes ≡ closed 44 fault_text l.plan ++ l.left) × All IsSpelledFault l.plan

abbrev pub decreases-loop-fault : goal.decreases-loop-fault
decreases-loop-fault l = length l.left
