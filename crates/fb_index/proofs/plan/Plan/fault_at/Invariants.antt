use Rattle.std.proofs.Common.{◌≡◌}
use Rattle.std.specs.Option.{option_copied, option_or}
use Rattle.fb_index.specs.Plan.{fault_at}
use Rattle.fb_index.proofs.plan.Plan.fault_at.Given as goal

abbrev pub invariant-loop-before : goal.invariant-loop-before
invariant-loop-before l = fault_at l.self l.index ≡ option_or (fault_at l.left l.index) (option_copied l.first)
