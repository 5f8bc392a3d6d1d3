use Rattle.std.proofs.Common.{◌≡◌, ◌<◌, ℕ, Some, slice_get}
use Rattle.fb_tree.specs.declared.recorded.Record.{Record}
use Rattle.fb_tree.specs.Agreement.{RecordsAgree}
use Rattle.tests_runs.proofs.agreeing.agrees_with_all.Given as goal

-- it agrees with those before
abbrev pub invariant-loop-id : goal.invariant-loop-id
invariant-loop-id l = (j : ℕ) (known : Record) → j < l.id → slice_get l.store j ≡ Some known → RecordsAgree l.item known
