use Rattle.std.proofs.Common.{take}
use Rattle.fb_tree.specs.Views.{view_calls}
use Rattle.fb_stitch.proofs.Parts.{IsWalkedTo}
use Rattle.fb_stitch.proofs.derivation.walk_calls.Given as goal

abbrev pub invariant-loop-made : goal.invariant-loop-made
invariant-loop-made l =
    IsWalkedTo l.walks.program.now.tree l.walks.store.now l.walks.limit l.walks.plan.now l.found (view_calls (take l.made-index l.calls))
