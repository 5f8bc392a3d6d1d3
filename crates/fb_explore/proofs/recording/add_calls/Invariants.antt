use Rattle.std.proofs.Common.{◌≡◌, ◌++◌, take}
use Rattle.std.specs.List.{flat_map}
use Rattle.fb_explore.proofs.RecordsEach.{records_from}
use Rattle.fb_explore.proofs.recording.add_calls.Given as goal

abbrev pub invariant-loop-made : goal.invariant-loop-made
invariant-loop-made l = l.found.items ≡ l.fn.found.items ++ flat_map records_from (take l.made-index l.calls)
