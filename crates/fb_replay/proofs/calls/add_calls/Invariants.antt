use Rattle.std.proofs.Common.{◌≡◌, ◌++◌, [], take, string_bytes}
use Rattle.std.specs.List.{flat_map}
use Rattle.fb_replay.proofs.Flat.{lines_from}
use Rattle.fb_replay.proofs.calls.add_calls.Given as goal

abbrev pub invariant-loop-made : goal.invariant-loop-made
invariant-loop-made l =
    string_bytes l.text ≡ string_bytes l.fn.text ++ flat_map (lines_from l.program.tree []) (take l.made-index l.calls)
