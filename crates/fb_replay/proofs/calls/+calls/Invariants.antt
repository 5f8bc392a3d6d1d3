use Rattle.std.proofs.Common.{◌≡◌, ◌++◌, take, string_bytes}
use Rattle.std.specs.List.{flat_map}
use Rattle.fb_replay.proofs.Flat.{lines_from}
use Rattle.fb_replay.proofs.calls.+calls.Given as goal

abbrev pub invariant-add_below-loop-made : goal.invariant-add_below-loop-made
invariant-add_below-loop-made l =
    string_bytes l.text ≡ string_bytes l.fn.text ++ flat_map (lines_from l.program.tree l.index) (take l.made-index l.made-items)
