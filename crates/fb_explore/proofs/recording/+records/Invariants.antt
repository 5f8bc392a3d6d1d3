use Rattle.std.proofs.Common.{◌≡◌, ◌++◌, ◌∷◌, [], take}
use Rattle.std.specs.List.{flat_map}
use Rattle.fb_tree.specs.Records.{record_of}
use Rattle.fb_tree.specs.Views.{view_node}
use Rattle.fb_explore.proofs.RecordsEach.{records_from}
use Rattle.fb_explore.proofs.recording.+records.Given as goal

abbrev pub invariant-add_node-loop-made : goal.invariant-add_node-loop-made
invariant-add_node-loop-made l =
    l.found.items ≡ (l.fn.found.items ++ record_of (view_node l.node) ∷ []) ++ flat_map records_from (take l.made-index l.made-items)
