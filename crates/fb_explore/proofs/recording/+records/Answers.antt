use Rattle.std.proofs.Common.{◌∙◌, ◌++◌, ◌∷◌, [], ap, append_assoc}
use Rattle.std.proofs.lemmas.List.{take_all}
use Rattle.std.specs.List.{flat_map}
use Rattle.fb_tree.specs.Records.{record_of}
use Rattle.fb_tree.specs.Views.{view_node}
use Rattle.fb_explore.proofs.RecordsEach.{of_each, records_from}
use Rattle.fb_explore.proofs.recording.+records.Goals as goal

pub add_node-returns : goal.add_node-returns
add_node-returns t c =
    let start = c.args.found.now.items in
    let here = record_of (view_node c.args.node.now) in
    c.loop-made.invariant
    ∙ ap (λ calls. (start ++ here ∷ []) ++ flat_map records_from calls) (take_all _ c.deref-made-items.result.now c.loop-made-test.false ∙ c.deref-made-items.ensures.value)
    ∙ append_assoc start (here ∷ []) (flat_map records_from _)
    ∙ ap (λ records. start ++ records) (of_each c.args.node.now)
