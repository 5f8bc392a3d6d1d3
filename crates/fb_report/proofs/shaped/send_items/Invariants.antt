use Rattle.std.proofs.Common.{drop}
use Rattle.serde.specs.Event.{Log}
use Rattle.serde_json.specs.Events.{SendsItems}
use Rattle.fb_report.specs.Trees.{trees_of}
use Rattle.fb_report.proofs.shaped.send_items.Given as goal

-- whatever ends it well from here ends it well from the start
abbrev pub invariant-loop-item : goal.invariant-loop-item
invariant-loop-item g l =
    (end : Log) → SendsItems (trees_of g.T.Shaped.tree (drop l.item-index l.items)) (g.S.Serializer.written l.out) end
    → SendsItems (trees_of g.T.Shaped.tree l.items) (g.S.Serializer.written l.initial.out) end
