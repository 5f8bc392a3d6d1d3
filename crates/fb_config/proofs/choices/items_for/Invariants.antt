use Rattle.std.proofs.Common.{◌≡◌, ◌++◌, Bor, bytes_eq, filter, map, drop}
use Rattle.fb_config.specs.declared.fault_item.FaultItem.{FaultItem}
use Rattle.fb_config.proofs.choices.items_for.Given as goal

-- the items kept come before those that are kept of the rest
abbrev pub invariant-loop-item : goal.invariant-loop-item
invariant-loop-item l =
    map (λ (i : Bor FaultItem). i.now) l.kept.items ++ filter (λ (i : FaultItem). bytes_eq i.callee l.service) (drop l.item-index l.items)
    ≡ filter (λ (i : FaultItem). bytes_eq i.callee l.service) l.items
