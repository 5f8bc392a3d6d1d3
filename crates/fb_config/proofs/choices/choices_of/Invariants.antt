use Rattle.std.proofs.Common.{◌≡◌, [], Bor, fold, flat_map, map, drop}
use Rattle.fb_config.specs.declared.fault_item.FaultItem.{FaultItem}
use Rattle.fb_config.specs.Choices.{replies_for}
use Rattle.fb_config.specs.Once.{with_reply}
use Rattle.fb_config.proofs.choices.choices_of.Given as goal

-- adding the replies of the items that are left makes the choices
abbrev pub invariant-loop-item : goal.invariant-loop-item
invariant-loop-item l =
    fold with_reply l.known (flat_map (replies_for l.name) (map (λ (i : Bor FaultItem). i.now) (drop l.item-index l.items)))
    ≡ fold with_reply [] (flat_map (replies_for l.name) (map (λ (i : Bor FaultItem). i.now) l.items))
