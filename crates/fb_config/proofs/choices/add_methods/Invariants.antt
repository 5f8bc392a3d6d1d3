use Rattle.std.proofs.Common.{◌≡◌, ◌++◌, Bor, map, drop}
use Rattle.fb_syntax.specs.Views.{view_method}
use Rattle.fb_config.specs.declared.fault_item.FaultItem.{FaultItem}
use Rattle.fb_config.specs.Choices.{choices_in}
use Rattle.fb_config.proofs.choices.add_methods.Given as goal

-- the choices so far come before those for the methods that are left
abbrev pub invariant-loop-method : goal.invariant-loop-method
invariant-loop-method l =
    l.choices ++ choices_in (map (λ (i : Bor FaultItem). i.now) l.items) l.service (map view_method (drop l.method-index l.methods))
    ≡ l.fn.choices ++ choices_in (map (λ (i : Bor FaultItem). i.now) l.items) l.service (map view_method l.methods)
