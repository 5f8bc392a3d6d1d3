use Rattle.std.proofs.Common.{◌≡◌, ◌++◌, drop, map}
use Rattle.std.specs.Option.{option_map}
use Rattle.toml.specs.View.{view}
use Rattle.fb_config.specs.Documents.{all_of}
use Rattle.fb_config.specs.Values.{scalar_of}
use Rattle.fb_config.proofs.read_value.scalars.Given as goal

-- the values made come before those of the items that are left
abbrev pub invariant-loop-item : goal.invariant-loop-item
invariant-loop-item l =
    all_of scalar_of (map view l.items) ≡ option_map (λ rest. l.values.items ++ rest) (all_of scalar_of (map view (drop l.item-index l.items)))
