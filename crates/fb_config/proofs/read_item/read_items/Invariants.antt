use Rattle.std.proofs.Common.{◌≡◌, ◌+◌, drop, map}
use Rattle.toml.specs.View.{view}
use Rattle.fb_config.specs.FaultFiles.{items_from}
use Rattle.fb_config.proofs.Reading.{with_front}
use Rattle.fb_config.proofs.read_item.read_items.Given as goal

-- the items read come before what is read of the rest
abbrev pub invariant-loop-given : goal.invariant-loop-given
invariant-loop-given l =
    (with_front l.items (items_from l.program.tree l.version l.number (map view (drop l.given-index l.list)))
    ≡ items_from l.program.tree l.version 1 (map view l.list))
    × (l.number ≡ 1 + l.given-index)
