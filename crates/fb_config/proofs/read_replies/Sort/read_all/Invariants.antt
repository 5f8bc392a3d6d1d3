use Rattle.std.proofs.Common.{◌≡◌, ◌++◌, drop, map}
use Rattle.std.specs.Option.{option_map}
use Rattle.toml.specs.View.{view}
use Rattle.fb_config.specs.Documents.{all_of}
use Rattle.fb_config.specs.Sorts.{reply_by}
use Rattle.fb_config.proofs.read_replies.Sort.read_all.Given as goal

-- the replies made come before those of the items that are left
abbrev pub invariant-loop-item : goal.invariant-loop-item
invariant-loop-item l =
    all_of (reply_by l.self) (map view l.items) ≡ option_map (λ rest. l.replies ++ rest) (all_of (reply_by l.self) (map view (drop l.item-index l.items)))
