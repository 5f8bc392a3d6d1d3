use Rattle.std.proofs.Common.{◌≡◌, length}
use Rattle.std.specs.Option.{option_or}
use Rattle.std.specs.BTreeMap.{get}
use Rattle.fb_index.specs.Entry.{Occurrence, entry_cmp}
use Rattle.fb_transport.specs.Sources.{reply_at}
use Rattle.fb_transport.proofs.scripted.by_entry.Given as goal

-- a reply that is still to come counts before those that are kept
abbrev pub invariant-loop-pair : goal.invariant-loop-pair
invariant-loop-pair l =
    (entry : Occurrence) → reply_at l.fn.replies.items entry ≡ option_or (reply_at l.replies.items entry) (get entry_cmp l.made entry)

abbrev pub decreases-loop-pair : goal.decreases-loop-pair
decreases-loop-pair l = length l.replies.items
