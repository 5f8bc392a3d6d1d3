use Rattle.std.proofs.Common.{◌≡◌, Some, take}
use Rattle.fb_store.specs.Following.{replies_of}
use Rattle.fb_store.specs.Growth.{place_of}
use Rattle.fb_store.proofs.store.Store.descend.Given as goal

abbrev pub invariant-loop-asked : goal.invariant-loop-asked
invariant-loop-asked l = place_of l.self l.item.method l.item.args (take l.asked-index (replies_of l.item)) ≡ Some l.place
