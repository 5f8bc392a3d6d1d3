use Rattle.std.proofs.Common.{◌≡◌, map, take}
use Rattle.fb_evidence.specs.Scripts.{reply_in}
use Rattle.fb_evidence.proofs.making.replies_in.Given as goal

abbrev pub invariant-loop-asked : goal.invariant-loop-asked
invariant-loop-asked l = l.replies.items ≡ map reply_in (take l.asked-index l.calls)
