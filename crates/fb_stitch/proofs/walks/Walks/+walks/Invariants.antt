use Rattle.std.proofs.Common.{◌+◌, ◌-◌, ◌*◌, length}
use Rattle.fb_stitch.specs.Finding.{ground_of}
use Rattle.fb_stitch.proofs.Longest.{all_calls}
use Rattle.fb_stitch.proofs.Walked.{IsWalking}
use Rattle.fb_stitch.proofs.walks.Walks.+walks.Given as goal

abbrev pub decreases-invocation : goal.decreases-invocation
decreases-invocation l = 3 * l.rank

abbrev pub decreases-call : goal.decreases-call
decreases-call l = 3 * l.rank + 1

abbrev pub decreases-further : goal.decreases-further
decreases-further l = 3 * l.rank + 2

abbrev pub invariant-invocation-loop-id : goal.invariant-invocation-loop-id
invariant-invocation-loop-id l = IsWalking (ground_of l.self) l.fn.callee l.args l.at l.fn.found l.slot l.found l.cursor

abbrev pub decreases-invocation-loop-id : goal.decreases-invocation-loop-id
decreases-invocation-loop-id l = all_calls l.self.store.now + 1 - length l.cursor.replies
