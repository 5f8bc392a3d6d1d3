use Rattle.std.proofs.Common.{length}
use Rattle.fb_verify.proofs.Walks.{IsWalk}
use Rattle.fb_verify.proofs.reading.Reading.take.Given as goal

abbrev pub invariant-loop-next : goal.invariant-loop-next
invariant-loop-next g l = IsWalk l.fn.self l.self l.piece l.pieces.left l.pieces.offset l.fn.evals l.evals

abbrev pub decreases-loop-next : goal.decreases-loop-next
decreases-loop-next g l = length l.pieces.left
