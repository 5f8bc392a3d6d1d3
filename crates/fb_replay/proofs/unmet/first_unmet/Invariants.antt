use Rattle.std.proofs.Common.{List, length, map}
use Rattle.fb_base.specs.Front.{IsFrontOf}
use Rattle.fb_index.specs.Entry.{Occurrence}
use Rattle.fb_replay.specs.Replays.{IsFirstUnmet}
use Rattle.fb_replay.proofs.unmet.first_unmet.Given as goal

abbrev pub invariant-loop-left : goal.invariant-loop-left
invariant-loop-left l = record {
  unmet : (index : List Occurrence) → IsFirstUnmet (map (λ f. f.now) l.left) (map (λ f. f.now) l.others) index
      → IsFirstUnmet (map (λ f. f.now) l.planned) (map (λ f. f.now) l.injected) index;
  met : IsFrontOf (map (λ f. f.now) l.left) (map (λ f. f.now) l.others) → IsFrontOf (map (λ f. f.now) l.planned) (map (λ f. f.now) l.injected);
}

abbrev pub decreases-loop-left : goal.decreases-loop-left
decreases-loop-left l = length l.left
