use Rattle.std.proofs.Common.{◌≡◌, fold, take}
use Rattle.fb_tally.specs.Owning.{mark}
use Rattle.fb_tally.proofs.owning.mark_all.Given as goal

abbrev pub invariant-loop-row : goal.invariant-loop-row
invariant-loop-row l = l.marks ≡ fold mark l.initial.marks (take l.row-index l.records)
