use Rattle.std.proofs.Common.{◌≡◌, fold, take}
use Rattle.fb_tally.specs.Owning.{own}
use Rattle.fb_tally.proofs.owning.own_all.Given as goal

abbrev pub invariant-loop-place : goal.invariant-loop-place
invariant-loop-place l = l.records ≡ fold (own l.number) l.initial.records (take l.place-index l.uses)
