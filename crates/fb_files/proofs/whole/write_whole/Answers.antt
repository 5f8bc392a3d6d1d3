use Rattle.std.proofs.Common.{◌++◌, take}
use Rattle.std.proofs.KnownBytes.{Appends-trans}
use Rattle.fb_files.proofs.WholeSteps.{taken}
use Rattle.fb_files.proofs.whole.write_whole.Goals as goal

pub loop-left-preserved : goal.loop-left-preserved
loop-left-preserved g c =
    let before = c.loop-left.invariant in
    let piece = take c.in_ok-taken.taken c.loop-left.left.now in (
      before.0 ++ piece,
      taken c.args.bytes.now before.0 c.loop-left.left.now c.in_ok-taken.taken before.1,
      Appends-trans _ _ _ before.0 piece before.2 c.in_ok-taken.ensures.bytes,
    )
