use Rattle.std.proofs.Common.{take}
use Rattle.fb_meaning.specs.Each.{HoldsOfEach}
use Rattle.fb_meaning.specs.Records.{IsCallOf}
use Rattle.fb_evidence.proofs.fitting.calls_fit.Given as goal

abbrev pub invariant-loop-asked : goal.invariant-loop-asked
invariant-loop-asked l = HoldsOfEach (IsCallOf l.program.tree l.method.0) (take l.asked-index l.calls)
