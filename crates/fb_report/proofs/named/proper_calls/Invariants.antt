use Rattle.std.proofs.Common.{take, All}
use Rattle.fb_report.specs.Ranges.{IsProperCall}
use Rattle.fb_report.proofs.named.proper_calls.Given as goal

abbrev pub invariant-loop-asked : goal.invariant-loop-asked
invariant-loop-asked l = All IsProperCall (take l.asked-index l.calls)
