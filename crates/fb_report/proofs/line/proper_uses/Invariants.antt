use Rattle.std.proofs.Common.{take, All}
use Rattle.fb_report.specs.Ranges.{IsLong}
use Rattle.fb_report.proofs.line.proper_uses.Given as goal

abbrev pub invariant-loop-number : goal.invariant-loop-number
invariant-loop-number l = All IsLong (take l.number-index l.uses)
