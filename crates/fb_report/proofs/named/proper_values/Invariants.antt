use Rattle.std.proofs.Common.{take, All}
use Rattle.fb_base.specs.Values.{IsProper}
use Rattle.fb_report.proofs.named.proper_values.Given as goal

abbrev pub invariant-loop-value : goal.invariant-loop-value
invariant-loop-value l = All IsProper (take l.value-index l.values)
