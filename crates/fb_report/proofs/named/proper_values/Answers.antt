use Rattle.std.proofs.Common.{subst}
use Rattle.std.specs.List.{All}
use Rattle.std.proofs.lemmas.List.{take_all}
use Rattle.fb_base.specs.Values.{IsProper}
use Rattle.fb_report.proofs.Taking.{all_and_next}
use Rattle.fb_report.proofs.named.proper_values.Goals as goal

pub loop-value-preserved : goal.loop-value-preserved
loop-value-preserved c =
    all_and_next IsProper c.args.values.now c.loop-value.value-index c.value-item.result c.loop-value.invariant c.loop-value-test.true c.value-item.is c.proper.ensures

pub returns : goal.returns
returns c = subst (All IsProper) (take_all c.loop-value.value-index c.args.values.now c.loop-value-test.false) c.loop-value.invariant
