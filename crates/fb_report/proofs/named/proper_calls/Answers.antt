use Rattle.std.proofs.Common.{subst}
use Rattle.std.specs.List.{All}
use Rattle.std.proofs.lemmas.List.{take_all}
use Rattle.fb_report.specs.Ranges.{IsProperCall}
use Rattle.fb_report.proofs.Taking.{all_and_next}
use Rattle.fb_report.proofs.named.proper_calls.Goals as goal

pub loop-asked-preserved : goal.loop-asked-preserved
loop-asked-preserved c =
    all_and_next IsProperCall c.args.calls.now c.loop-asked.asked-index c.asked-item.result c.loop-asked.invariant c.loop-asked-test.true c.asked-item.is c.proper.ensures

pub returns : goal.returns
returns c = subst (All IsProperCall) (take_all c.loop-asked.asked-index c.args.calls.now c.loop-asked-test.false) c.loop-asked.invariant
