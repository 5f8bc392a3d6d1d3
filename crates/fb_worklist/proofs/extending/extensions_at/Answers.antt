use Rattle.std.proofs.Common.{sym, subst}
use Rattle.std.proofs.lemmas.List.Elements.{All-get_or}
use Rattle.fb_worklist.specs.Worklists.{HasMethod}
use Rattle.fb_worklist.proofs.extending.extensions_at.Goals as goal

pub push_call-requires : goal.push_call-requires
push_call-requires c =
    let has = HasMethod c.args.faults.now in
    subst has (sym c.call-item.is) (All-get_or has c.args.calls.now c.loop-call.call-index c.call-item.result c.loop-call-test.true c.requires)
