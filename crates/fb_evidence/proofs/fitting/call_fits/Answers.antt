use Rattle.std.proofs.Common.{subst, sym}
use Rattle.fb_tree.specs.declared.asked.Asked.{Asked}
use Rattle.fb_meaning.specs.Records.{IsCallOf}
use Rattle.fb_evidence.specs.Deciding.{Decides}
use Rattle.fb_evidence.proofs.Fits.{reply_decides}
use Rattle.fb_evidence.proofs.fitting.call_fits.Goals as goal

pub returns : goal.returns
returns c =
    let services = c.args.program.now.tree in
    subst (λ (asked : Asked). Decides (IsCallOf services c.args.method.0 asked) c.reply_fits.result) c.asked.view_is
    (reply_decides services c.args.method.0 _ c.in-Some.callee.0 c.gives.result c.reply_fits.result (sym c.in-Some.ensures.callee) c.if-callee-asked.false
    c.gives.ensures c.reply_fits.ensures)
