use Rattle.std.proofs.Common.{ap, ◌∙◌, sym, subst}
use Rattle.fb_meaning.specs.Each.{HoldsOfEach}
use Rattle.fb_meaning.specs.Records.{IsCallOf}
use Rattle.fb_evidence.specs.Deciding.{Decides}
use Rattle.fb_evidence.specs.Fitting.{have_kinds}
use Rattle.fb_evidence.proofs.Fits.{other_kinds, calls_decide}
use Rattle.fb_evidence.proofs.grounds.Grounds.fits.Goals as goal

pub returns-then-not-have_kinds : goal.returns-then-not-have_kinds
returns-then-not-have_kinds c =
    other_kinds c.args.self.now.program.now.tree c.args.item.now c.params-params.result.now c.params-params.ensures
    (ap (λ args. have_kinds args c.params-params.result.now) (sym c.as_slice.ensures) ∙ sym c.if-not-have_kinds.ensures)

pub returns : goal.returns
returns c =
    let services = c.args.self.now.program.now.tree in
    let item = c.args.item.now in
    calls_decide services item c.params-params.result.now c.params-params.ensures c.calls_fit.result
    (ap (λ args. have_kinds args c.params-params.result.now) (sym c.as_slice.ensures) ∙ sym c.if-not-have_kinds.ensures)
    (subst (λ calls. Decides (HoldsOfEach (IsCallOf services item.method.0) calls) c.calls_fit.result) c.as_slice-2.ensures c.calls_fit.ensures)
