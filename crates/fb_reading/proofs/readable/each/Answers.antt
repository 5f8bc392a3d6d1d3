use Rattle.std.proofs.Common.{◌≡◌, Err, ap, arith}
use Rattle.std.proofs.lemmas.List.Elements.{All-push}
use Rattle.std.proofs.lemmas.Result.{err_from_is_err_and}
use Rattle.fb_reading.specs.declared.readable.Misfit.TheVariants.{Shape}
use Rattle.fb_reading.proofs.Items.{tree-at, read-step, read-all}
use Rattle.fb_reading.proofs.readable.each.Goals as goal

pub returns-in_err-read-clause-refused : goal.returns-in_err-read-clause-refused
returns-in_err-read-clause-refused g c =
    let p = err_from_is_err_and c.from_residual.result c.from_residual.ensures.1 in
    rw (p.1, p.2) (λ is trees. c.in_err-read.ensures.refused (let e : c.in_err-read.field-0.0 ≡ Shape = cc in ap Err e)
    (tree-at g.T.Readable.fits g.T.Readable.tree _ trees.0 c.loop-item.item-index _ trees.2 trees.1 (omega arith) c.item-item.is))

pub loop-item-preserved : goal.loop-item-preserved
loop-item-preserved g c =
    rw c.in_ok-push.ensures.ok
    (read-step g.T.Readable.fits g.T.Readable.tree _ _ _ _ _ c.loop-item.invariant (omega arith) c.item-item.is (All-push g.T.Readable.fits _ _ c.loop-item.invariant.fits c.in_ok-read.ensures.read.0) c.in_ok-read.ensures.read.1)

pub returns-clause-read : goal.returns-clause-read
returns-clause-read g c = (c.loop-item.invariant.fits, read-all g.T.Readable.fits g.T.Readable.tree _ _ _ c.loop-item.invariant (omega arith))
