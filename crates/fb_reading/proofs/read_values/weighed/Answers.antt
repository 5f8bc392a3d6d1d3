use Rattle.std.proofs.Common.{◌≡◌, Err, length, inl, inr, ap, sym, ◌∙◌, arith}
use Rattle.std.proofs.lemmas.Result.{err_from_is_err_and}
use Rattle.fb_base.specs.Weight.{light_list}
use Rattle.fb_reading.specs.declared.readable.Misfit.TheVariants.{Shape}
use Rattle.fb_reading.proofs.Items.{some-read}
use Rattle.fb_reading.proofs.read_values.weighed.Goals as goal

pub of-requires : goal.of-requires
of-requires g c =
    let some = some-read g.T.Readable.fits g.T.Readable.tree c.args.items.now c.in_ok-read.read c.in_ok-read.ensures.read.1 c.requires in
    let size : length c.into_vec.result.items ≡ length c.in_ok-read.read = ap length c.into_vec.ensures in
    omega (arith, some, size, c.into_vec.result.ok.0)

pub returns-in_err-read-clause-refused : goal.returns-in_err-read-clause-refused
returns-in_err-read-clause-refused g c =
    let p = err_from_is_err_and c.from_residual.result c.from_residual.ensures.1 in
    rw (p.1, p.2) (λ is. inl (c.in_err-read.ensures.refused (let e : c.in_err-read.field-0.0 ≡ Shape = cc in ap Err e)))

pub returns-in-None-clause-refused : goal.returns-in-None-clause-refused
returns-in-None-clause-refused g c is =
    inr (
      c.in_ok-read.read,
      c.in_ok-read.ensures.read.0,
      c.in_ok-read.ensures.read.1,
      ap (light_list g.T.Item.weight) (sym c.into_vec.ensures) ∙ sym c.of.ensures ∙ c.in-None.is,
    )
