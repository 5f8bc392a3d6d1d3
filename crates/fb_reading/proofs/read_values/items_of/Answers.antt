use Rattle.std.proofs.Common.{◌≡◌, Err, sym, ap, ◌∙◌}
use Rattle.std.proofs.lemmas.Result.{err_from_is_err_and}
use Rattle.fb_reading.specs.declared.readable.Misfit.TheVariants.{Shape}
use Rattle.fb_reading.proofs.ItemLists.{ints-none, bools-none, texts-none, others-none}
use Rattle.fb_reading.proofs.read_values.items_of.Goals as goal

pub returns-in_err-weighed-clause-refused : goal.returns-in_err-weighed-clause-refused
returns-in_err-weighed-clause-refused c =
    let p = err_from_is_err_and c.from_residual.result c.from_residual.ensures.1 in
    rw (p.1, p.2)
    (λ is. ints-none c.args.items.now c.first-item.result c.in-len1-up.len_at_least c.first-item.is (sym c.if-is_number.true ∙ c.is_number.ensures)
    (c.in_err-weighed.ensures.refused (let e : c.in_err-weighed.field-0.0 ≡ Shape = cc in ap Err e)))

pub returns-in_err-weighed-2-clause-refused : goal.returns-in_err-weighed-2-clause-refused
returns-in_err-weighed-2-clause-refused c =
    let p = err_from_is_err_and c.from_residual-in_err-weighed-2.result c.from_residual-in_err-weighed-2.ensures.1 in
    rw (p.1, p.2)
    (λ is. bools-none c.args.items.now c.first-item.result c.in-len1-up.len_at_least c.first-item.is (sym c.if-is_boolean.true ∙ c.is_boolean.ensures)
    (c.in_err-weighed-2.ensures.refused (let e : c.in_err-weighed-2.field-0.0 ≡ Shape = cc in ap Err e)))

pub returns-in_err-weighed-3-clause-refused : goal.returns-in_err-weighed-3-clause-refused
returns-in_err-weighed-3-clause-refused c =
    let p = err_from_is_err_and c.from_residual-in_err-weighed-3.result c.from_residual-in_err-weighed-3.ensures.1 in
    rw (p.1, p.2)
    (λ is. texts-none c.args.items.now c.first-item.result c.in-len1-up.len_at_least c.first-item.is (sym c.if-is_string.true ∙ c.is_string.ensures)
    (c.in_err-weighed-3.ensures.refused (let e : c.in_err-weighed-3.field-0.0 ≡ Shape = cc in ap Err e)))

pub returns-clause-refused : goal.returns-clause-refused
returns-clause-refused c is tree =
    others-none c.args.items.now c.first-item.result c.in-len1-up.len_at_least c.first-item.is (sym c.if-is_number.false ∙ c.is_number.ensures) (sym c.if-is_boolean.false ∙ c.is_boolean.ensures)
    (sym c.if-is_string.false ∙ c.is_string.ensures) tree
