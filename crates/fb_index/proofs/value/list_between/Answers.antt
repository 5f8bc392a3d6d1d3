use Rattle.std.proofs.Common.{ap, sym, ◌∙◌, ◌∷◌, ◌++◌, []}
use Rattle.fb_base.specs.Operators.{value_of_list}
use Rattle.fb_index.proofs.ListValues.{list-spelled, no-items-no-list, no-list-of}
use Rattle.fb_index.proofs.value.list_between.Goals as goal

pub returns-in_default : goal.returns-in_default
returns-in_default c =
    let none = rw c.in_default.is at c.in_ok-values.ensures in
    no-items-no-list c.args.items.now (λ vs are same. none (vs, are, same))

pub returns-in-Ok : goal.returns-in-Ok
returns-in-Ok c =
    let read = rw c.in-Some.is at c.in_ok-values.ensures in
    let made = ap value_of_list (sym c.into_vec.ensures) ∙ c.in-Ok.ensures in
    (c.proper.ensures, ap (λ xs. 91 ∷ xs ++ 93 ∷ []) read.1 ∙ list-spelled c.in-Some.values c.in-Ok.list made)

pub returns-in-Err-Fault : goal.returns-in-Err-Fault
returns-in-Err-Fault c =
    let read = rw c.in-Some.is at c.in_ok-values.ensures in
    let none = ap value_of_list (sym c.into_vec.ensures) ∙ rw c.in-Err-Fault.field-0-is at c.in-Err-Fault.ensures in
    no-list-of c.args.items.now c.in-Some.values read.0 read.1 none
