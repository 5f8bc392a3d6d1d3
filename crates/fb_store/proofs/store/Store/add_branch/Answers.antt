use Rattle.std.proofs.Common.{◌≡◌, ◌<◌, ◌++◌, ◌∷◌, [], length, arith, Some, slice_get, sym, ap, subst, ◌∙◌}
use Rattle.std.proofs.lemmas.Option.{slice_get-get_or, slice_get_within}
use Rattle.fb_store.specs.Growth.{AreGrown}
use Rattle.fb_store.proofs.Growing.{grown_alike}
use Rattle.fb_store.proofs.OneMore.{grown_with_branch}
use Rattle.fb_store.proofs.store.Store.add_branch.Goals as goal

pub invariant_of-self-in_err-add_branch : goal.invariant_of-self-in_err-add_branch
invariant_of-self-in_err-add_branch c =
    subst (λ records. AreGrown records c.add_branch.new.self) (sym c.reserve.ensures.items)
    (grown_alike c.self.inside.records.items c.self.inside.trees c.add_branch.new.self c.self.invariant c.in_err-add_branch.ensures.err)

pub invariant_of-self-2 : goal.invariant_of-self-2
invariant_of-self-2 c =
    let calls = c.args.item.calls in
    let k = c.args.place.answered in
    let asked = c.index-as_slice-place.result in
    let leaves = c.requires.ending in
    let within : k < length c.as_slice.result.now = omega (arith, slice_get_within calls k leaves.asked leaves.asked_is, ap length c.as_slice.ensures) in
    let asked_is : slice_get calls k ≡ Some asked =
    ap (λ items. slice_get items k) (sym c.as_slice.ensures) ∙ slice_get-get_or c.as_slice.result.now k asked within
    ∙ ap Some (sym c.index-as_slice-place.is) in
    grown_with_branch c.self.inside.records.items c.args.self.now c.push_reserved.new.self.items c.self.inside.trees c.add_branch.new.self c.args.item
    c.len-id.result c.args.place asked c.self.view_is
    (c.push_reserved.ensures.items ∙ ap (λ records. records ++ c.args.item ∷ []) c.reserve.ensures.items)
    (omega (arith, c.len-id.ensures, c.reserve.new.self.ok.0, ap length c.reserve.ensures.items))
    c.self.invariant c.requires.agrees leaves asked_is c.in_ok-add_branch.ensures.added
