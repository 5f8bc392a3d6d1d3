use Rattle.std.proofs.Common.{◌≡◌, Some, None, [], sym, subst, ◌∙◌}
use Rattle.fb_store.specs.Growth.{first_of}
use Rattle.fb_store.proofs.Growing.{no_place, place_from_first}
use Rattle.fb_store.proofs.store.Store.root.Goals as goal

pub returns-in_err-first : goal.returns-in_err-first
returns-in_err-first c =
    let method = c.args.method in
    let args = c.args.args.now in
    c.from_residual.ensures
    ∙ sym (no_place c.args.self.now method args []
    (subst (λ records. first_of records method args [] ≡ None) c.self.view_is (sym (c.self.invariant.roots method args) ∙ sym c.in_err-first.ensures)))

pub returns : goal.returns
returns c =
    let method = c.args.method in
    let args = c.args.args.now in
    let first = c.in_ok-first.first in
    sym (place_from_first c.args.self.now method args [] first
    (subst (λ records. first_of records method args [] ≡ Some first) c.self.view_is (sym (c.self.invariant.roots method args) ∙ sym c.in_ok-first.ensures)))
