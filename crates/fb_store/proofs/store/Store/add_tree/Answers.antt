use Rattle.std.proofs.Common.{length, arith, ◌++◌, ◌∷◌, [], sym, ap, subst, ◌∙◌}
use Rattle.fb_store.specs.Growth.{AreGrown}
use Rattle.fb_store.proofs.Growing.{grown_alike}
use Rattle.fb_store.proofs.OneMore.{grown_with_root}
use Rattle.fb_store.proofs.store.Store.add_tree.Goals as goal

pub invariant_of-self-in_err-add_root : goal.invariant_of-self-in_err-add_root
invariant_of-self-in_err-add_root c =
    subst (λ records. AreGrown records c.add_root.new.self) (sym c.reserve.ensures.items)
    (grown_alike c.self.inside.records.items c.self.inside.trees c.add_root.new.self c.self.invariant c.in_err-add_root.ensures.err)

pub invariant_of-self-2 : goal.invariant_of-self-2
invariant_of-self-2 c =
    grown_with_root c.self.inside.records.items c.args.self.now c.push_reserved.new.self.items c.self.inside.trees c.add_root.new.self c.args.item c.len-id.result
    c.self.view_is (c.push_reserved.ensures.items ∙ ap (λ records. records ++ c.args.item ∷ []) c.reserve.ensures.items)
    (omega (arith, c.len-id.ensures, c.reserve.new.self.ok.0, ap length c.reserve.ensures.items))
    c.self.invariant c.requires.agrees c.requires.ending c.in_ok-add_root.ensures.added
