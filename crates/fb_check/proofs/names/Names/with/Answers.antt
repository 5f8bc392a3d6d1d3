use Rattle.std.proofs.Common.{◌≡◌, ◌+◌, true, is_some, length, refl, sym, ap, ◌∙◌, arith}
use Rattle.std.specs.List.{position_from}
use Rattle.std.specs.Ordering.{eq_by_cmp}
use Rattle.std.specs.BTreeMap.{get}
use Rattle.std.proofs.lemmas.Cmp.{eq_by_cmp_equiv}
use Rattle.fb_check.proofs.NameOrder.{none_from}
use Rattle.fb_check.proofs.Lookups.{places-known, places-new}
use Rattle.fb_check.proofs.names.Names.with.Goals as goal
use Rattle.fb_check.proofs.names.Names.with.Goals.{then-not-known+in_ok-insert, else-not-known}

pub invariant_of-result : goal.invariant_of-result
invariant_of-result g c =
    let cmp = g.N.Ord.cmp in
    let name = c.args.name in
    let names = c.self.inside.names.items in
    let before = get cmp c.self.inside.positions in
    let at = c.self.invariant name ∙ ap (position_from (eq_by_cmp cmp name) 1) c.self.view_is ∙ sym c.position.ensures in
    let laws = eq_by_cmp_equiv g.met.N.Ord.total in
    let alike : (k : _) → eq_by_cmp cmp k name ≡ true → before k ≡ before name =
    λ k is. c.self.invariant k ∙ (λ j. position_from (λ x. laws.congr k name x is j) 1 names) ∙ sym (c.self.invariant name) in
    rw c.in_ok-push.ensures.items (elim c.if-not-known.branch [
      | then-not-known+in_ok-insert w ↦ (
          let counted : w.len.result ≡ 1 + length names = omega (arith, w.len.ensures, c.in_ok-push.ensures.len, c.self.inside.names.ok.0) in
          let none = none_from c.position.result w.if-not-known.ensures in
          rw w.positions-is (places-new (eq_by_cmp cmp) 1 before (get cmp w.insert.new.self) names name name c.self.invariant (at ∙ none) alike
          (λ k. w.in_ok-insert.ensures.updates.0 k ∙ rw (laws.symm name k, counted) refl)))
      | else-not-known w ↦ rw w.positions-is (places-known (eq_by_cmp cmp) 1 before names name name c.self.invariant (ap is_some at ∙ sym w.if-not-known.ensures) alike)
    ])
