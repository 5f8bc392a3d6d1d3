use Rattle.std.proofs.Common.{◌≤◌, ◌∷◌, [], bytes_eq, cond, length, None, sym, ap, ◌∙◌, arith}
use Rattle.std.proofs.lemmas.List.{take-append-le}
use Rattle.fb_check.proofs.NameOrder.{is_eq-names}
use Rattle.fb_check.proofs.ScopeTables.{names_pop, kind_named-popped}
use Rattle.fb_check.proofs.scope.Scope.leave.Goals as goal

pub loop-self-preserved-in-Some : goal.loop-self-preserved-in-Some
loop-self-preserved-in-Some c =
    let front = c.pop.new.self.items in
    let last = c.in-Some.last in
    let before = rw c.in-Some.ensures.items at c.loop-self.invariant in
    let differ = names_pop front last before.0 in
    let remain : c.args.len ≤ length front = omega (arith, c.len.ensures, c.loop-self-test.true, c.in-Some.ensures.len, c.pop.new.self.ok.0) in (
      differ.0,
      λ name. c.remove.ensures.updates.0 name
          ∙ rw (is_eq-names last.name name) (ap (cond (bytes_eq name last.name) None) (before.1 name))
          ∙ kind_named-popped front name last differ.1,
      sym (take-append-le c.args.len front (last ∷ []) remain) ∙ before.2,
    )
