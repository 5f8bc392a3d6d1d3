use Rattle.std.proofs.Common.{[], ◌∷◌, ◌++◌, refl, sym, ap, subst}
use Rattle.fb_audit.specs.Judged.{basis_of}
use Rattle.fb_audit.specs.Kept.{Basis}
use Rattle.fb_audit.specs.Taken.{Audited, IsTakenOfSome}
use Rattle.fb_audit.specs.declared.taken.Taken.TheVariants.{Lines}
use Rattle.fb_audit.proofs.Going.{proved, room, gone_on, broken_by}
use Rattle.fb_audit.proofs.audit.Audit.go_on.Goals as goal

pub take_below-requires-clause-proved : goal.take_below-requires-clause-proved
take_below-requires-clause-proved g c =
    let same = ap (λ (a : Audited). a.basis) c.self.view_is in
    proved (basis_of c.self.inside.judge) c.args.below (subst (λ (k : Basis). IsTakenOfSome k (Lines c.args.below)) (sym same) c.requires)

pub take_below-requires-clause-room : goal.take_below-requires-clause-room
take_below-requires-clause-room g c = room c.args.self.now.basis c.args.below c.lines_are_more_than_tallied.ensures c.requires

pub invariant_of-self : goal.invariant_of-self
invariant_of-self g c =
    let b = basis_of c.self.inside.judge in
    let same = ap (λ (a : Audited). a.basis) c.self.view_is in
    let some = subst (λ (k : Basis). IsTakenOfSome k (Lines c.args.below)) (sym same) c.requires in
    (c.self.invariant.0, (some.0 ++ c.args.line.now ∷ [], (gone_on b b refl some.0 c.args.line.now c.args.below c.take_below.new.below c.in_ok-rule.field-0 c.in_ok-rule.ensures.judged some.1 c.in-None.is).1))

pub returns-in-Some-clause-taken : goal.returns-in-Some-clause-taken
returns-in-Some-clause-taken g c =
    λ lines taken.
    let same = ap (λ (a : Audited). a.basis) c.self.view_is in
    broken_by (basis_of c.self.inside.judge) c.args.self.now.basis same lines c.args.line.now c.args.below c.take_below.new.below c.in_ok-rule.field-0 c.in_ok-rule.ensures.judged taken c.in-Some.rule c.in-Some.is

pub returns-in-None-clause-taken : goal.returns-in-None-clause-taken
returns-in-None-clause-taken g c =
    λ lines taken.
    let same = ap (λ (a : Audited). a.basis) c.self.view_is in
    gone_on (basis_of c.self.inside.judge) c.args.self.now.basis same lines c.args.line.now c.args.below c.take_below.new.below c.in_ok-rule.field-0 c.in_ok-rule.ensures.judged taken c.in-None.is
