use Rattle.std.proofs.Common.{◌≡◌, refl}
use Rattle.fb_valid.specs.Rules.{UsesEarlier}
use Rattle.fb_audit.specs.Judged.{basis_of, plan_told}
use Rattle.fb_audit.proofs.Taking.{it_holds, it_fails, later_uses, other_end, plan_taken}
use Rattle.fb_audit.proofs.judge.Judge.take_tree.Goals as goal

pub returns-then-not-uses_earlier : goal.returns-then-not-uses_earlier
returns-then-not-uses_earlier c =
    λ version above line next.
    later_uses (basis_of c.args.self.now) version c.args.fuel above c.args.at c.args.known.now line c.args.told.now c.args.plan c.args.spelled.now next
    (it_fails (UsesEarlier above (plan_told c.args.told.now)) c.uses_earlier.result c.if-not-uses_earlier.true
    (c.uses_earlier.ensures above (plan_told c.args.told.now) next.child_comes.plan_comes.comes.kept.owners refl refl))

pub returns-then-not-is_same : goal.returns-then-not-is_same
returns-then-not-is_same c =
    λ version above line next.
    other_end (basis_of c.args.self.now) version c.args.fuel above c.args.at c.args.known.now line c.args.told.now c.args.plan c.args.spelled.now next
    (it_holds (UsesEarlier above (plan_told c.args.told.now)) c.uses_earlier.result c.if-not-uses_earlier.false
    (c.uses_earlier.ensures above (plan_told c.args.told.now) next.child_comes.plan_comes.comes.kept.owners refl refl))
    (it_fails (c.args.told.now.outcome.now ≡ c.args.spelled.now.outcome) c.is_same.result c.if-not-is_same.true c.is_same.ensures)

pub returns : goal.returns
returns c =
    λ version above line next.
    plan_taken (basis_of c.args.self.now) version c.args.fuel above c.args.at c.args.known.now line c.args.told.now c.args.plan c.args.spelled.now next c.requires.proved
    (it_holds (UsesEarlier above (plan_told c.args.told.now)) c.uses_earlier.result c.if-not-uses_earlier.false
    (c.uses_earlier.ensures above (plan_told c.args.told.now) next.child_comes.plan_comes.comes.kept.owners refl refl))
    (it_holds (c.args.told.now.outcome.now ≡ c.args.spelled.now.outcome) c.is_same.result c.if-not-is_same.false c.is_same.ensures)
    c.add_plan.new.self c.add.new.self c.as_slice.result.now c.in_ok-add_plan.ensures c.as_slice.ensures c.in_ok-add.ensures.book c.in_ok-add.ensures.known
