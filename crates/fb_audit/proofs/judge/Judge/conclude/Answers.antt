use Rattle.std.proofs.Common.{rules, sym, ◌∙◌, subst, arith}
use Rattle.fb_valid.specs.Rules.{HasOwner}
use Rattle.fb_valid.specs.Valid.{IsEnded}
use Rattle.fb_tally.specs.Firsts.{FirstBreakAt}
use Rattle.fb_audit.specs.Concluded.{Concludes, FirstIdleAt}
use Rattle.fb_audit.specs.Judged.{basis_of}
use Rattle.fb_audit.specs.Kept.{choices_of}
use Rattle.fb_audit.proofs.Taking.{it_holds, it_fails}
use Rattle.fb_audit.proofs.Concluding.{ended_told, breaks_V1, breaks_V6, breaks_V7, breaks_V8, concludes, missing_within}
use Rattle.fb_audit.proofs.judge.Judge.conclude.Goals as goal

pub returns-then-not-has_ended : goal.returns-then-not-has_ended
returns-then-not-has_ended c =
    λ lines taken.
    let basis = basis_of c.args.self.now in
    let below = c.args.below.now in
    subst (Concludes basis.services basis.test (choices_of basis) lines) (sym c.broken.ensures) (breaks_V1 basis lines below taken c.len-count.result (search rules)
    (it_fails (IsEnded (taken.holds).above) below.tally.ended (sym c.has_ended.ensures ∙ c.if-not-has_ended.true) (ended_told basis lines below taken c.ends_are_tallied.ensures)))

pub returns-in-Some : goal.returns-in-Some
returns-in-Some c =
    λ lines taken.
    let basis = basis_of c.args.self.now in
    let below = c.args.below.now in
    let ended = it_holds (IsEnded (taken.holds).above) below.tally.ended (sym c.has_ended.ensures ∙ c.if-not-has_ended.false) (ended_told basis lines below taken c.ends_are_tallied.ensures) in
    subst (Concludes basis.services basis.test (choices_of basis) lines) (sym c.broken-in-Some.ensures) (breaks_V7 basis lines below taken ended c.first_not_owned.result c.in-Some.at c.in-Some.is
    (c.first_not_owned.ensures (taken.holds).above (taken.holds).is_below.known.owners))

pub returns-in-Some-2 : goal.returns-in-Some-2
returns-in-Some-2 c =
    λ lines taken.
    let basis = basis_of c.args.self.now in
    let below = c.args.below.now in
    let above = (taken.holds).above in
    let owners = (taken.holds).is_below.known.owners in
    let ended = it_holds (IsEnded above) below.tally.ended (sym c.has_ended.ensures ∙ c.if-not-has_ended.false) (ended_told basis lines below taken c.ends_are_tallied.ensures) in
    let owned = subst (FirstBreakAt (HasOwner above) above) c.in_default.is (c.first_not_owned.ensures above owners) in
    subst (Concludes basis.services basis.test (choices_of basis) lines) (sym c.broken-in-Some-2.ensures) (breaks_V8 basis lines below taken ended owned c.in_ok-at.field-0 c.in-Some-2.at c.in-Some-2.is
    (c.in_ok-at.ensures above owners))

pub broken-requires-in-Some-3 : goal.broken-requires-in-Some-3
broken-requires-in-Some-3 c =
    let below = c.args.below.now in
    let within = missing_within (basis_of c.args.self.now) c.requires.0 below c.requires.1 c.in_ok-missing.field-0 c.in-Some-3.missing c.in-Some-3.is c.in_ok-missing.ensures in
    let long = below.lines.ok.0 in
    let few = below.lines.ok.1 in
    let small = below.lines.small in
    omega (arith, within, long, few, small)

pub returns-in-Some-3 : goal.returns-in-Some-3
returns-in-Some-3 c =
    λ lines taken.
    let basis = basis_of c.args.self.now in
    let below = c.args.below.now in
    let above = (taken.holds).above in
    let owners = (taken.holds).is_below.known.owners in
    let ended = it_holds (IsEnded above) below.tally.ended (sym c.has_ended.ensures ∙ c.if-not-has_ended.false) (ended_told basis lines below taken c.ends_are_tallied.ensures) in
    let owned = subst (FirstBreakAt (HasOwner above) above) c.in_default.is (c.first_not_owned.ensures above owners) in
    let idle = subst (FirstIdleAt below.reduction above) c.in_default-2.is (c.in_ok-at.ensures above owners) in
    subst (Concludes basis.services basis.test (choices_of basis) lines) (sym c.broken-in-Some-3.ensures) (breaks_V6 basis lines below taken ended owned idle c.in_ok-missing.field-0 c.in-Some-3.missing c.in-Some-3.is
    c.in_ok-missing.ensures)

pub returns-in-None : goal.returns-in-None
returns-in-None c =
    λ lines taken.
    let basis = basis_of c.args.self.now in
    let below = c.args.below.now in
    let above = (taken.holds).above in
    let owners = (taken.holds).is_below.known.owners in
    let ended = it_holds (IsEnded above) below.tally.ended (sym c.has_ended.ensures ∙ c.if-not-has_ended.false) (ended_told basis lines below taken c.ends_are_tallied.ensures) in
    let owned = subst (FirstBreakAt (HasOwner above) above) c.in_default.is (c.first_not_owned.ensures above owners) in
    let idle = subst (FirstIdleAt below.reduction above) c.in_default-2.is (c.in_ok-at.ensures above owners) in
    concludes basis lines below taken ended owned idle c.in_ok-missing.field-0 c.in-None.is c.in_ok-missing.ensures c.totals.result
    c.totals.ensures.plans c.totals.ensures.run c.totals.ensures.pruned c.totals.ensures.failed c.totals.ensures.records
