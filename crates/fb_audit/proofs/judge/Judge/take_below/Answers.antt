use Rattle.std.proofs.Common.{rules}
use Rattle.fb_valid.specs.Rules.{IsInPlace}
use Rattle.fb_audit.specs.Judged.{basis_of}
use Rattle.fb_audit.proofs.Judging.{out_of_place}
use Rattle.fb_audit.proofs.Taking.{it_holds, it_fails}
use Rattle.fb_audit.proofs.Going.{comes_next, next_broken, next_taken}
use Rattle.fb_audit.proofs.judge.Judge.take_below.Goals as goal

pub returns-then-not-has_place-clause-judged : goal.returns-then-not-has_place-clause-judged
returns-then-not-has_place-clause-judged g c =
    λ version fuel reduction above is_below.
    out_of_place (basis_of c.args.self.now) version fuel above c.args.line.now
    (it_fails (IsInPlace version above c.args.line.now) c.has_place.result c.if-not-has_place.true
    (c.has_place.ensures version above is_below.counted.tally))

pub returns-in-Some-clause-judged : goal.returns-in-Some-clause-judged
returns-in-Some-clause-judged g c =
    λ version fuel reduction above is_below.
    let basis = basis_of c.args.self.now in
    let in_place = it_holds (IsInPlace version above c.args.line.now) c.has_place.result c.if-not-has_place.false
    (c.has_place.ensures version above is_below.counted.tally) in
    next_broken basis version fuel reduction above c.args.line.now c.args.below.now is_below c.take.new.known c.args.below.now c.in_ok-rule.field-0 c.in-Some.rule c.in-Some.is
    (c.in_ok-rule.ensures.judged version above (comes_next basis version fuel reduction above c.args.line.now c.args.below.now is_below c.len-at.result in_place (search rules)))

pub returns-in_ok-count-in-None-clause-judged : goal.returns-in_ok-count-in-None-clause-judged
returns-in_ok-count-in-None-clause-judged g c =
    λ version fuel reduction above is_below.
    let basis = basis_of c.args.self.now in
    let in_place = it_holds (IsInPlace version above c.args.line.now) c.has_place.result c.if-not-has_place.false
    (c.has_place.ensures version above is_below.counted.tally) in
    next_taken basis version fuel reduction above c.args.line.now c.args.below.now is_below c.take.new.known c.count.new.self c.in_ok-rule.field-0 c.in-None.is
    (c.in_ok-rule.ensures.judged version above (comes_next basis version fuel reduction above c.args.line.now c.args.below.now is_below c.len-at.result in_place (search rules)))
    (c.in_ok-count-in-None.ensures.counted version above (record { tally = is_below.counted.tally; count = is_below.counted.count }))
    c.in_ok-count-in-None.ensures.known c.in_ok-count-in-None.ensures.fuel c.in_ok-count-in-None.ensures.reduction
