use Rattle.std.proofs.Common.{ℕ, ◌+◌, ◌≤◌, length, arith, ◌≡◌, subst}
use Rattle.fb_verify.proofs.Lines.{not_ticked, ticked, taken, broken}
use Rattle.fb_verify.specs.Taking.{ended, IsJudged}
use Rattle.fb_verify.proofs.reading.Reading.take_line.Goals as goal

pub returns-in_err-number-clause-ticks : goal.returns-in_err-number-clause-ticks
returns-in_err-number-clause-ticks g c = λ services test choices bytes lines has free.
    not_ticked bytes lines c.args.self.now.tail.items (ended c.args.text.now) c.args.evals.now c.args.evals.now has.read (omega arith)

pub returns-in_err-broken-clause-ticks : goal.returns-in_err-broken-clause-ticks
returns-in_err-broken-clause-ticks g c = λ services test choices bytes lines has free.
    ticked bytes lines c.args.self.now.tail.items c.args.text.now has.read has.free free c.read_whole-read.result c.args.evals.now c.judge.new.evals
    c.read_whole-read.ensures.answer c.judge.ensures.ticks

pub returns-in-None-clause-ticks : goal.returns-in-None-clause-ticks
returns-in-None-clause-ticks g c = λ services test choices bytes lines has free.
    ticked bytes lines c.args.self.now.tail.items c.args.text.now has.read has.free free c.read_whole-read.result c.args.evals.now c.judge.new.evals
    c.read_whole-read.ensures.answer c.judge.ensures.ticks

pub returns-in-Some-clause-ticks : goal.returns-in-Some-clause-ticks
returns-in-Some-clause-ticks g c = λ services test choices bytes lines has free.
    ticked bytes lines c.args.self.now.tail.items c.args.text.now has.read has.free free c.read_whole-read.result c.args.evals.now c.judge.new.evals
    c.read_whole-read.ensures.answer c.judge.ensures.ticks

pub returns-in-None-clause-taken : goal.returns-in-None-clause-taken
returns-in-None-clause-taken g c = λ services test choices bytes lines has free.
    let counted = has.counted in
    let count : c.in_ok-number.number ≡ length lines + 1 = grind arith in
    taken bytes lines c.args.self.now.tail.items c.args.text.now has.read has.free free services test choices c.read_whole-read.result
    (record { alloc = c.args.self.now.alloc; audit = c.judge.new.audit; count = c.in_ok-number.number; tail = c.read_whole-read.new.kept })
    c.args.evals.now c.judge.new.evals c.read_whole-read.ensures.answer c.judge.ensures.ticks
    (subst (λ broken. IsJudged services test choices lines c.read_whole-read.result broken c.judge.new.audit) c.in-None.is
    (c.in_ok-broken.ensures.judged services test choices lines has.taken)) c.read_whole-read.ensures.none count

pub returns-in-Some-clause-taken : goal.returns-in-Some-clause-taken
returns-in-Some-clause-taken g c = λ services test choices bytes lines has free.
    let counted = has.counted in
    let count : c.in_ok-number.number ≡ 1 + length lines = grind arith in
    broken bytes lines c.args.self.now.tail.items c.args.text.now has.read has.free free services test choices c.args.self.now.audit has.taken
    c.read_whole-read.result c.in-Some.rule c.judge.new.audit c.in_ok-number.number c.read_whole-read.ensures.answer
    (subst (λ broken. IsJudged services test choices lines c.read_whole-read.result broken c.judge.new.audit) c.in-Some.is
    (c.in_ok-broken.ensures.judged services test choices lines has.taken)) count
