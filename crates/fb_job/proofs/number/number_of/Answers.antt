use Rattle.std.proofs.Common.{◌∙◌, sym, arith}
use Rattle.fb_job.proofs.Numbers.{number_of-plus, number_of-read}
use Rattle.fb_job.proofs.number.number_of.Goals as goal

pub returns-then-has_plus-clause-given : goal.returns-then-has_plus-clause-given
returns-then-has_plus-clause-given c = sym (number_of-plus c.args.least c.args.most c.args.text.now (sym c.if-has_plus.ensures))

pub returns-clause-given : goal.returns-clause-given
returns-clause-given c =
    c.number_read-number.ensures.given
    ∙ number_of-read c.args.least c.args.most (omega (arith, c.ranges.most)) c.args.text.now c.parse-number.result c.parse-number.ensures.value.0 (sym c.if-has_plus.ensures)
