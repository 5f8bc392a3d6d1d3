use Rattle.fb_reading.proofs.Numerals.{no-ending}
use Rattle.fb_reading.proofs.texts.ending.Goals as goal

pub returns-in_default : goal.returns-in_default
returns-in_default c = no-ending c.args.word.now c.args.rest.now c.requires c.in_default.not-assert_failed c.in_default.not-call_failed c.in_default.not-fault
