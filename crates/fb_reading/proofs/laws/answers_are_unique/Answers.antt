use Rattle.fb_reading.proofs.OneAnswer.{one-answer}
use Rattle.fb_reading.proofs.laws.answers_are_unique.Goals as goal

pub returns : goal.returns
returns c bytes a b p q = one-answer c.index_of_text.ensures c.plan_of_text.ensures bytes a b p q
