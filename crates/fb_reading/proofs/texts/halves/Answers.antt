use Rattle.fb_reading.proofs.Signs.{halved}
use Rattle.fb_reading.proofs.texts.halves.Goals as goal

pub returns : goal.returns
returns c = halved c.args.sign c.args.text.now c.split_once.result (c.split_once.ensures.byte c.requires (λ w o h. h))
