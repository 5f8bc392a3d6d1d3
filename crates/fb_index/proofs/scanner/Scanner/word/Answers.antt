use Rattle.fb_index.proofs.Words.{word-missed, word-read}
use Rattle.fb_index.proofs.scanner.Scanner.word.Goals as goal

pub returns-then-not-take : goal.returns-then-not-take
returns-then-not-take c =
    word-missed c.args.word.now c.loop-rest.rest.now c.loop-rest.self c.take.new.self _ c.in-len1-up.len_at_least c.if-not-take.ensures
    c.loop-rest.invariant

pub returns : goal.returns
returns c = word-read c.args.word.now c.loop-rest.rest.now c.loop-rest.self _ c.in_default.len_below c.loop-rest.invariant
