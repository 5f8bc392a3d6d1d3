use Rattle.fb_tally.proofs.Pushes.{end_push}
use Rattle.fb_tally.proofs.laws.end_lines_own_nothing.Goals as goal

pub returns : goal.returns
returns c = λ lines line owners ends are. end_push lines owners are line ends
