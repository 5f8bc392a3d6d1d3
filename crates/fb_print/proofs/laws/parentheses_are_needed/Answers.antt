use Rattle.fb_print.proofs.Parentheses.{parentheses_needed}
use Rattle.fb_print.proofs.laws.parentheses_are_needed.Goals as goal

pub returns : goal.returns
returns c = parentheses_needed
