use Rattle.fb_audit.proofs.Validity.{concluded_valid}
use Rattle.fb_audit.proofs.laws.concluded_lines_are_valid.Goals as goal

pub returns : goal.returns
returns c = concluded_valid
