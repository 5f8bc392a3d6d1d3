use Rattle.fb_valid.proofs.Forged.{forged_reports_break}
use Rattle.fb_valid.proofs.laws.forged_reports_break.Goals as goal

pub returns : goal.returns
returns c = forged_reports_break
