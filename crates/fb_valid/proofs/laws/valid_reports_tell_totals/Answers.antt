use Rattle.fb_valid.proofs.ValidReports.{valid_reports_tell_totals}
use Rattle.fb_valid.proofs.laws.valid_reports_tell_totals.Goals as goal

pub returns : goal.returns
returns c = valid_reports_tell_totals
