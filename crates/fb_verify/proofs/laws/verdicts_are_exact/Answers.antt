use Rattle.fb_verify.proofs.Exact.{exact}
use Rattle.fb_verify.proofs.laws.verdicts_are_exact.Goals as goal

pub returns : goal.returns
returns c = exact c.reports_are_read_one_way.ensures.one_way c.one_line_breaks_first.ensures.one c.one_line_breaks_first.ensures.valid
