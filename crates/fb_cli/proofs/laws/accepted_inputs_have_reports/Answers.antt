use Rattle.fb_cli.proofs.Accepted.{inputs-have-reports}
use Rattle.fb_cli.proofs.laws.accepted_inputs_have_reports.Goals as goal

pub returns : goal.returns
returns c = inputs-have-reports c.campaigns_have_lines.ensures.there
