use Rattle.fb_report.proofs.OneLine.{line-free}
use Rattle.fb_report.proofs.laws.written_lines_stay_whole.Goals as goal

pub returns : goal.returns
returns c line proper = line-free line proper
