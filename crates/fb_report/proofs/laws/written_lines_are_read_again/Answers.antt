use Rattle.fb_report.specs.Trees.{line_tree}
use Rattle.fb_report.proofs.ReadBack.{read-back}
use Rattle.fb_report.proofs.WritableLines.{line-writable}
use Rattle.fb_report.proofs.laws.written_lines_are_read_again.Goals as goal

pub returns : goal.returns
returns c line proper = read-back (line_tree line) (line-writable line proper)
