use Rattle.fb_report.specs.Trees.{line_tree}
use Rattle.fb_report.proofs.send_line.LineShaped.send.Goals as goal

pub returns-in-Plan : goal.returns-in-Plan
unfolding line_tree
returns-in-Plan g c = rw c.in-Plan.is c.send_plan.ensures
