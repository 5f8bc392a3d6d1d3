use Rattle.std.proofs.Common.{subst}
use Rattle.std.specs.Prelude.{IsNone}
use Rattle.fb_check.specs.FirstRefusal.{first_refusal_of_test}
use Rattle.fb_explore.specs.Ends.{end_of}
use Rattle.fb_explore.specs.Explored.{IsExplored, settings_of}
use Rattle.fb_explore.proofs.Finishing.{lines_there, all_explored, all_cause, all_count, none_explored}
use Rattle.fb_explore.proofs.Puts.{exits}
use Rattle.fb_explore.proofs.exploring.explore.Goals as goal

pub returns-in_err-put_line-clause-report : goal.returns-in_err-put_line-clause-report
returns-in_err-put_line-clause-report g c =
    let services = c.args.program.now.tree in
    let test = c.args.test.now.tree in
    let faults = c.args.faults.now in
    let settings = settings_of c.args.fuel c.args.budget c.args.reduction in
    let u = g.W.Lines.written c.args.lines.now in
    let v = g.W.Lines.written c.put_line.new.lines in
    let f = g.W.Lines.faults c.args.lines.now in
    let h = g.W.Lines.faults c.put_line.new.lines in
    let accepted_test : IsNone (first_refusal_of_test services test) = subst (λ tree. IsNone (first_refusal_of_test tree test)) c.requires.made c.args.test.now.accepted in
    let there = lines_there c.campaigns_have_lines.ensures.there services test c.args.program.now.accepted accepted_test faults settings in
    exits (λ r. IsExplored services test faults settings r u v) c.from_residual.result (end_of c.in_err-put_line.field-0.0) c.from_residual.ensures.1
    (none_explored services test faults settings c.version.result c.version.ensures u v v f h h there.0 there.1 c.in_err-put_line.field-0.0 c.in_err-put_line.ensures.put)

pub returns-clause-report : goal.returns-clause-report
returns-clause-report g c =
    let below = c.explore_below.ensures.below in
    all_explored c.args.program.now.tree c.args.test.now.tree c.args.faults.now (settings_of c.args.fuel c.args.budget c.args.reduction) c.version.result c.version.ensures
    (g.W.Lines.written c.args.lines.now) (g.W.Lines.written c.put_line.new.lines) (g.W.Lines.written c.explore_below.new.lines)
    (g.W.Lines.faults c.args.lines.now) (g.W.Lines.faults c.put_line.new.lines) (g.W.Lines.faults c.explore_below.new.lines)
    c.explore_below.result c.in_ok-put_line.ensures.put below.lines below.told below.put below.answer

pub returns-clause-cause : goal.returns-clause-cause
returns-clause-cause g c =
    let below = c.explore_below.ensures.below in
    all_cause c.args.program.now.tree c.args.test.now.tree c.args.faults.now (settings_of c.args.fuel c.args.budget c.args.reduction) c.version.result c.version.ensures
    (g.W.Lines.written c.args.lines.now) (g.W.Lines.written c.put_line.new.lines) (g.W.Lines.written c.explore_below.new.lines)
    (g.W.Lines.faults c.args.lines.now) (g.W.Lines.faults c.put_line.new.lines) (g.W.Lines.faults c.explore_below.new.lines)
    c.explore_below.result c.in_ok-put_line.ensures.put below.lines below.told below.put

pub returns-clause-count : goal.returns-clause-count
returns-clause-count g c =
    let below = c.explore_below.ensures.below in
    all_count c.args.program.now.tree c.args.test.now.tree c.args.faults.now (settings_of c.args.fuel c.args.budget c.args.reduction) c.version.result c.version.ensures
    (g.W.Lines.written c.args.lines.now) (g.W.Lines.written c.put_line.new.lines) (g.W.Lines.written c.explore_below.new.lines)
    (g.W.Lines.faults c.args.lines.now) (g.W.Lines.faults c.put_line.new.lines) (g.W.Lines.faults c.explore_below.new.lines)
    c.explore_below.result c.in_ok-put_line.ensures.put below.lines below.told below.put
