use Rattle.fb_explore.specs.Below.{IsExploredBelow}
use Rattle.fb_explore.specs.Ends.{end_of}
use Rattle.fb_explore.proofs.Finishing.{completes, stops_last}
use Rattle.fb_explore.proofs.Puts.{exits}
use Rattle.fb_explore.proofs.exploring.explore_below.Goals as goal

pub returns-in_err-put_end-clause-below : goal.returns-in_err-put_end-clause-below
returns-in_err-put_end-clause-below g c =
    let explorer = c.args.explorer.now in
    let known = c.in_ok-known.known in
    let u = g.W.Lines.written c.args.lines.now in
    let v = g.W.Lines.written c.take_turns.new.lines in
    let w = g.W.Lines.written c.put_end.new.lines in
    let f = g.W.Lines.faults c.args.lines.now in
    let h = g.W.Lines.faults c.take_turns.new.lines in
    let k = g.W.Lines.faults c.put_end.new.lines in
    let error = c.in_err-put_end.field-0.0 in
    exits (λ r. IsExploredBelow explorer r u f w k c.args.evals.now c.take_turns.new.evals) c.from_residual-in_err-put_end.result (end_of error) c.from_residual-in_err-put_end.ensures.1
    (stops_last explorer known u v w f h k c.args.evals.now c.take_turns.new.evals c.in_ok-known.ensures.turns error c.in_err-put_end.ensures.put)

pub returns-clause-below : goal.returns-clause-below
returns-clause-below g c =
    let explorer = c.args.explorer.now in
    let known = c.in_ok-known.known in
    let u = g.W.Lines.written c.args.lines.now in
    let v = g.W.Lines.written c.take_turns.new.lines in
    let w = g.W.Lines.written c.put_end.new.lines in
    let f = g.W.Lines.faults c.args.lines.now in
    let h = g.W.Lines.faults c.take_turns.new.lines in
    let k = g.W.Lines.faults c.put_end.new.lines in
    completes explorer known u v w f h k c.args.evals.now c.take_turns.new.evals c.in_ok-known.ensures.turns c.totals.result c.totals.ensures c.in_ok-put_end.ensures.put
