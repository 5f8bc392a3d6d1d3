use Rattle.std.proofs.Common.{false, None, [], ◌∷◌}
use Rattle.fb_explore.specs.Puts.{stop_of}
use Rattle.fb_explore.specs.Turns.{plan_line_of}
use Rattle.fb_explore.proofs.Puts.{stops}
use Rattle.fb_explore.proofs.Pruned.{derived_counted, outcome_is, uses_are, told_put, known_is}
use Rattle.fb_explore.proofs.explorer.Explorer.put_pruned.Goals as goal

pub put_plan-requires-clause-counted : goal.put_plan-requires-clause-counted
put_plan-requires-clause-counted g c =
    let explorer = c.args.self.now in
    derived_counted explorer.program.now.tree explorer.test.now.tree explorer.fuel c.args.known.now.store c.args.pending.now.plan c.args.derived c.requires.derived c.outcomes_are_counted.ensures

pub returns-in_err-put_plan-clause-put : goal.returns-in_err-put_plan-clause-put
returns-in_err-put_plan-clause-put g c progress went told done stands =
    let explorer = c.args.self.now in
    let known = c.args.known.now in
    let derived = c.args.derived in
    let u = g.W.Lines.written c.args.lines.now in
    let v = g.W.Lines.written c.put_plan.new.lines in
    let f = g.W.Lines.faults c.args.lines.now in
    let h = g.W.Lines.faults c.put_plan.new.lines in
    let how = outcome_is explorer.program.now.tree explorer.test.now.tree explorer.fuel known.store c.args.pending.now.plan derived c.requires.derived went done in
    let uses = uses_are explorer.program.now.tree explorer.test.now.tree explorer.fuel known.store c.args.pending.now.plan derived c.requires.derived went done c.proper.ensures.different in
    told_put progress c.args.pending.now known went derived.outcome how explorer.program.now.tree explorer.faults.now.version told derived.uses uses stands (stop_of c.from_residual.result) u v f h
    (stops (plan_line_of explorer.faults.now.version known.tally.plans c.args.pending.now false derived.uses derived.outcome ∷ []) c.from_residual.result c.in_err-put_plan.field-0.0 u v f h c.from_residual.ensures.1 c.in_err-put_plan.ensures.put)

pub returns-clause-put : goal.returns-clause-put
returns-clause-put g c progress went told done stands =
    let explorer = c.args.self.now in
    let known = c.args.known.now in
    let derived = c.args.derived in
    let u = g.W.Lines.written c.args.lines.now in
    let v = g.W.Lines.written c.put_plan.new.lines in
    let f = g.W.Lines.faults c.args.lines.now in
    let h = g.W.Lines.faults c.put_plan.new.lines in
    let how = outcome_is explorer.program.now.tree explorer.test.now.tree explorer.fuel known.store c.args.pending.now.plan derived c.requires.derived went done in
    let uses = uses_are explorer.program.now.tree explorer.test.now.tree explorer.fuel known.store c.args.pending.now.plan derived c.requires.derived went done c.proper.ensures.different in
    told_put progress c.args.pending.now known went derived.outcome how explorer.program.now.tree explorer.faults.now.version told derived.uses uses stands None u v f h c.in_ok-put_plan.ensures.put

pub returns-clause-known : goal.returns-clause-known
returns-clause-known g c progress went done knows =
    let explorer = c.args.self.now in
    let known = c.args.known.now in
    let derived = c.args.derived in
    let how = outcome_is explorer.program.now.tree explorer.test.now.tree explorer.fuel known.store c.args.pending.now.plan derived c.requires.derived went done in
    known_is progress c.args.pending.now known went derived.outcome how c.put_plan.new.tally c.in_ok-put_plan.ensures.tally knows
