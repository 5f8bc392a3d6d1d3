use Rattle.std.proofs.Common.{◌≡◌, ◌<◌, ◌≤◌, Some, Err, length, ap, ◌∙◌, subst, arith}
use Rattle.fb_campaign.specs.Campaign.{GoesOn, run}
use Rattle.fb_campaign.specs.Runs.{Went}
use Rattle.fb_functest.specs.Running.{GivesRun, IsRan}
use Rattle.fb_functest.specs.Runs.{runs_of, went_if_done, went_of}
use Rattle.fb_meaning.specs.Evaluations.{Spent}
use Rattle.fb_meaning.specs.Runs.{run_of}
use Rattle.fb_tree.specs.Views.{view_run}
use Rattle.fb_explore.specs.Ends.{end_of, uses_in}
use Rattle.fb_explore.specs.Turns.{GoesOnWith, IsTurn, StandsBefore, added_by, added_if_run, settings_by, turn_by}
use Rattle.fb_explore.proofs.Puts.{exits}
use Rattle.fb_explore.proofs.RanLines.{uses_of_run}
use Rattle.fb_explore.proofs.Turning.{out_of_budget, in_budget, spent_stops, ran_goes_on, run_adds, run_lines_are, budget_turn, fuel_turn, goes_on_with, on_turn, on_error}
use Rattle.fb_explore.proofs.explorer.Explorer.run.Goals as goal

pub returns-then-self-run-clause-turn : goal.returns-then-self-run-clause-turn
returns-then-self-run-clause-turn g c progress told same stands =
    let explorer = c.args.self.now in
    let u = g.W.Lines.written c.args.lines.now in
    let f = g.W.Lines.faults c.args.lines.now in
    let v = g.W.Lines.written c.stop_for_budget.new.lines in
    let h = g.W.Lines.faults c.stop_for_budget.new.lines in
    let plan = c.args.pending.now.plan in
    let known = c.args.known.now in
    let all : explorer.budget ≤ known.tally.run = (let least = c.if-self-run.true in let is = c.run.ensures.run in omega (arith, least, is)) in
    budget_turn (GoesOnWith explorer progress plan known) explorer progress plan told known stands.knows stands.told u v f h c.args.evals.now c.args.evals.now
    (same ∙ out_of_budget explorer progress plan known stands.knows all) c.stop_for_budget.result (omega arith) c.stop_for_budget.ensures.put c.stop_for_budget.ensures.stops

pub returns-in_err-calls-in-Ok-clause-turn : goal.returns-in_err-calls-in-Ok-clause-turn
returns-in_err-calls-in-Ok-clause-turn g c progress told same stands =
    let explorer = c.args.self.now in
    let u = g.W.Lines.written c.args.lines.now in
    let f = g.W.Lines.faults c.args.lines.now in
    let v = g.W.Lines.written c.put_ran.new.lines in
    let h = g.W.Lines.faults c.put_ran.new.lines in
    let plan = c.args.pending.now.plan in
    let known = c.args.known.now in
    let run_is = c.in-Ok.ran.tree in
    let went : Went = went_of (view_run c.in-Ok.ran.tree) in
    let some : known.tally.run < explorer.budget = (let more = c.if-self-run.false in let is = c.run.ensures.run in omega (arith, more, is)) in
    let is_ran : IsRan (run_of explorer.program.now.tree explorer.test.now.tree explorer.fuel plan) c.in-Ok.ran = c.in-Ok.ensures.run in
    let done : runs_of explorer.program.now.tree explorer.test.now.tree explorer.fuel plan ≡ Some went = ap went_if_done is_ran.done in
    let next = run (settings_by explorer) progress plan went in
    let turn : turn_by explorer progress plan ≡ GoesOn next = same ∙ ran_goes_on explorer progress plan (in_budget explorer progress plan known stands.knows some) went done in
    let more = added_if_run progress plan went in
    let uses : uses_in more ≡ length went.records = uses_of_run progress plan went in
    let ticks = c.in-Ok.ensures.ticks in
    let most = c.in-Ok.ensures.most in
    let here : StandsBefore explorer.program.now.tree explorer.faults.now.version progress c.args.pending.now known more told =
    subst (λ lines. StandsBefore explorer.program.now.tree explorer.faults.now.version progress c.args.pending.now known lines told)
    (ap (added_by progress) turn ∙ run_adds (settings_by explorer) progress plan went) stands in
    let error = c.in_err-calls-in-Ok.field-0.0 in
    exits (λ r. IsTurn (GoesOnWith explorer progress plan c.put_ran.new.known) explorer progress plan told r u f v h c.args.evals.now c.run_plan.new.evals) c.from_residual.result (end_of error) c.from_residual.ensures.1
    (on_error explorer progress plan went done next turn more (run_lines_are (settings_by explorer) progress plan went) told u v f h c.args.evals.now c.run_plan.new.evals
    (GoesOnWith explorer progress plan c.put_ran.new.known) (omega (arith, ticks, uses)) (omega (arith, most)) error (c.in_err-calls-in-Ok.ensures.put progress told here))

pub returns-in_ok-calls-in-Ok-clause-turn : goal.returns-in_ok-calls-in-Ok-clause-turn
returns-in_ok-calls-in-Ok-clause-turn g c progress told same stands =
    let explorer = c.args.self.now in
    let u = g.W.Lines.written c.args.lines.now in
    let f = g.W.Lines.faults c.args.lines.now in
    let v = g.W.Lines.written c.put_ran.new.lines in
    let h = g.W.Lines.faults c.put_ran.new.lines in
    let plan = c.args.pending.now.plan in
    let known = c.args.known.now in
    let went : Went = went_of (view_run c.in-Ok.ran.tree) in
    let some : known.tally.run < explorer.budget = (let more = c.if-self-run.false in let is = c.run.ensures.run in omega (arith, more, is)) in
    let is_ran : IsRan (run_of explorer.program.now.tree explorer.test.now.tree explorer.fuel plan) c.in-Ok.ran = c.in-Ok.ensures.run in
    let done : runs_of explorer.program.now.tree explorer.test.now.tree explorer.fuel plan ≡ Some went = ap went_if_done is_ran.done in
    let next = run (settings_by explorer) progress plan went in
    let turn : turn_by explorer progress plan ≡ GoesOn next = same ∙ ran_goes_on explorer progress plan (in_budget explorer progress plan known stands.knows some) went done in
    let more = added_if_run progress plan went in
    let uses : uses_in more ≡ length went.records = uses_of_run progress plan went in
    let ticks = c.in-Ok.ensures.ticks in
    let most = c.in-Ok.ensures.most in
    let here : StandsBefore explorer.program.now.tree explorer.faults.now.version progress c.args.pending.now known more told =
    subst (λ lines. StandsBefore explorer.program.now.tree explorer.faults.now.version progress c.args.pending.now known lines told)
    (ap (added_by progress) turn ∙ run_adds (settings_by explorer) progress plan went) stands in
    on_turn explorer progress plan went done next turn more (run_lines_are (settings_by explorer) progress plan went) told u v f h c.args.evals.now c.run_plan.new.evals
    (GoesOnWith explorer progress plan c.put_ran.new.known) (omega (arith, ticks, uses)) (omega (arith, most)) c.in_ok-calls-in-Ok.calls
    (goes_on_with explorer progress plan went done next turn more (run_lines_are (settings_by explorer) progress plan went) told u v f h c.args.evals.now c.run_plan.new.evals
    c.put_ran.new.known c.in_ok-calls-in-Ok.calls (c.in_ok-calls-in-Ok.ensures.known progress stands.knows) c.in_ok-calls-in-Ok.ensures.calls)
    (c.in_ok-calls-in-Ok.ensures.put progress told here)

pub returns-in_ok-calls-in-Ok-clause-calls : goal.returns-in_ok-calls-in-Ok-clause-calls
returns-in_ok-calls-in-Ok-clause-calls g c =
    let explorer = c.args.self.now in
    let u = g.W.Lines.written c.args.lines.now in
    let f = g.W.Lines.faults c.args.lines.now in
    let v = g.W.Lines.written c.put_ran.new.lines in
    let h = g.W.Lines.faults c.put_ran.new.lines in
    let plan = c.args.pending.now.plan in
    let is_ran : IsRan (run_of explorer.program.now.tree explorer.test.now.tree explorer.fuel plan) c.in-Ok.ran = c.in-Ok.ensures.run in
    record { went = went_of (view_run c.in-Ok.ran.tree); done = ap went_if_done is_ran.done; calls_are = c.in_ok-calls-in-Ok.ensures.calls }

pub returns-in-Err-Spent-clause-turn : goal.returns-in-Err-Spent-clause-turn
returns-in-Err-Spent-clause-turn g c progress told same stands =
    let explorer = c.args.self.now in
    let u = g.W.Lines.written c.args.lines.now in
    let f = g.W.Lines.faults c.args.lines.now in
    let v = g.W.Lines.written c.stop_for_fuel.new.lines in
    let h = g.W.Lines.faults c.stop_for_fuel.new.lines in
    let plan = c.args.pending.now.plan in
    let known = c.args.known.now in
    let some : known.tally.run < explorer.budget = (let more = c.if-self-run.false in let is = c.run.ensures.run in omega (arith, more, is)) in
    let spent : run_of explorer.program.now.tree explorer.test.now.tree explorer.fuel plan ≡ Spent =
    subst (λ why. GivesRun (run_of explorer.program.now.tree explorer.test.now.tree explorer.fuel plan) (Err why)) c.in-Err-Spent.field-0-is c.in-Err-Spent.ensures.run in
    let most = c.run_plan.ensures.most in
    fuel_turn (GoesOnWith explorer progress plan known) explorer progress plan told known stands.knows stands.told u v f h c.args.evals.now c.run_plan.new.evals
    (same ∙ spent_stops explorer progress plan (in_budget explorer progress plan known stands.knows some) spent) c.stop_for_fuel.result (omega (arith, most)) c.stop_for_fuel.ensures.put c.stop_for_fuel.ensures.stops
