-- What the run of a plan answers.
use Rattle.std.specs.Prelude.{◌≡◌, ℕ, Result, Ok, Err}
use Rattle.fb_tree.specs.Calls.{injections_of}
use Rattle.fb_tree.specs.Runs.{TestRun}
use Rattle.fb_tree.specs.Views.{view_run}
use Rattle.fb_meaning.specs.Evaluations.{Evaluation, Spent, Done}
use Rattle.fb_eval.specs.declared.stop.Stop.{Stop}
use Rattle.fb_eval.specs.declared.stop.Stop.TheVariants as stop
use Rattle.fb_functest.specs.declared.run.Ran.{Ran}
use Rattle.fb_functest.specs.declared.run.RunStop.{RunStop}
use Rattle.fb_functest.specs.declared.run.RunStop.TheVariants as run

-- the evaluation is done with this run, which ended so and injected these faults
pub record IsRan (means : Evaluation TestRun ℕ) (ran : Ran) : Type 0 where
  pub left : ℕ
  pub done : means ≡ Done (view_run ran.tree) left
  pub outcome : ran.outcome ≡ ran.tree.outcome
  pub injected : ran.injected ≡ injections_of (view_run ran.tree)

-- the run, or Spent exactly where its evaluation is; want of memory says nothing
abbrev pub GivesRun : Evaluation TestRun ℕ → Result Ran RunStop → Type 0
GivesRun means (Ok ran) = IsRan means ran
GivesRun means (Err run.Spent) = means ≡ Spent
GivesRun means (Err run.Memory) = Unit {0}

-- the stop of a run that misses no answer
abbrev pub stop_of : Stop → RunStop
stop_of stop.Spent = run.Spent
stop_of stop.Missing = run.Memory
stop_of stop.Memory = run.Memory
