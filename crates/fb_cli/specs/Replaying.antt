-- How the replay of a plan ends.
use Rattle.std.specs.Prelude.{◌≡◌, ℕ, Bool, true, false, List, Option, IfSome, Result, Ok, Err}
use Rattle.fb_files.specs.Files.{Held}
use Rattle.fb_index.specs.declared.fault.Fault.{Fault}
use Rattle.fb_tree.specs.Calls.{injections_of}
use Rattle.fb_tree.specs.Runs.{TestRun}
use Rattle.fb_tree.specs.declared.outcome.Outcome.{Outcome}
use Rattle.fb_tree.specs.declared.outcome.Outcome.TheVariants.{Passed, AssertFailed, CallFailed, Fault as ended_by_fault}
use Rattle.fb_meaning.specs.Evaluations.{Evaluation, Spent, Done}
use Rattle.fb_meaning.specs.Runs.{run_of}
use Rattle.fb_replay.specs.declared.replaying.Replayed.{Replayed}
use Rattle.fb_replay.specs.declared.replaying.ReplayError.{ReplayError}
use Rattle.fb_replay.specs.declared.replaying.ReplayError.TheVariants as error
use Rattle.fb_replay.specs.Replays.{IsNotMet}
use Rattle.fb_replay.specs.ReplayText.{replay_text}
use Rattle.fb_job.specs.declared.job.ReplayJob.{ReplayJob}
use Rattle.fb_cli.specs.declared.status.Role.TheVariants as role
use Rattle.fb_cli.specs.declared.status.Status.{Status}
use Rattle.fb_cli.specs.declared.status.Status.TheVariants.{Good, Failures, FuelSpent, NotMet, Memory}
use Rattle.fb_cli.specs.declared.tell.Ending.{Ending}
use Rattle.fb_cli.specs.declared.tell.Ending.TheVariants.{Told, Printed}
use Rattle.fb_cli.specs.Inputs.{refused}
use Rattle.fb_cli.specs.PlanInput.{PlanRead, ReadsPlan}
use Rattle.fb_cli.specs.Sources.{SourceTrees, sources_of}
use Rattle.fb_cli.specs.Telling.{status_printed}

abbrev pub is_passed : Outcome → Bool
is_passed Passed = true
is_passed (AssertFailed number) = false
is_passed (CallFailed site code) = false
is_passed (ended_by_fault statement) = false

-- the text of a run is printed, and else a status is told
abbrev pub ending_of_replay : List Fault → Result Replayed ReplayError → Ending
ending_of_replay plan (Ok replayed) = Printed (is_passed replayed.outcome) replayed.text
ending_of_replay plan (Err (error.NotMet index)) = Told (NotMet index)
ending_of_replay plan (Err error.Spent) = Told (FuelSpent plan)
ending_of_replay plan (Err error.Memory) = Told Memory

-- the run injects exactly the plan, and this status tells whether it passed
pub record IsMetWith (plan : List Fault) (means : Evaluation TestRun ℕ) (status : Status) : Type 0 where
  pub run : TestRun
  pub left : ℕ
  pub done : means ≡ Done run left
  pub injects : injections_of run ≡ plan
  pub told : status ≡ status_printed (is_passed run.outcome)

-- the run of a plan ends the command with this status
abbrev pub DecidesRun : List Fault → Evaluation TestRun ℕ → Status → Type 0
DecidesRun plan means Good = IsMetWith plan means Good
DecidesRun plan means Failures = IsMetWith plan means Failures
DecidesRun plan means (FuelSpent spent) = (spent ≡ plan) × (means ≡ Spent)
DecidesRun plan means (NotMet index) = IsNotMet plan means index
DecidesRun plan means status = ⊥

-- so do the sources with it
abbrev pub DecidesSources : ℕ → List Fault → Result SourceTrees Status → Status → Type 0
DecidesSources fuel plan (Err status) = λ answer. answer ≡ status
DecidesSources fuel plan (Ok sources) = λ answer. DecidesRun plan (run_of sources.services sources.test fuel plan) answer

-- and what the plan's text is read as, which comes before them
abbrev pub DecidesPlan : Held → ReplayJob → PlanRead → Status → Type 0
DecidesPlan held job (Err found) = λ answer. answer ≡ refused role.Plan found
DecidesPlan held job (Ok plan) = DecidesSources job.fuel plan (sources_of held job.services job.test)

-- the text of the run of the plan over the sources, which are those that are held, where that is told; the status tells
-- whether the run passed
pub record IsReplayText (status : Status) (job : ReplayJob) (told : Option Held) (text : List ℕ) : Type 0 where
  pub plan : List Fault
  pub read : ReadsPlan job.plan (Ok plan)
  pub sources : SourceTrees
  pub held : IfSome told (λ files. sources_of files job.services job.test ≡ Ok sources)
  pub run : TestRun
  pub left : ℕ
  pub done : run_of sources.services sources.test job.fuel plan ≡ Done run left
  pub injects : injections_of run ≡ plan
  pub ended : status ≡ status_printed (is_passed run.outcome)
  pub printed : text ≡ replay_text sources.services run
