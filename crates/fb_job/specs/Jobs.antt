-- The words of a command, and the job that they say.
use Rattle.std.specs.Prelude.{ℕ, List, [], ◌∷◌, Option, Some, None, not, if◌then◌else◌, codes}
use Rattle.std.specs.Str.{bytes_eq}
use Rattle.clap.specs.Words.{first_of}
use Rattle.fb_job.specs.declared.job.Job.{Job}
use Rattle.fb_job.specs.declared.job.Job.TheVariants.{Test, Check, Replay, Fmt, Trial}
use Rattle.fb_job.specs.Commands.{rows_given, test_app, check_app, replay_app, fmt_app, trial_app}
use Rattle.fb_job.specs.Numbers.{budget_given, fuel_given, number_given, size_given}
use Rattle.fb_job.specs.Options.{is_set}

infixl 10 ◌>>=◌
abbrev pub ◌>>=◌ : {A B : Type 0} → Option A → (A → Option B) → Option B
(Some x) >>= more = more x
None >>= more = None

-- each file and number by its option; plans are pruned unless it is said otherwise
abbrev pub test_of_words : List (List ℕ) → Option Job
test_of_words words = do
  rows ← rows_given test_app words
  services ← first_of (codes "services") rows
  test ← first_of (codes "test") rows
  report ← first_of (codes "report") rows
  fuel ← fuel_given rows
  budget ← budget_given rows
  Some (Test (record {
    services = services;
    test = test;
    report = report;
    faults = first_of (codes "faults") rows;
    fuel = fuel;
    budget = budget;
    reduction = not (is_set (first_of (codes "no-reduction") rows));
  }))

-- each file by its option
abbrev pub check_of_words : List (List ℕ) → Option Job
check_of_words words = do
  rows ← rows_given check_app words
  services ← first_of (codes "services") rows
  test ← first_of (codes "test") rows
  report ← first_of (codes "report") rows
  Some (Check (record { services = services; test = test; report = report; faults = first_of (codes "faults") rows }))

-- each file and the plan's text by its option, and the fuel
abbrev pub replay_of_words : List (List ℕ) → Option Job
replay_of_words words = do
  rows ← rows_given replay_app words
  services ← first_of (codes "services") rows
  test ← first_of (codes "test") rows
  plan ← first_of (codes "plan") rows
  fuel ← fuel_given rows
  Some (Replay (record { services = services; test = test; plan = plan; fuel = fuel }))

abbrev pub fmt_of_words : List (List ℕ) → Option Job
fmt_of_words words = do
  rows ← rows_given fmt_app words
  services ← first_of (codes "services") rows
  Some (Fmt services)

-- the number and the size by their places
abbrev pub trial_of_words : List (List ℕ) → Option Job
trial_of_words words = do
  rows ← rows_given trial_app words
  number ← number_given rows
  size ← size_given rows
  Some (Trial number size)

-- the job that words say to a command of this name
abbrev pub job_by : List ℕ → List (List ℕ) → Option Job
job_by command words =
    if bytes_eq command (codes "test") then test_of_words words
    else if bytes_eq command (codes "check") then check_of_words words
    else if bytes_eq command (codes "replay") then replay_of_words words
    else if bytes_eq command (codes "fmt") then fmt_of_words words
    else if bytes_eq command (codes "trial") then trial_of_words words
    else None

-- the job that the words say: the first one is the command
unfoldable pub job_of_words : List (List ℕ) → Option Job
job_of_words [] = None
job_of_words (command ∷ options) = job_by command (command ∷ options)
