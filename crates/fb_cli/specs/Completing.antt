-- When the campaign of a `test` comes to its end.
use Rattle.std.specs.Prelude.{◌≡◌, ◌+◌, ◌≤◌, true, List, length, Option, Some, None, Result, Ok, Err}
use Rattle.fb_files.specs.Files.{Held}
use Rattle.fb_index.specs.declared.fault.Fault.{Fault}
use Rattle.fb_tree.specs.declared.recorded.Record.{Record}
use Rattle.fb_campaign.specs.Runs.{Runs, Choices}
use Rattle.fb_campaign.specs.Plans.{EachEnds, HaveMetPlans, HaveRecordsOfMet}
use Rattle.fb_config.specs.Choices.{choices_for}
use Rattle.fb_functest.specs.Runs.{runs_of}
use Rattle.fb_job.specs.declared.job.TestJob.{TestJob}
use Rattle.fb_job.specs.declared.job.Job.{Job}
use Rattle.fb_job.specs.declared.job.Job.TheVariants.{Test, Check, Replay, Fmt, Trial}
use Rattle.fb_cli.specs.declared.status.Status.{Status}
use Rattle.fb_cli.specs.declared.status.Status.TheVariants.{FuelSpent, BudgetSpent}
use Rattle.fb_cli.specs.TestInputs.{CampaignInputs, inputs_of}

-- the runs of the test with each fuel under each plan, and the choices for each method
abbrev pub runs_over : CampaignInputs → Runs
runs_over inputs = runs_of inputs.sources.services inputs.sources.test

abbrev pub choices_over : CampaignInputs → Choices
choices_over inputs = choices_for inputs.faults

-- where plans are pruned, the budget is at least one more than the length of some list that has all records of met plans'
-- runs; in any case, at least the length of some list that has all met plans
pub data BudgetSuffices (job : TestJob) (inputs : CampaignInputs) : Type 0 where
  ForRecords : job.reduction ≡ true → (known : List Record) → HaveRecordsOfMet (runs_over inputs) (choices_over inputs) job.fuel known
      → 1 + length known ≤ job.budget → BudgetSuffices job inputs
  ForPlans : (known : List (List Fault)) → HaveMetPlans (runs_over inputs) (choices_over inputs) job.fuel known
      → length known ≤ job.budget → BudgetSuffices job inputs

-- each plan of the campaign ends within the fuel, and the budget suffices
pub record HasEnough (job : TestJob) (inputs : CampaignInputs) : Type 0 where
  pub fuel : EachEnds (runs_over inputs) (choices_over inputs) job.fuel
  pub budget : BudgetSuffices job inputs

-- no plan stopped it
abbrev pub IsNoStop : Status → Type 0
IsNoStop (FuelSpent plan) = ⊥
IsNoStop (BudgetSpent plan) = ⊥
IsNoStop status = Unit {0}

-- the campaign over accepted inputs isn't stopped where it has enough
abbrev pub CompletesTest : TestJob → Result CampaignInputs Status → Status → Type 0
CompletesTest job (Ok inputs) answer = HasEnough job inputs → IsNoStop answer
CompletesTest job (Err refusal) answer = Unit {0}

-- so of a `test` over the held files
abbrev pub Completes : Held → Option Job → Status → Type 0
Completes held None answer = Unit {0}
Completes held (Some (Test job)) answer = CompletesTest job (inputs_of held job.services job.test job.faults) answer
Completes held (Some (Check job)) answer = Unit {0}
Completes held (Some (Replay job)) answer = Unit {0}
Completes held (Some (Fmt services)) answer = Unit {0}
Completes held (Some (Trial number size)) answer = Unit {0}
