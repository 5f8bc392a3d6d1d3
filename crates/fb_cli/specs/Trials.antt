-- The trial of a number and a size: its inputs are generated texts, and its report stays in memory.
use Rattle.std.specs.Prelude.{◌≡◌, ◌==◌, ℕ, true, List, [], Option, Some, None, Result, Ok, Err, string_bytes}
use Rattle.std.specs.Option.{option_map_or}
use Rattle.fb_base.specs.Results.{◌>>=◌}
use Rattle.fb_print.specs.Services.{services_text, test_text}
use Rattle.fb_config.specs.Choices.{choices_for}
use Rattle.fb_campaign.specs.Campaign.{Settings}
use Rattle.fb_campaign.specs.Reports.{Line as CampaignLine}
use Rattle.fb_report.specs.declared.line.Line.{Line}
use Rattle.fb_report.specs.declared.totals.Totals.{Totals}
use Rattle.fb_functest.specs.Reading.{bytes_of as bytes_of_lines}
use Rattle.fb_functest.specs.ReportLines.{lines_of_campaign}
use Rattle.fb_valid.specs.Valid.{IsValid}
use Rattle.fb_explore.specs.Ends.{counted}
use Rattle.fb_explore.specs.Explored.{explored, settings_of}
use Rattle.fb_gen.specs.Trees.{services_of, test_tree}
use Rattle.fb_gen.specs.Texts.{faults_text}
use Rattle.fb_job.specs.Numbers.{default_budget, default_fuel}
use Rattle.fb_job.specs.declared.job.Job.{Job}
use Rattle.fb_job.specs.declared.job.Job.TheVariants.{Trial}
use Rattle.fb_cli.specs.declared.status.Role.TheVariants as role
use Rattle.fb_cli.specs.declared.status.Status.{Status}
use Rattle.fb_cli.specs.declared.status.Status.TheVariants.{Good, Failures, Refused, WriteFault, FuelSpent, BudgetSpent, Memory}
use Rattle.fb_cli.specs.declared.tell.Ending.{Ending}
use Rattle.fb_cli.specs.declared.tell.Ending.TheVariants.{Told, Printed}
use Rattle.fb_cli.specs.Campaigns.{DecidesCampaign}
use Rattle.fb_cli.specs.Inputs.{bytes_of, faults_accepted, services_accepted, test_accepted}
use Rattle.fb_cli.specs.Telling.{status_printed}
use Rattle.fb_cli.specs.TestInputs.{CampaignInputs}
use Rattle.fb_cli.specs.Texts.{trial_text}

-- what the generated texts are read as, or the first refusal in the order of work
abbrev pub generated_inputs : ℕ → ℕ → Result CampaignInputs Status
generated_inputs number size = do
  bytes ← bytes_of role.Services (Some (services_text (services_of number size)))
  services ← services_accepted bytes
  test_bytes ← bytes_of role.Test (Some (test_text test_tree))
  test ← test_accepted services test_bytes
  fault_bytes ← bytes_of role.Faults (Some (faults_text size))
  faults ← faults_accepted services fault_bytes
  Ok (record { sources = record { services = services; test = test }; faults = faults })

-- the fuel and the budget are those that words leave out, and plans are pruned
abbrev pub trial_settings : Settings
trial_settings = settings_of default_fuel default_budget true

-- the lines of the campaign, as plain data
abbrev pub trial_campaign : CampaignInputs → List CampaignLine
trial_campaign inputs = explored inputs.sources.services inputs.sources.test inputs.faults trial_settings

abbrev pub trial_lines : CampaignInputs → Option (List Line)
trial_lines inputs = lines_of_campaign inputs.sources.services inputs.faults.version trial_settings (trial_campaign inputs)

-- the bytes of its report
unfoldable pub trial_report : CampaignInputs → List ℕ
trial_report inputs = option_map_or bytes_of_lines (trial_lines inputs) []

-- ---- how it ends

-- the campaign over the generated inputs ends the command with this status
abbrev pub DecidesTrial : Result CampaignInputs Status → Status → Type 0
DecidesTrial (Err status) = λ answer. answer ≡ status
DecidesTrial (Ok inputs) = λ answer. DecidesCampaign (trial_campaign inputs) answer

-- of a completed campaign, whose report is valid, the totals are told
pub record IsTrialOf (inputs : CampaignInputs) (status : Status) (text : List ℕ) : Type 0 where
  pub decides : DecidesCampaign (trial_campaign inputs) status
  pub valid : IsValid inputs.sources.services inputs.sources.test (choices_for inputs.faults) (trial_report inputs)
  pub printed : text ≡ trial_text (counted (trial_campaign inputs))

-- so of a number and a size
pub record IsTrialText (number size : ℕ) (status : Status) (text : List ℕ) : Type 0 where
  pub inputs : CampaignInputs
  pub generated : generated_inputs number size ≡ Ok inputs
  pub trial : IsTrialOf inputs status text

-- the campaign stopped at a plan, or memory was refused
abbrev pub IsTrialStop : CampaignInputs → Status → Type 0
IsTrialStop inputs (FuelSpent plan) = DecidesCampaign (trial_campaign inputs) (FuelSpent plan)
IsTrialStop inputs (BudgetSpent plan) = DecidesCampaign (trial_campaign inputs) (BudgetSpent plan)
IsTrialStop inputs Memory = Unit {0}
IsTrialStop inputs status = ⊥

abbrev pub IsTrialEnding : CampaignInputs → Ending → Type 0
IsTrialEnding inputs (Printed passed text) = IsTrialOf inputs (status_printed passed) (string_bytes text)
IsTrialEnding inputs (Told status) = IsTrialStop inputs status

-- the totals are printed, where there is memory for their text
abbrev pub PrintsTrial : Totals → Ending → Type 0
PrintsTrial totals (Printed passed text) = (passed ≡ (totals.failed == 0)) × (string_bytes text ≡ trial_text totals)
PrintsTrial totals (Told status) = status ≡ Memory

-- the inputs end it by a refusal, or by want of memory
abbrev pub EndsGenerated : Status → Type 0
EndsGenerated (Refused refusal) = Unit {0}
EndsGenerated Memory = Unit {0}
EndsGenerated status = ⊥

-- neither a file nor the report can end it
abbrev pub EndsTrial : Status → Type 0
EndsTrial Good = Unit {0}
EndsTrial Failures = Unit {0}
EndsTrial (FuelSpent plan) = Unit {0}
EndsTrial (BudgetSpent plan) = Unit {0}
EndsTrial status = EndsGenerated status

-- ---- what is answered

-- the number and the size alone decide it, but for an output that failed and for want of memory
abbrev pub IsTrialAnswer : Type 0 → ℕ → ℕ → Status → Type 0
IsTrialAnswer put_failed number size WriteFault = put_failed
IsTrialAnswer put_failed number size Memory = Unit {0}
IsTrialAnswer put_failed number size answer = DecidesTrial (generated_inputs number size) answer

abbrev pub AnswersTrial : Type 0 → Option Job → Status → Type 0
AnswersTrial put_failed (Some (Trial number size)) answer = IsTrialAnswer put_failed number size answer
AnswersTrial put_failed job answer = Unit {0}
