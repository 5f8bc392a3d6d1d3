-- The campaign of a `test` over accepted inputs: its settings, its report, and how it ends the command.
use Rattle.std.specs.Prelude.{◌≡◌, ℕ, ◌<◌, List, [], Option, Some, IfSome, Result, Ok, Err}
use Rattle.std.specs.Option.{option_map_or}
use Rattle.fb_files.specs.Files.{Held}
use Rattle.fb_campaign.specs.Campaign.{Settings}
use Rattle.fb_campaign.specs.Reports.{Line as CampaignLine, Completed, FuelSpent as fuel_spent, BudgetSpent as budget_spent}
use Rattle.fb_report.specs.declared.line.Line.{Line}
use Rattle.fb_functest.specs.Reading.{bytes_of}
use Rattle.fb_functest.specs.ReportLines.{lines_of_campaign}
use Rattle.fb_explore.specs.Ends.{EndsBy, counted}
use Rattle.fb_explore.specs.Explored.{explored, settings_of}
use Rattle.fb_job.specs.declared.job.TestJob.{TestJob}
use Rattle.fb_cli.specs.declared.status.Status.{Status}
use Rattle.fb_cli.specs.declared.status.Status.TheVariants.{Good, Failures, FuelSpent, BudgetSpent}
use Rattle.fb_cli.specs.TestInputs.{CampaignInputs, inputs_of}
use Rattle.fb_cli.specs.Texts.{completed_text}

-- what the words say of it
abbrev pub settings_with : TestJob → Settings
settings_with job = settings_of job.fuel job.budget job.reduction

-- its lines, as plain data
abbrev pub campaign_over : TestJob → CampaignInputs → List CampaignLine
campaign_over job inputs = explored inputs.sources.services inputs.sources.test inputs.faults (settings_with job)

-- the lines of its report
abbrev pub lines_over : TestJob → CampaignInputs → Option (List Line)
lines_over job inputs =
    lines_of_campaign inputs.sources.services inputs.faults.version (settings_with job) (campaign_over job inputs)

-- there are lines wherever the inputs are accepted
abbrev pub AcceptedInputsHaveReports : Type 0
AcceptedInputsHaveReports =
    (held : Held) (job : TestJob) (inputs : CampaignInputs) → inputs_of held job.services job.test job.faults ≡ Ok inputs →
    (lines : List Line) × (lines_over job inputs ≡ Some lines)

-- the bytes of these lines
unfoldable pub report_of : TestJob → CampaignInputs → List ℕ
report_of job inputs = option_map_or bytes_of (lines_over job inputs) []

-- the campaign ends the command with this status, by its last line
abbrev pub DecidesCampaign : List CampaignLine → Status → Type 0
DecidesCampaign report Good = EndsBy report Completed × ((counted report).failed ≡ 0)
DecidesCampaign report Failures = EndsBy report Completed × (0 < (counted report).failed)
DecidesCampaign report (FuelSpent plan) = EndsBy report (fuel_spent plan)
DecidesCampaign report (BudgetSpent plan) = EndsBy report (budget_spent plan)
DecidesCampaign report status = ⊥

-- so do the inputs, where they are accepted
abbrev pub DecidesTest : TestJob → Result CampaignInputs Status → Status → Type 0
DecidesTest job (Err status) = λ answer. answer ≡ status
DecidesTest job (Ok inputs) = λ answer. DecidesCampaign (campaign_over job inputs) answer

-- the totals of the campaign over the inputs, which are those that are held, where that is told; the status tells
-- whether a plan failed
pub record IsCompletedText (status : Status) (job : TestJob) (told : Option Held) (text : List ℕ) : Type 0 where
  pub inputs : CampaignInputs
  pub held : IfSome told (λ files. inputs_of files job.services job.test job.faults ≡ Ok inputs)
  pub decides : DecidesCampaign (campaign_over job inputs) status
  pub printed : text ≡ completed_text (counted (campaign_over job inputs))
