-- What an exploration does to the files, and how it ends a `test`.
use Rattle.std.specs.Prelude.{◌≡◌, ◌==◌, ◌⊎◌, ℕ, List, Option, Some, None, option_map, option_and_then, IfOk, Result, Ok, Err, if◌then◌else◌, string_bytes}
use Rattle.std.specs.Str.{bytes_eq}
use Rattle.fb_base.specs.Front.{IsFrontOf}
use Rattle.fb_files.specs.Files.{Held, Asked, Becomes}
use Rattle.fb_files.specs.Told.{BothTold}
use Rattle.fb_config.specs.Choices.{choices_for}
use Rattle.fb_report.specs.declared.totals.Totals.{Totals}
use Rattle.fb_functest.specs.TrueReports.{IsTrueReport}
use Rattle.fb_explore.specs.declared.end.ExploreEnd.{ExploreEnd}
use Rattle.fb_explore.specs.declared.end.ExploreEnd.TheVariants as end
use Rattle.fb_explore.specs.declared.error.PutError.{PutError}
use Rattle.fb_explore.specs.Ends.{stop_before_end, IsAnswerTo}
use Rattle.fb_job.specs.declared.job.TestJob.{TestJob}
use Rattle.fb_cli.specs.declared.status.Status.{Status}
use Rattle.fb_cli.specs.declared.status.Status.TheVariants.{WriteFault, FuelSpent, BudgetSpent, Memory}
use Rattle.fb_cli.specs.declared.tell.Ending.{Ending}
use Rattle.fb_cli.specs.declared.tell.Ending.TheVariants.{Told, Printed}
use Rattle.fb_cli.specs.Campaigns.{campaign_over, report_of}
use Rattle.fb_cli.specs.TestInputs.{CampaignInputs}
use Rattle.fb_cli.specs.Texts.{completed_text}

-- ---- the file that is being written

-- its bytes, where the files tell them
abbrev pub written_in : Option (List ℕ) → Option Held → Option (List ℕ)
written_in created told = option_and_then (λ name. option_and_then (λ held. held name) told) created

-- what is held under other names
abbrev pub held_beside : List ℕ → Held → Held
held_beside name held = λ other. if bytes_eq other name then None else held other

abbrev pub told_beside : Option (List ℕ) → Option Held → Option Held
told_beside created told = option_and_then (λ name. option_map (held_beside name) told) created

-- what no append changes
pub record Beside : Type 0 where
  -- which files object it is
  pub reference : ℕ
  pub created : Option (List ℕ)
  pub asked : Option Asked
  pub held : Option Held

-- ---- the report

-- its file has this whole content; where it stopped it is as before, or has a front of it
abbrev pub Writes : List ℕ → List ℕ → Option PutError → Held → Held → Type 0
Writes report whole None before after = Becomes report whole before after
Writes report whole (Some error) before after =
    (after ≡ before) ⊎ ((front : List ℕ) × IsFrontOf front whole × Becomes report front before after)

-- the lines of the campaign were written, and the answer is by the last of them; a completed report is true
pub record IsWritten (job : TestJob) (inputs : CampaignInputs) (result : Result Totals ExploreEnd) (before after : Option Held) : Type 0 where
  pub content : BothTold (Writes job.report (report_of job inputs) (stop_before_end result)) before after
  pub answer : IsAnswerTo (campaign_over job inputs) result
  pub truth : IfOk result (λ totals. IsTrueReport inputs.sources.services inputs.sources.test (choices_for inputs.faults) (report_of job inputs))

-- ---- the end

abbrev pub status_of_end : ExploreEnd → Status
status_of_end (end.FuelSpent plan) = FuelSpent plan
status_of_end (end.BudgetSpent plan) = BudgetSpent plan
status_of_end end.LineFault = WriteFault
status_of_end end.Memory = Memory

-- the totals are printed, where there is memory for their text
abbrev pub PrintsTotals : Totals → Ending → Type 0
PrintsTotals totals (Printed passed text) = (passed ≡ (totals.failed == 0)) × (string_bytes text ≡ completed_text totals)
PrintsTotals totals (Told status) = status ≡ Memory

abbrev pub IsEndingOf : Result Totals ExploreEnd → Ending → Type 0
IsEndingOf (Ok totals) ending = PrintsTotals totals ending
IsEndingOf (Err why) ending = ending ≡ Told (status_of_end why)
