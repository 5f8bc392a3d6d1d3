-- What is put below the header of a report.
use Rattle.std.specs.Prelude.{◌≡◌, ℕ, ◌+◌, ◌≤◌, [], Option, Some, None, List, Result, Ok, Err}
use Rattle.fb_campaign.specs.Campaign.{Progress, ended}
use Rattle.fb_campaign.specs.Reports.{Completed, Line as CampaignLine}
use Rattle.fb_report.specs.declared.line.Line.{Line}
use Rattle.fb_report.specs.declared.totals.Totals.{Totals}
use Rattle.fb_functest.specs.ReportLines.{lines_below}
use Rattle.fb_explore.specs.declared.end.ExploreEnd.{ExploreEnd}
use Rattle.fb_explore.specs.declared.explorer.Explorer.{Explorer}
use Rattle.fb_explore.specs.declared.known.Known.{Known}
use Rattle.fb_explore.specs.Ends.{stop_before_end, IsAnswerTo, TicksAtMost, uses_in}
use Rattle.fb_explore.specs.Explored.{explored}
use Rattle.fb_explore.specs.Puts.{HavePutLines}
use Rattle.fb_explore.specs.Turns.{IsKnownOf, settings_by}

-- the campaign's report
abbrev pub report_by : Explorer → List CampaignLine
report_by explorer = explored explorer.program.now.tree explorer.test.now.tree explorer.faults.now (settings_by explorer)

-- its lines are put, and the answer is by the last of them
pub record IsExploredBelow (explorer : Explorer) (result : Result Totals ExploreEnd)
    (written : Option (List ℕ)) (faults : ℕ) (after : Option (List ℕ)) (faults_after ticked ticked_after : ℕ) : Type 0 where
  pub lines : List Line
  pub told : lines_below explorer.program.now.tree explorer.faults.now.version [] (report_by explorer) ≡ Some lines
  pub put : HavePutLines lines (stop_before_end result) written faults after faults_after
  pub answer : IsAnswerTo (report_by explorer) result
  pub ticks : TicksAtMost (report_by explorer) explorer.fuel result ticked ticked_after

-- all plans have had their turns: the lines so far are put, and the end line comes next
pub record HaveAllHadTurns (explorer : Explorer) (known : Known)
    (written : Option (List ℕ)) (faults : ℕ) (after : Option (List ℕ)) (faults_after ticked ticked_after : ℕ) : Type 0 where
  pub progress : Progress
  pub report : report_by explorer ≡ ended progress Completed
  pub knows : IsKnownOf progress known
  pub lines : List Line
  pub told : lines_below explorer.program.now.tree explorer.faults.now.version [] progress.lines ≡ Some lines
  pub put : HavePutLines lines None written faults after faults_after
  pub ticks : ticked_after ≤ ticked + uses_in progress.lines

-- all turns are taken, or the campaign stopped at one
abbrev pub AreTurnsTaken : Explorer → Result Known ExploreEnd → Option (List ℕ) → ℕ → Option (List ℕ) → ℕ → ℕ → ℕ → Type 0
AreTurnsTaken explorer (Ok known) written faults after faults_after ticked ticked_after =
    HaveAllHadTurns explorer known written faults after faults_after ticked ticked_after
AreTurnsTaken explorer (Err why) written faults after faults_after ticked ticked_after =
    IsExploredBelow explorer (Err why) written faults after faults_after ticked ticked_after
