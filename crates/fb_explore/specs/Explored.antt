-- What an exploration puts and answers.
use Rattle.std.specs.Prelude.{◌≡◌, ℕ, ◌≤◌, All, Bool, true, Option, Some, None, List, Result}
use Rattle.fb_campaign.specs.Campaign.{Settings}
use Rattle.fb_campaign.specs.Reports.{Line as CampaignLine}
use Rattle.fb_syntax.specs.Trees.{ServicesTree, TestTree}
use Rattle.fb_config.specs.Choices.{choices_for}
use Rattle.fb_config.specs.declared.choices.ChoiceTable.{ChoiceTable}
use Rattle.fb_files.specs.Told.{BothTold}
use Rattle.fb_report.specs.declared.line.Line.{Line}
use Rattle.fb_report.specs.declared.totals.Totals.{Totals}
use Rattle.fb_report.specs.Ranges.{IsProperLine}
use Rattle.fb_functest.specs.Reading.{bytes_of}
use Rattle.fb_functest.specs.ReportLaws.{campaign_of}
use Rattle.fb_functest.specs.ReportLines.{lines_of_campaign}
use Rattle.fb_explore.specs.declared.end.ExploreEnd.{ExploreEnd}
use Rattle.fb_explore.specs.Ends.{stop_before_end, IsAnswerTo}
use Rattle.fb_explore.specs.Puts.{Puts}

abbrev pub IsFuel : ℕ → Type 0
IsFuel fuel = (1 ≤ fuel) × (fuel ≤ 1000000)

-- each plan counts against the budget
abbrev pub settings_of : ℕ → ℕ → Bool → Settings
settings_of fuel budget reduction = record { fuel = fuel; budget = budget; reduction = reduction; counts = λ plan. true }

-- the campaign of a test with the choices of a fault file
abbrev pub explored : ServicesTree → TestTree → ChoiceTable → Settings → List CampaignLine
explored services test faults settings = campaign_of services test (choices_for faults) settings

-- the lines of the campaign are put, and the answer is by the last of them; where it stopped before, a front of their bytes.
-- Where none was missing, each line is one that a program has
pub record IsExplored (services : ServicesTree) (test : TestTree) (faults : ChoiceTable) (settings : Settings) (result : Result Totals ExploreEnd) (before after : Option (List ℕ)) : Type 0 where
  pub lines : List Line
  pub told : lines_of_campaign services faults.version settings (explored services test faults settings) ≡ Some lines
  pub put : BothTold (Puts (bytes_of lines) (stop_before_end result)) before after
  pub proper : stop_before_end result ≡ None → All IsProperLine lines
  pub answer : IsAnswerTo (explored services test faults settings) result
