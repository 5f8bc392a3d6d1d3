-- What holds of the reports of campaigns over the runs of a test.
use Rattle.std.specs.Prelude.{◌≡◌, ◌↔◌, ℕ, ◌≤◌, true, Some, IsNone, List, All, Contains}
use Rattle.fb_base.specs.declared.method.MethodId.{MethodId}
use Rattle.fb_base.specs.declared.reply.Reply.{Reply}
use Rattle.fb_index.specs.declared.fault.Fault.{Fault}
use Rattle.fb_syntax.specs.Trees.{ServicesTree, TestTree}
use Rattle.fb_check.specs.FirstRefusal.{first_refusal, first_refusal_of_test}
use Rattle.fb_tree.specs.declared.recorded.Record.{Record}
use Rattle.fb_campaign.specs.Runs.{Went, Choices, AreChoices}
use Rattle.fb_campaign.specs.Plans.{plans}
use Rattle.fb_campaign.specs.Reports.{Line as CampaignLine}
use Rattle.fb_campaign.specs.Campaign.{Settings, campaign, is_covered, IsCompleted}
use Rattle.fb_meaning.specs.Runs.{IsCovered}
use Rattle.fb_report.specs.declared.line.Line.{Line}
use Rattle.fb_report.specs.Ranges.{IsVersion, IsOfVersion, IsCounted, IsInRange}
use Rattle.fb_reading.specs.Answers.{IsLine}
use Rattle.fb_functest.specs.Reading.{bytes_of}
use Rattle.fb_functest.specs.ReportLines.{lines_of_campaign}
use Rattle.fb_functest.specs.Runs.{runs_of, gives_of}
use Rattle.fb_functest.specs.TrueReports.{IsTrueReport}

-- the campaign of a test over the plans that its runs lead to
abbrev pub campaign_of : ServicesTree → TestTree → Choices → Settings → List CampaignLine
campaign_of services test choices settings = campaign settings (runs_of services test) (plans (runs_of services test) choices settings.fuel)

-- in version 1 each choice is an error
abbrev pub AreOfVersion : ℕ → Choices → Type 0
AreOfVersion version choices = (method : MethodId) (given : Reply) → Contains (choices method) given → IsOfVersion version given

-- the numbers of a run's outcome are counted from 1
abbrev pub OutcomesAreCounted : Type 0
OutcomesAreCounted =
    (services : ServicesTree) (test : TestTree) (fuel : ℕ) (plan : List Fault) (went : Went) → runs_of services test fuel plan ≡ Some went → IsCounted went.outcome

-- over accepted sources each campaign has its lines, a stopped one too
abbrev pub CampaignsHaveLines : Type 0
CampaignsHaveLines =
    (services : ServicesTree) (test : TestTree) → IsNone (first_refusal services) → IsNone (first_refusal_of_test services test) →
    (version : ℕ) (settings : Settings) (of_plans : List (List Fault)) →
    (lines : List Line) × (lines_of_campaign services version settings (campaign settings (runs_of services test) of_plans) ≡ Some lines)

-- and all of them can be written
abbrev pub CampaignsAreInRange : Type 0
CampaignsAreInRange =
    (services : ServicesTree) (test : TestTree) (choices : Choices) (version : ℕ) (settings : Settings) (lines : List Line) →
    IsVersion version → AreOfVersion version choices → 1 ≤ settings.fuel → settings.fuel ≤ 1000000 →
    lines_of_campaign services version settings (campaign_of services test choices settings) ≡ Some lines → All IsInRange lines

-- the bytes of a completed campaign's lines, such as a program has, are a true report
abbrev pub CompletedReportsAreTrue : Type 0
CompletedReportsAreTrue =
    (services : ServicesTree) (test : TestTree) (choices : Choices) → AreChoices (gives_of services) choices →
    (version : ℕ) (settings : Settings) (lines : List Line) → IsCompleted (campaign_of services test choices settings) →
    lines_of_campaign services version settings (campaign_of services test choices settings) ≡ Some lines → All IsLine lines →
    IsTrueReport services test choices (bytes_of lines)

-- records cover a plan exactly where its run has come to its end and a campaign finds it covered by them
abbrev pub CoveredIsFound : Type 0
CoveredIsFound =
    (services : ServicesTree) (test : TestTree) (fuel : ℕ) (known : List Record) (plan : List Fault) →
    IsCovered services test fuel known plan ↔ ((went : Went) × (runs_of services test fuel plan ≡ Some went) × (is_covered known went ≡ true))
