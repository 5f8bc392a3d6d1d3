-- Campaigns that have enough fuel and budget aren't stopped.
use Rattle.std.proofs.Common.{◌≡◌, ◌+◌, ◌≤◌, true, List, [], ◌∷◌, ◌++◌, length, Option, Some, None, Result, Ok, Err, refl, sym, ◌∙◌, ap, subst}
use Rattle.std.specs.Option.{IfSome}
use Rattle.std.specs.List.{last_or}
use Rattle.fb_files.specs.Files.{Held}
use Rattle.fb_index.specs.declared.fault.Fault.{Fault}
use Rattle.fb_tree.specs.declared.recorded.Record.{Record}
use Rattle.fb_campaign.specs.Campaign.{Settings, campaign, IsCompleted}
use Rattle.fb_campaign.specs.Plans.{EachEnds, HaveMetPlans, HaveRecordsOfMet, plans}
use Rattle.fb_campaign.specs.Reports.{Line as CampaignLine, Cause, Completed, EndLine, FuelSpent as fuel_spent, BudgetSpent as budget_spent}
use Rattle.fb_campaign.specs.Runs.{AreChoices, AreLawful, Choices, Gives, Runs}
use Rattle.fb_functest.specs.Runs.{gives_of}
use Rattle.fb_report.specs.declared.totals.Totals.{Totals}
use Rattle.fb_explore.specs.declared.end.ExploreEnd.{ExploreEnd}
use Rattle.fb_explore.specs.Ends.{EndsBy, IsAnswerTo}
use Rattle.fb_job.specs.declared.job.TestJob.{TestJob}
use Rattle.fb_job.specs.declared.job.Job.{Job}
use Rattle.fb_job.specs.declared.job.Job.TheVariants.{Test, Check, Replay, Fmt, Trial}
use Rattle.fb_cli.specs.declared.status.Status.{Status}
use Rattle.fb_cli.specs.declared.status.Status.TheVariants.{Good, Failures, Usage, SameName, Refused, ReadFault, WriteFault, FuelSpent, BudgetSpent, NotMet, No, Memory}
use Rattle.fb_cli.specs.declared.tell.Ending.{Ending}
use Rattle.fb_cli.specs.Answers.{IsDecidedBy}
use Rattle.fb_cli.specs.Campaigns.{DecidesCampaign, campaign_over, settings_with}
use Rattle.fb_cli.specs.Completing.{BudgetSuffices, Completes, CompletesTest, ForPlans, ForRecords, HasEnough, IsNoStop, choices_over, runs_over}
use Rattle.fb_cli.specs.Exploring.{IsEndingOf}
use Rattle.fb_cli.specs.Sources.{EndsSources}
use Rattle.fb_cli.specs.Telling.{status_told}
use Rattle.fb_cli.specs.TestInputs.{CampaignInputs, inputs_of}
use Rattle.fb_cli.proofs.Replayed.{ended_by_sources}
use Rattle.fb_cli.proofs.Tested.{DecidesCampaign-explored}

-- a status that is no stop fits every job
CompletesTest-unstopped : (job : TestJob) (read : Result CampaignInputs Status) (answer : Status) → IsNoStop answer → CompletesTest job read answer
CompletesTest-unstopped job (Ok inputs) answer is = λ enough. is
CompletesTest-unstopped job (Err refusal) answer is = tt

pub Completes-unstopped : (held : Held) (words : Option Job) (answer : Status) → IsNoStop answer → Completes held words answer
Completes-unstopped held None answer is = tt
Completes-unstopped held (Some (Test job)) answer is = CompletesTest-unstopped job (inputs_of held job.services job.test job.faults) answer is
Completes-unstopped held (Some (Check job)) answer is = tt
Completes-unstopped held (Some (Replay job)) answer is = tt
Completes-unstopped held (Some (Fmt services)) answer is = tt
Completes-unstopped held (Some (Trial number size)) answer is = tt

-- an input ended it
pub Completes-unloaded : (job : TestJob) (told : Option Held) (status : Status) → EndsSources status
    → IfSome told (λ held. Completes held (Some (Test job)) status)
Completes-unloaded job None status ends = tt
Completes-unloaded job (Some held) status ends =
    Completes-unstopped held (Some (Test job)) status (ended_by_sources IsNoStop (λ refusal other. tt) (λ role. tt) tt status ends)

-- ---- the last line

last-appended : {A : Type 0} (body : List A) (first : Option A) (item : A) → last_or first (body ++ item ∷ []) ≡ Some item
last-appended [] first item = refl
last-appended (x ∷ body) first item = last-appended body (Some x) item

-- a completed campaign ends by no other cause
completed-cause : (report : List CampaignLine) (cause : Cause) → IsCompleted report → EndsBy report cause → Completed ≡ cause
completed-cause report cause completed ends =
    let last : last_or None report ≡ Some (EndLine Completed completed.1) =
    ap (last_or None) completed.2 ∙ last-appended completed.0 None (EndLine Completed completed.1) in
    let lines : Some (EndLine Completed completed.1) ≡ Some (EndLine cause ends.0) = sym last ∙ ends.1 in
    cc

IsNoStop-completed : (report : List CampaignLine) (status : Status) → IsCompleted report → IsDecidedBy (DecidesCampaign report) status → IsNoStop status
IsNoStop-completed report (FuelSpent plan) completed decides =
    let same : Completed ≡ fuel_spent plan = completed-cause report (fuel_spent plan) completed decides in absurd cc
IsNoStop-completed report (BudgetSpent plan) completed decides =
    let same : Completed ≡ budget_spent plan = completed-cause report (budget_spent plan) completed decides in absurd cc
IsNoStop-completed report Good completed decides = tt
IsNoStop-completed report Failures completed decides = tt
IsNoStop-completed report Usage completed decides = tt
IsNoStop-completed report SameName completed decides = tt
IsNoStop-completed report (Refused refusal) completed decides = tt
IsNoStop-completed report (ReadFault role) completed decides = tt
IsNoStop-completed report WriteFault completed decides = tt
IsNoStop-completed report (NotMet index) completed decides = tt
IsNoStop-completed report (No line rule) completed decides = tt
IsNoStop-completed report Memory completed decides = tt

-- ---- what is enough

-- with a budget of one more than the different records of all met plans a campaign completes where plans are pruned
abbrev RecordsSuffice : Type 0
RecordsSuffice =
    (gives : Gives) (runs : Runs) (choices : Choices) → AreLawful gives runs → AreChoices gives choices →
    (settings : Settings) → EachEnds runs choices settings.fuel → settings.reduction ≡ true →
    (known : List Record) → HaveRecordsOfMet runs choices settings.fuel known → 1 + length known ≤ settings.budget →
    IsCompleted (campaign settings runs (plans runs choices settings.fuel))

-- and with one of as many as there are met plans in any case
abbrev PlansSuffice : Type 0
PlansSuffice =
    (gives : Gives) (runs : Runs) (choices : Choices) → AreLawful gives runs → AreChoices gives choices →
    (settings : Settings) → EachEnds runs choices settings.fuel →
    (known : List (List Fault)) → HaveMetPlans runs choices settings.fuel known → length known ≤ settings.budget →
    IsCompleted (campaign settings runs (plans runs choices settings.fuel))

module _ (records : RecordsSuffice) (met : PlansSuffice) (job : TestJob) (inputs : CampaignInputs)
    (lawful : AreLawful (gives_of inputs.sources.services) (runs_over inputs)) (proper : AreChoices (gives_of inputs.sources.services) (choices_over inputs)) where
  IsCompleted-enough : HasEnough job inputs → IsCompleted (campaign_over job inputs)
  IsCompleted-enough enough = by enough.budget
    where
      by : BudgetSuffices job inputs → IsCompleted (campaign_over job inputs)
      by (ForRecords prunes known have fits) =
          records (gives_of inputs.sources.services) (runs_over inputs) (choices_over inputs) lawful proper (settings_with job) enough.fuel prunes known have fits
      by (ForPlans known have fits) =
          met (gives_of inputs.sources.services) (runs_over inputs) (choices_over inputs) lawful proper (settings_with job) enough.fuel known have fits

  pub Completes-explored : (told : Option Held) (explored : Result Totals ExploreEnd) (ending : Ending)
      → IfSome told (λ held. inputs_of held job.services job.test job.faults ≡ Ok inputs)
      → IsAnswerTo (campaign_over job inputs) explored → IsEndingOf explored ending
      → IfSome told (λ held. Completes held (Some (Test job)) (status_told ending))
  Completes-explored None explored ending accepted answer is = tt
  Completes-explored (Some held) explored ending accepted answer is =
      subst (λ read. CompletesTest job read (status_told ending)) (sym accepted)
      (λ enough. IsNoStop-completed (campaign_over job inputs) (status_told ending) (IsCompleted-enough enough)
      (DecidesCampaign-explored (campaign_over job inputs) explored ending answer is))
