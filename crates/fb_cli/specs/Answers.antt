-- What the top call answers, asks for, writes and sends, by cases on how it ended.
use Rattle.std.specs.Prelude.{◌≡◌, ◌≢◌, ◌⊎◌, ℕ, List, [], ◌++◌, Option, Some, None, IfSome, Result, Ok, Err}
use Rattle.std.specs.Bool.{MatchBool}
use Rattle.fb_base.specs.Front.{IsFrontOf, GrewByFrontOf}
use Rattle.fb_files.specs.Files.{Held, Asked}
use Rattle.fb_syntax.specs.Trees.{ServicesTree}
use Rattle.fb_print.specs.Services.{services_text}
use Rattle.fb_config.specs.Choices.{choices_for}
use Rattle.fb_functest.specs.TrueReports.{IsTrueReport}
use Rattle.fb_cli.specs.declared.status.Role.{Role}
use Rattle.fb_cli.specs.declared.status.Status.{Status}
use Rattle.fb_cli.specs.declared.status.Status.TheVariants.{Good, Failures, Usage, SameName, ReadFault, WriteFault, FuelSpent, BudgetSpent, Memory}
use Rattle.fb_job.specs.declared.job.TestJob.{TestJob}
use Rattle.fb_job.specs.declared.job.Job.{Job}
use Rattle.fb_job.specs.declared.job.Job.TheVariants.{Test, Check, Replay, Fmt, Trial}
use Rattle.fb_job.specs.Names.{overwrites_input}
use Rattle.fb_cli.specs.Texts.{status_text}
use Rattle.fb_job.specs.Names.{report_name}
use Rattle.fb_cli.specs.Inputs.{services_input}
use Rattle.fb_cli.specs.Asking.{FailedAt, AsksFor}
use Rattle.fb_cli.specs.Campaigns.{IsCompletedText, report_of}
use Rattle.fb_cli.specs.Checking.{IsValidText}
use Rattle.fb_cli.specs.Decision.{DecidesWords}
use Rattle.fb_cli.specs.Replaying.{IsReplayText}
use Rattle.fb_cli.specs.TestInputs.{CampaignInputs, inputs_of}
use Rattle.fb_cli.specs.Trials.{DecidesTrial, IsTrialText, generated_inputs}

-- ---- how it ended

-- this status is told, but for an output that failed and for want of memory
abbrev pub IsTold : Status → Status → Type 0
IsTold wanted WriteFault = Unit {0}
IsTold wanted Memory = Unit {0}
IsTold wanted answer = answer ≡ wanted

-- Usage is told exactly where the words say no job
abbrev pub IsUsage : Option Job → Status → Type 0
IsUsage None answer = IsTold Usage answer
IsUsage (Some job) answer = answer ≢ Usage

-- SameName is told exactly where the report has the name of an input
abbrev pub IsSameName : Option Job → Status → Type 0
IsSameName None answer = answer ≢ SameName
IsSameName (Some job) answer = MatchBool (overwrites_input job) (IsTold SameName answer) (answer ≢ SameName)

-- the answer is one that is decided, but for a failure of the system and want of memory
abbrev pub IsDecidedBy : (Status → Type 0) → Status → Type 0
IsDecidedBy DecidesThis (ReadFault role) = Unit {0}
IsDecidedBy DecidesThis WriteFault = Unit {0}
IsDecidedBy DecidesThis Memory = Unit {0}
IsDecidedBy DecidesThis answer = DecidesThis answer

-- the answer is this one, but for a failure of the system and want of memory
abbrev pub IsDecided : Status → Status → Type 0
IsDecided status = IsDecidedBy (λ answer. answer ≡ status)

-- the answer is one that is decided, but for want of memory
abbrev pub IsDecidedOrMemory : (Status → Type 0) → Status → Type 0
IsDecidedOrMemory DecidesThis Memory = Unit {0}
IsDecidedOrMemory DecidesThis answer = DecidesThis answer

-- the files failed in a load
abbrev pub HasReadCause : Type 0 → Status → Type 0
HasReadCause files_failed (ReadFault role) = files_failed
HasReadCause files_failed answer = Unit {0}

-- the files failed in a create or an append, or the output in a put
abbrev pub HasWriteCause : Type 0 → Type 0 → Status → Type 0
HasWriteCause files_failed put_failed WriteFault = files_failed ⊎ put_failed
HasWriteCause files_failed put_failed answer = Unit {0}

-- a campaign over accepted inputs comes to its end, or stops at a plan, or can't write, or finds no memory
abbrev pub IsCampaignEnd : Status → Type 0
IsCampaignEnd Good = Unit {0}
IsCampaignEnd Failures = Unit {0}
IsCampaignEnd (FuelSpent plan) = Unit {0}
IsCampaignEnd (BudgetSpent plan) = Unit {0}
IsCampaignEnd WriteFault = Unit {0}
IsCampaignEnd Memory = Unit {0}
IsCampaignEnd answer = ⊥

-- a job that was begun doesn't end by its words
abbrev pub IsJobEnd : Status → Type 0
IsJobEnd Usage = ⊥
IsJobEnd SameName = ⊥
IsJobEnd answer = Unit {0}

-- ---- what it asked for

-- nothing is loaded for words that say no job, or for a report that has the name of an input
abbrev pub Asks : Option Job → Type 0 → Status → Asked → Asked → Type 0
Asks None put_failed answer before after = after ≡ before
Asks (Some job) put_failed answer before after =
    MatchBool (overwrites_input job) (after ≡ before) (AsksFor job put_failed answer before after)

-- ---- what is held

-- the report's file is as it was, or has a front of the whole report, and no other file changed
pub record WritesFront (report whole : List ℕ) (before after : Held) : Type 0 where
  pub here : (after report ≡ before report) ⊎ ((front : List ℕ) × IsFrontOf front whole × (after report ≡ Some front))
  pub elsewhere : (other : List ℕ) → other ≢ report → after other ≡ before other

-- the whole report is there where the campaign completed or stopped at a plan, and also where only the put failed
abbrev pub LeavesWhole : Type 0 → List ℕ → List ℕ → Status → Held → Held → Type 0
LeavesWhole files_failed report whole Good before after = after report ≡ Some whole
LeavesWhole files_failed report whole Failures before after = after report ≡ Some whole
LeavesWhole files_failed report whole (FuelSpent plan) before after = after report ≡ Some whole
LeavesWhole files_failed report whole (BudgetSpent plan) before after = after report ≡ Some whole
LeavesWhole files_failed report whole WriteFault before after = ¬ files_failed → after report ≡ Some whole
LeavesWhole files_failed report whole Memory before after = Unit {0}
LeavesWhole files_failed report whole answer before after = after ≡ before

-- what accepted inputs leave
abbrev pub LeavesAccepted : Type 0 → List ℕ → List ℕ → Status → Held → Held → Type 0
LeavesAccepted files_failed report whole answer before after =
    WritesFront report whole before after × LeavesWhole files_failed report whole answer before after

-- only accepted inputs have a report
abbrev pub LeavesTest : Type 0 → TestJob → Result CampaignInputs Status → Status → Held → Held → Type 0
LeavesTest files_failed job (Ok inputs) answer before after =
    LeavesAccepted files_failed job.report (report_of job inputs) answer before after
LeavesTest files_failed job (Err refusal) answer before after = after ≡ before

-- a test writes its report, and no other job writes a file
abbrev pub LeavesJob : Job → Type 0 → Status → Held → Held → Type 0
LeavesJob (Test job) files_failed answer before after =
    LeavesTest files_failed job (inputs_of before job.services job.test job.faults) answer before after
LeavesJob (Check job) files_failed answer before after = after ≡ before
LeavesJob (Replay job) files_failed answer before after = after ≡ before
LeavesJob (Fmt services) files_failed answer before after = after ≡ before
LeavesJob (Trial number size) files_failed answer before after = after ≡ before

-- what is held differs at most under the report's name
abbrev pub Leaves : Option Job → Type 0 → Status → Held → Held → Type 0
Leaves None files_failed answer before after = after ≡ before
Leaves (Some job) files_failed answer before after =
    MatchBool (overwrites_input job) (after ≡ before) (LeavesJob job files_failed answer before after)

-- ---- what is true

-- the report that is held under a name tells the truth about accepted inputs
pub record HoldsTrueReport (accepted : Held → Result CampaignInputs Status) (report : List ℕ) (before after : Held) : Type 0 where
  pub inputs : CampaignInputs
  pub are_accepted : accepted before ≡ Ok inputs
  pub bytes : List ℕ
  pub held : after report ≡ Some bytes
  pub truth : IsTrueReport inputs.sources.services inputs.sources.test (choices_for inputs.faults) bytes

-- a completed campaign leaves a true report, and a report that is checked well is true; nothing else claims anything of a report
abbrev pub TellsTruth : Option Job → Status → Held → Held → Type 0
TellsTruth (Some (Test job)) Good before after = HoldsTrueReport (λ held. inputs_of held job.services job.test job.faults) job.report before after
TellsTruth (Some (Test job)) Failures before after = HoldsTrueReport (λ held. inputs_of held job.services job.test job.faults) job.report before after
TellsTruth (Some (Check job)) Good before after = HoldsTrueReport (λ held. inputs_of held job.services job.test job.faults) job.report before after
TellsTruth job answer before after = Unit {0}

-- ---- what is sent

-- the canonical text of services: of those that are held under the name, where that is told
pub record IsCanonicalText (services : List ℕ) (held : Option Held) (text : List ℕ) : Type 0 where
  pub tree : ServicesTree
  pub read : IfSome held (λ files. services_input files services ≡ Ok tree)
  pub printed : text ≡ services_text tree

-- the text of an answer: of a job that prints totals, the canonical text or a run, and else that of the status
abbrev pub IsTextOf : Status → Option Job → Option Held → List ℕ → Type 0
IsTextOf Good (Some (Test job)) held text = IsCompletedText Good job held text
IsTextOf Failures (Some (Test job)) held text = IsCompletedText Failures job held text
IsTextOf Good (Some (Check job)) held text = IsValidText job held text
IsTextOf Good (Some (Fmt services)) held text = IsCanonicalText services held text
IsTextOf Good (Some (Trial number size)) held text = IsTrialText number size Good text
IsTextOf Failures (Some (Trial number size)) held text = IsTrialText number size Failures text
IsTextOf Good (Some (Replay job)) held text = IsReplayText Good job held text
IsTextOf Failures (Some (Replay job)) held text = IsReplayText Failures job held text
IsTextOf status job held text = text ≡ status_text (report_name job) status

-- a text of this kind was sent
abbrev pub SendsWhole : (List ℕ → Type 0) → List ℕ → List ℕ → Type 0
SendsWhole IsText before after = (text : List ℕ) × IsText text × (after ≡ before ++ text)

-- or a front of one, where the put gave up or wasn't reached
abbrev pub SendsFrontOf : (List ℕ → Type 0) → List ℕ → List ℕ → Type 0
SendsFrontOf IsText before after = (text : List ℕ) × IsText text × GrewByFrontOf text before after

-- the last load was that of this role, and it failed
pub record LoadFailed (job : Option Job) (role : Role) (before after : Asked) : Type 0 where
  pub the_job : Job
  pub said : job ≡ Some the_job
  pub asked : FailedAt role the_job before after

-- a front of one text was sent
pub data SendsFront (job : Option Job) (held : Held) (asked_before asked_after : Asked) (before after : List ℕ) : Type 0 where
  OfWriteFault : GrewByFrontOf (status_text [] WriteFault) before after → SendsFront job held asked_before asked_after before after
  OfReadFault : (role : Role) → LoadFailed job role asked_before asked_after → GrewByFrontOf (status_text [] (ReadFault role)) before after
      → SendsFront job held asked_before asked_after before after
  OfDecided : (status : Status) → DecidesWords held job status → SendsFrontOf (IsTextOf status job (Some held)) before after
      → SendsFront job held asked_before asked_after before after

-- a front of the decided text was sent, or of that of a failure
pub data SendsFrontOfTrial (number size : ℕ) (before after : List ℕ) : Type 0 where
  OfFailedTrial : GrewByFrontOf (status_text [] WriteFault) before after → SendsFrontOfTrial number size before after
  OfTrial : (status : Status) → DecidesTrial (generated_inputs number size) status
      → SendsFrontOf (IsTextOf status (Some (Trial number size)) None) before after → SendsFrontOfTrial number size before after

-- a trial asks the files for nothing
abbrev pub SendsFrontUntold : Option Job → List ℕ → List ℕ → Type 0
SendsFrontUntold (Some (Trial number size)) before after = SendsFrontOfTrial number size before after
SendsFrontUntold job before after = Unit {0}

-- of another job it is known where the files tell what they hold and were asked
abbrev pub SendsFrontWhereTold : Option Job → Option Held → Option Asked → Option Asked → List ℕ → List ℕ → Type 0
SendsFrontWhereTold job (Some held) (Some asked_before) (Some asked_after) before after = SendsFront job held asked_before asked_after before after
SendsFrontWhereTold job held asked_before asked_after before after = SendsFrontUntold job before after

-- exactly the answer's text was sent; after WriteFault and Memory a front of one
abbrev pub Sends : Option Job → Option Held → Option Asked → Option Asked → Status → List ℕ → List ℕ → Type 0
Sends job held asked_before asked_after WriteFault before after = SendsFrontWhereTold job held asked_before asked_after before after
Sends job held asked_before asked_after Memory before after = SendsFrontWhereTold job held asked_before asked_after before after
Sends job held asked_before asked_after answer before after = SendsWhole (IsTextOf answer job held) before after
