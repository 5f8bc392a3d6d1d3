-- How the answer of the top call follows from how the job ended and what the last put answered.
use Rattle.std.proofs.Common.{◌≡◌, inl, inr, ℕ, List, Bool, true, false, Option, Some, None, Result, Ok, Err, refl, sym, subst}
use Rattle.fb_base.specs.Count.{Rose}
use Rattle.fb_files.specs.Files.{Held, Asked}
use Rattle.fb_cli.specs.declared.status.Status.{Status}
use Rattle.fb_cli.specs.declared.status.Status.TheVariants.{Good, Failures, Usage, SameName, Refused, ReadFault, WriteFault, Memory, FuelSpent, BudgetSpent, NotMet, No}
use Rattle.fb_job.specs.declared.job.Job.{Job}
use Rattle.fb_job.specs.declared.job.Job.TheVariants.{Test, Check, Fmt, Replay, Trial}
use Rattle.fb_job.specs.Names.{overwrites_input}
use Rattle.fb_cli.specs.Telling.{AnswersTell, AnswersPut, IsToldByText}
use Rattle.fb_cli.specs.Asking.{AsksFor}
use Rattle.std.specs.Bool.{MatchBool}
use Rattle.std.specs.Option.{IfSome}
use Rattle.fb_files.specs.Told.{BothTold}
use Rattle.fb_job.specs.declared.job.TestJob.{TestJob}
use Rattle.fb_campaign.specs.Reports.{Line as CampaignLine}
use Rattle.fb_cli.specs.Campaigns.{DecidesCampaign, DecidesTest, campaign_over, report_of}
use Rattle.fb_cli.specs.Decision.{DecidesJob, DecidesWords}
use Rattle.fb_cli.specs.TestInputs.{CampaignInputs, inputs_of}
use Rattle.fb_cli.specs.Completing.{Completes}
use Rattle.fb_cli.specs.Answers.{HasReadCause, Asks, LeavesWhole, LeavesTest, LeavesJob, Leaves, TellsTruth, IsDecidedBy, IsDecidedOrMemory, HasWriteCause}
use Rattle.fb_cli.specs.PlanInput.{AnswersText, AnswersPlan}
use Rattle.fb_cli.specs.Trials.{IsTrialAnswer, AnswersTrial}
use Rattle.fb_cli.proofs.Loaded.{LoadedSome-ended, AsksFor-weaker}
use Rattle.fb_cli.proofs.TellingBoth.{BothTold-weaker}
use Rattle.fb_cli.proofs.Completed.{Completes-unstopped}

-- the three ways in which a told status is answered
pub data Ended (before after : ℕ) (status answer : Status) : Type 0 where
  Kept : answer ≡ status → Ended before after status answer
  PutFailed : IsToldByText status → answer ≡ WriteFault → Rose before after → Ended before after status answer
  PutRefused : IsToldByText status → answer ≡ Memory → Ended before after status answer

Ended-put : (before after : ℕ) (status answer : Status) → IsToldByText status → AnswersPut before after status answer → Ended before after status answer
Ended-put before after status WriteFault told answers = PutFailed told refl answers
Ended-put before after status Memory told answers = PutRefused told refl
Ended-put before after status Good told answers = Kept answers
Ended-put before after status Failures told answers = Kept answers
Ended-put before after status Usage told answers = Kept answers
Ended-put before after status SameName told answers = Kept answers
Ended-put before after status (Refused refusal) told answers = Kept answers
Ended-put before after status (ReadFault role) told answers = Kept answers
Ended-put before after status (FuelSpent plan) told answers = Kept answers
Ended-put before after status (BudgetSpent plan) told answers = Kept answers
Ended-put before after status (NotMet index) told answers = Kept answers
Ended-put before after status (No line rule) told answers = Kept answers

pub Ended-tell : (before after : ℕ) (status answer : Status) → AnswersTell before after status answer → Ended before after status answer
Ended-tell before after WriteFault answer answers = Kept answers
Ended-tell before after Memory answer answers = Kept answers
Ended-tell before after Good answer answers = Ended-put before after Good answer tt answers
Ended-tell before after Failures answer answers = Ended-put before after Failures answer tt answers
Ended-tell before after Usage answer answers = Ended-put before after Usage answer tt answers
Ended-tell before after SameName answer answers = Ended-put before after SameName answer tt answers
Ended-tell before after (Refused refusal) answer answers = Ended-put before after (Refused refusal) answer tt answers
Ended-tell before after (ReadFault role) answer answers = Ended-put before after (ReadFault role) answer tt answers
Ended-tell before after (FuelSpent plan) answer answers = Ended-put before after (FuelSpent plan) answer tt answers
Ended-tell before after (BudgetSpent plan) answer answers = Ended-put before after (BudgetSpent plan) answer tt answers
Ended-tell before after (NotMet index) answer answers = Ended-put before after (NotMet index) answer tt answers
Ended-tell before after (No line rule) answer answers = Ended-put before after (No line rule) answer tt answers

-- what was asked, by the answer
AsksFor-ended : (job : Job) (b a : ℕ) (status answer : Status) (before after : Asked)
    → Ended b a status answer → AsksFor job ⊥ status before after → AsksFor job (Rose b a) answer before after
AsksFor-ended job b a status answer before after (Kept is) asks = rw is (AsksFor-weaker job (Rose b a) status before after asks)
AsksFor-ended job b a status answer before after (PutFailed told is rose) asks = rw is (LoadedSome-ended job (Rose b a) status before after rose asks)
AsksFor-ended job b a status answer before after (PutRefused told is) asks = rw is (LoadedSome-ended job (Unit {0}) status before after tt asks)

pub Asks-ended : (words : Option Job) (job : Job) (b a : ℕ) (status answer : Status) (before after : Asked)
    → words ≡ Some job → overwrites_input job ≡ false → AnswersTell b a status answer → AsksFor job ⊥ status before after
    → Asks words (Rose b a) answer before after
Asks-ended words job b a status answer before after said other answers asks =
    rw (said, other) (AsksFor-ended job b a status answer before after (Ended-tell b a status answer answers) asks)

-- where only the put failed, the whole report is there
LeavesWhole-put : (campaign : List CampaignLine) (files_failed : Type 0) (report whole : List ℕ) (status : Status) (before after : Held)
    → IsToldByText status → HasReadCause files_failed status → IsDecidedBy (DecidesCampaign campaign) status
    → LeavesWhole files_failed report whole status before after → ¬ files_failed → after report ≡ Some whole
LeavesWhole-put campaign f report whole Good before after told cause decides leaves no_fault = leaves
LeavesWhole-put campaign f report whole Failures before after told cause decides leaves no_fault = leaves
LeavesWhole-put campaign f report whole (FuelSpent plan) before after told cause decides leaves no_fault = leaves
LeavesWhole-put campaign f report whole (BudgetSpent plan) before after told cause decides leaves no_fault = leaves
LeavesWhole-put campaign f report whole (ReadFault role) before after told cause decides leaves no_fault = absurd (no_fault cause)
LeavesWhole-put campaign f report whole WriteFault before after told cause decides leaves no_fault = absurd told
LeavesWhole-put campaign f report whole Memory before after told cause decides leaves no_fault = absurd told
LeavesWhole-put campaign f report whole Usage before after told cause decides leaves no_fault = absurd decides
LeavesWhole-put campaign f report whole SameName before after told cause decides leaves no_fault = absurd decides
LeavesWhole-put campaign f report whole (NotMet index) before after told cause decides leaves no_fault = absurd decides
LeavesWhole-put campaign f report whole (No line rule) before after told cause decides leaves no_fault = absurd decides
LeavesWhole-put campaign f report whole (Refused refusal) before after told cause decides leaves no_fault = absurd decides

-- what is left, by the answer
LeavesTest-ended : (files_failed : Type 0) (job : TestJob) (read : Result CampaignInputs Status) (b a : ℕ) (status answer : Status) (before after : Held)
    → Ended b a status answer → HasReadCause files_failed status → IsDecidedBy (DecidesTest job read) status
    → LeavesTest files_failed job read status before after → LeavesTest files_failed job read answer before after
LeavesTest-ended f job read b a status answer before after (Kept is) cause decides leaves = rw is leaves
LeavesTest-ended f job (Err refusal) b a status answer before after (PutFailed told is rose) cause decides leaves = leaves
LeavesTest-ended f job (Err refusal) b a status answer before after (PutRefused told is) cause decides leaves = leaves
LeavesTest-ended f job (Ok inputs) b a status answer before after (PutFailed told is rose) cause decides leaves =
    rw is
    (leaves.0, LeavesWhole-put (campaign_over job inputs) f job.report (report_of job inputs) status before after told cause decides leaves.1)
LeavesTest-ended f job (Ok inputs) b a status answer before after (PutRefused told is) cause decides leaves =
    rw is (leaves.0, tt)

LeavesJob-ended : (job : Job) (files_failed : Type 0) (b a : ℕ) (status answer : Status) (before after : Held)
    → Ended b a status answer → HasReadCause files_failed status → IsDecidedBy (DecidesJob before job) status
    → LeavesJob job files_failed status before after → LeavesJob job files_failed answer before after
LeavesJob-ended (Test job) f b a status answer before after ended cause decides leaves =
    LeavesTest-ended f job (inputs_of before job.services job.test job.faults) b a status answer before after ended cause decides leaves
LeavesJob-ended (Check job) f b a status answer before after ended cause decides leaves = leaves
LeavesJob-ended (Replay job) f b a status answer before after ended cause decides leaves = leaves
LeavesJob-ended (Fmt services) f b a status answer before after ended cause decides leaves = leaves
LeavesJob-ended (Trial number size) f b a status answer before after ended cause decides leaves = leaves

pub Leaves-ended : (words : Option Job) (job : Job) (files_failed : Type 0) (b a : ℕ) (status answer : Status) (before after : Option Held)
    → words ≡ Some job → overwrites_input job ≡ false → AnswersTell b a status answer → HasReadCause files_failed status
    → IfSome before (λ held. IsDecidedBy (DecidesJob held job) status)
    → BothTold (LeavesJob job files_failed status) before after → BothTold (Leaves words files_failed answer) before after
Leaves-ended words job f b a status answer None None said other answers cause decides leaves = tt
Leaves-ended words job f b a status answer None (Some y) said other answers cause decides leaves = leaves
Leaves-ended words job f b a status answer (Some x) None said other answers cause decides leaves = leaves
Leaves-ended words job f b a status answer (Some x) (Some y) said other answers cause decides leaves =
    rw (said, other) (LeavesJob-ended job f b a status answer x y (Ended-tell b a status answer answers) cause decides leaves)

-- ---- what is true

TellsTruth-ended : (job : Job) (b a : ℕ) (status answer : Status) (before after : Held)
    → Ended b a status answer → TellsTruth (Some job) status before after → TellsTruth (Some job) answer before after
TellsTruth-ended job b a status answer before after (Kept is) truth = rw is truth
TellsTruth-ended (Test job) b a status answer before after (PutFailed told is rose) truth = rw is tt
TellsTruth-ended (Check job) b a status answer before after (PutFailed told is rose) truth = rw is tt
TellsTruth-ended (Replay job) b a status answer before after (PutFailed told is rose) truth = tt
TellsTruth-ended (Fmt services) b a status answer before after (PutFailed told is rose) truth = tt
TellsTruth-ended (Trial number size) b a status answer before after (PutFailed told is rose) truth = tt
TellsTruth-ended (Test job) b a status answer before after (PutRefused told is) truth = rw is tt
TellsTruth-ended (Check job) b a status answer before after (PutRefused told is) truth = rw is tt
TellsTruth-ended (Replay job) b a status answer before after (PutRefused told is) truth = tt
TellsTruth-ended (Fmt services) b a status answer before after (PutRefused told is) truth = tt
TellsTruth-ended (Trial number size) b a status answer before after (PutRefused told is) truth = tt

pub TellsTruth-told : (words : Option Job) (job : Job) (b a : ℕ) (status answer : Status) (before after : Option Held)
    → words ≡ Some job → AnswersTell b a status answer
    → BothTold (TellsTruth (Some job) status) before after → BothTold (TellsTruth words answer) before after
TellsTruth-told words job b a status answer before after said answers truth =
    BothTold-weaker before after (λ x y told. rw said (TellsTruth-ended job b a status answer x y (Ended-tell b a status answer answers) told)) truth

-- ---- what is decided

IsDecidedBy-ended : (DecidesThis : Status → Type 0) (b a : ℕ) (status answer : Status)
    → Ended b a status answer → IsDecidedBy DecidesThis status → IsDecidedBy DecidesThis answer
IsDecidedBy-ended D b a status answer (Kept is) decides = rw is decides
IsDecidedBy-ended D b a status answer (PutFailed told is rose) decides = rw is tt
IsDecidedBy-ended D b a status answer (PutRefused told is) decides = rw is tt

pub IsDecidedBy-begun : (job : Job) (held : Option Held) (status : Status)
    → overwrites_input job ≡ false → IfSome held (λ h. IsDecidedBy (DecidesJob h job) status)
    → IfSome held (λ h. IsDecidedBy (DecidesWords h (Some job)) status)
IsDecidedBy-begun job None status other decides = tt
IsDecidedBy-begun job (Some held) status other decides =
    subst (λ (over : Bool). IsDecidedBy (λ answer. MatchBool over (answer ≡ SameName) (DecidesJob held job answer)) status) (sym other) decides

pub IsDecidedBy-told : (words : Option Job) (job : Job) (held : Option Held) (b a : ℕ) (status answer : Status)
    → words ≡ Some job → overwrites_input job ≡ false → AnswersTell b a status answer
    → IfSome held (λ h. IsDecidedBy (DecidesJob h job) status) → IfSome held (λ h. IsDecidedBy (DecidesWords h words) answer)
IsDecidedBy-told words job None b a status answer said other answers decides = tt
IsDecidedBy-told words job (Some held) b a status answer said other answers decides =
    rw said (IsDecidedBy-ended (DecidesWords held (Some job)) b a status answer (Ended-tell b a status answer answers)
    (IsDecidedBy-begun job (Some held) status other decides))

-- where nothing failed, only want of memory is left
complete_kept : (DecidesThis : Status → Type 0) (files_failed : Type 0) (status : Status) → ¬ files_failed
    → HasReadCause files_failed status → HasWriteCause files_failed ⊥ status → IsDecidedBy DecidesThis status → IsDecidedOrMemory DecidesThis status
complete_kept D f (ReadFault role) no_fault read write decides = absurd (no_fault read)
complete_kept D f WriteFault no_fault read (inl write) decides = absurd (no_fault write)
complete_kept D f WriteFault no_fault read (inr write) decides = absurd write
complete_kept D f Memory no_fault read write decides = tt
complete_kept D f Good no_fault read write decides = decides
complete_kept D f Failures no_fault read write decides = decides
complete_kept D f Usage no_fault read write decides = decides
complete_kept D f SameName no_fault read write decides = decides
complete_kept D f (Refused refusal) no_fault read write decides = decides
complete_kept D f (FuelSpent plan) no_fault read write decides = decides
complete_kept D f (BudgetSpent plan) no_fault read write decides = decides
complete_kept D f (NotMet index) no_fault read write decides = decides
complete_kept D f (No line rule) no_fault read write decides = decides

complete_ended : (DecidesThis : Status → Type 0) (files_failed : Type 0) (b a : ℕ) (status answer : Status) → ¬ files_failed → ¬ Rose b a
    → Ended b a status answer → HasReadCause files_failed status → HasWriteCause files_failed ⊥ status
    → IsDecidedBy DecidesThis status → IsDecidedOrMemory DecidesThis answer
complete_ended D f b a status answer no_fault no_put (Kept is) read write decides = rw is (complete_kept D f status no_fault read write decides)
complete_ended D f b a status answer no_fault no_put (PutFailed told is rose) read write decides = absurd (no_put rose)
complete_ended D f b a status answer no_fault no_put (PutRefused told is) read write decides = rw is tt

pub complete_told : (words : Option Job) (job : Job) (held : Option Held) (files_failed : Type 0) (b a : ℕ) (status answer : Status)
    → words ≡ Some job → overwrites_input job ≡ false → AnswersTell b a status answer
    → HasReadCause files_failed status → HasWriteCause files_failed ⊥ status
    → IfSome held (λ h. IsDecidedBy (DecidesJob h job) status)
    → IfSome held (λ h. ¬ files_failed → ¬ Rose b a → IsDecidedOrMemory (DecidesWords h words) answer)
complete_told words job None f b a status answer said other answers read write decides = tt
complete_told words job (Some held) f b a status answer said other answers read write decides =
    λ no_fault no_put. rw said (complete_ended (DecidesWords held (Some job)) f b a status answer no_fault no_put
    (Ended-tell b a status answer answers) read write (IsDecidedBy-begun job (Some held) status other decides))

-- ---- what isn't stopped

pub Completes-none : (told : Option Held) (answer : Status) → IfSome told (λ held. Completes held None answer)
Completes-none None answer = tt
Completes-none (Some held) answer = tt

pub Completes-unread : (words : Option Job) (told : Option Held) → IfSome told (λ held. Completes held words Memory)
Completes-unread words None = tt
Completes-unread words (Some held) = Completes-unstopped held words Memory tt

Completes-ended : (held : Held) (words : Option Job) (b a : ℕ) (status answer : Status) → Ended b a status answer → Completes held words status
    → Completes held words answer
Completes-ended held words b a status answer (Kept is) completes = rw is completes
Completes-ended held words b a status answer (PutFailed told is rose) completes = rw is (Completes-unstopped held words WriteFault tt)
Completes-ended held words b a status answer (PutRefused told is) completes = rw is (Completes-unstopped held words Memory tt)

pub Completes-told : (words : Option Job) (job : Job) (told : Option Held) (b a : ℕ) (status answer : Status)
    → words ≡ Some job → AnswersTell b a status answer
    → IfSome told (λ held. Completes held (Some job) status) → IfSome told (λ held. Completes held words answer)
Completes-told words job None b a status answer said answers completes = tt
Completes-told words job (Some held) b a status answer said answers completes =
    rw said (Completes-ended held (Some job) b a status answer (Ended-tell b a status answer answers) completes)

pub Completes-same_name : (words : Option Job) (job : Job) (told : Option Held) (b a : ℕ) (answer : Status)
    → words ≡ Some job → AnswersTell b a SameName answer → IfSome told (λ held. Completes held words answer)
Completes-same_name words job None b a answer said answers = tt
Completes-same_name words job (Some held) b a answer said answers =
    Completes-told words job (Some held) b a SameName answer said answers (Completes-unstopped held (Some job) SameName tt)

-- ---- what a plan's text is answered with

AnswersText-ended : (text : List ℕ) (b a : ℕ) (status answer : Status) → Ended b a status answer → AnswersText text status → AnswersText text answer
AnswersText-ended text b a status answer (Kept is) answers = rw is answers
AnswersText-ended text b a status answer (PutFailed told is rose) answers = rw is tt
AnswersText-ended text b a status answer (PutRefused told is) answers = rw is tt

AnswersPlan-ended : (job : Job) (b a : ℕ) (status answer : Status) → Ended b a status answer → AnswersPlan (Some job) status → AnswersPlan (Some job) answer
AnswersPlan-ended (Test job) b a status answer ended answers = tt
AnswersPlan-ended (Check job) b a status answer ended answers = tt
AnswersPlan-ended (Fmt services) b a status answer ended answers = tt
AnswersPlan-ended (Trial number size) b a status answer ended answers = tt
AnswersPlan-ended (Replay job) b a status answer ended answers = AnswersText-ended job.plan b a status answer ended answers

pub AnswersPlan-told : (words : Option Job) (job : Job) (b a : ℕ) (status answer : Status)
    → words ≡ Some job → AnswersTell b a status answer → AnswersPlan (Some job) status → AnswersPlan words answer
AnswersPlan-told words job b a status answer said answers plan =
    rw said (AnswersPlan-ended job b a status answer (Ended-tell b a status answer answers) plan)

pub AnswersPlan-unread : (words : Option Job) → AnswersPlan words Memory
AnswersPlan-unread None = tt
AnswersPlan-unread (Some (Test job)) = tt
AnswersPlan-unread (Some (Check job)) = tt
AnswersPlan-unread (Some (Fmt services)) = tt
AnswersPlan-unread (Some (Trial number size)) = tt
AnswersPlan-unread (Some (Replay job)) = tt

-- a replay writes no report
pub AnswersPlan-same_name : (job : Job) (answer : Status) → overwrites_input job ≡ true → AnswersPlan (Some job) answer
AnswersPlan-same_name (Test job) answer over = tt
AnswersPlan-same_name (Check job) answer over = tt
AnswersPlan-same_name (Fmt services) answer over = tt
AnswersPlan-same_name (Trial number size) answer over = tt
AnswersPlan-same_name (Replay job) answer over = absurd (cc)

-- ---- what a trial is answered with

IsTrialAnswer-weaker : (cause : Type 0) (number size : ℕ) (status : Status) → IsTrialAnswer ⊥ number size status → IsTrialAnswer cause number size status
IsTrialAnswer-weaker cause number size WriteFault answers = absurd answers
IsTrialAnswer-weaker cause number size Good answers = answers
IsTrialAnswer-weaker cause number size Failures answers = answers
IsTrialAnswer-weaker cause number size Usage answers = answers
IsTrialAnswer-weaker cause number size SameName answers = answers
IsTrialAnswer-weaker cause number size (Refused refusal) answers = answers
IsTrialAnswer-weaker cause number size (ReadFault role) answers = answers
IsTrialAnswer-weaker cause number size (FuelSpent plan) answers = answers
IsTrialAnswer-weaker cause number size (BudgetSpent plan) answers = answers
IsTrialAnswer-weaker cause number size (NotMet index) answers = answers
IsTrialAnswer-weaker cause number size (No line rule) answers = answers
IsTrialAnswer-weaker cause number size Memory answers = answers

IsTrialAnswer-ended : (number size b a : ℕ) (status answer : Status) → Ended b a status answer → IsTrialAnswer ⊥ number size status
    → IsTrialAnswer (Rose b a) number size answer
IsTrialAnswer-ended number size b a status answer (Kept is) answers = rw is (IsTrialAnswer-weaker (Rose b a) number size status answers)
IsTrialAnswer-ended number size b a status answer (PutFailed told is rose) answers = rw is rose
IsTrialAnswer-ended number size b a status answer (PutRefused told is) answers = rw is tt

AnswersTrial-ended : (job : Job) (b a : ℕ) (status answer : Status) → Ended b a status answer → AnswersTrial ⊥ (Some job) status
    → AnswersTrial (Rose b a) (Some job) answer
AnswersTrial-ended (Test job) b a status answer ended answers = tt
AnswersTrial-ended (Check job) b a status answer ended answers = tt
AnswersTrial-ended (Replay job) b a status answer ended answers = tt
AnswersTrial-ended (Fmt services) b a status answer ended answers = tt
AnswersTrial-ended (Trial number size) b a status answer ended answers = IsTrialAnswer-ended number size b a status answer ended answers

pub AnswersTrial-told : (words : Option Job) (job : Job) (b a : ℕ) (status answer : Status)
    → words ≡ Some job → AnswersTell b a status answer → AnswersTrial ⊥ (Some job) status → AnswersTrial (Rose b a) words answer
AnswersTrial-told words job b a status answer said answers trial =
    rw said (AnswersTrial-ended job b a status answer (Ended-tell b a status answer answers) trial)

pub AnswersTrial-unread : (cause : Type 0) (words : Option Job) → AnswersTrial cause words Memory
AnswersTrial-unread cause None = tt
AnswersTrial-unread cause (Some (Test job)) = tt
AnswersTrial-unread cause (Some (Check job)) = tt
AnswersTrial-unread cause (Some (Replay job)) = tt
AnswersTrial-unread cause (Some (Fmt services)) = tt
AnswersTrial-unread cause (Some (Trial number size)) = tt

-- a trial writes no report
pub AnswersTrial-same_name : (cause : Type 0) (job : Job) (answer : Status) → overwrites_input job ≡ true → AnswersTrial cause (Some job) answer
AnswersTrial-same_name cause (Test job) answer over = tt
AnswersTrial-same_name cause (Check job) answer over = tt
AnswersTrial-same_name cause (Replay job) answer over = tt
AnswersTrial-same_name cause (Fmt services) answer over = tt
AnswersTrial-same_name cause (Trial number size) answer over = absurd (cc)
