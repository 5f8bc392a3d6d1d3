-- How a replay ends by what its plan's text, its sources and its run give.
use Rattle.std.proofs.Common.{◌≡◌, ◌≢◌, ℕ, Bool, true, false, List, [], ◌++◌, All, Option, Some, None, Result, Ok, Err, refl, sym, ◌∙◌, ap, subst, append-nil}
use Rattle.std.specs.Option.{IfSome}
use Rattle.std.specs.Prelude.{string_bytes}
use Rattle.fb_files.specs.Files.{Held, Asked}
use Rattle.fb_index.specs.Entry.{Occurrence}
use Rattle.fb_index.specs.declared.fault.Fault.{Fault}
use Rattle.fb_index.specs.Fault.{IsFault, IsAtCall, IsSpelledFault}
use Rattle.fb_tree.specs.Runs.{TestRun}
use Rattle.fb_meaning.specs.Evaluations.{Evaluation}
use Rattle.fb_meaning.specs.Runs.{run_of}
use Rattle.fb_replay.specs.declared.replaying.Replayed.{Replayed}
use Rattle.fb_replay.specs.declared.replaying.ReplayError.{ReplayError}
use Rattle.fb_replay.specs.declared.replaying.ReplayError.TheVariants as error
use Rattle.fb_replay.specs.Replays.{GivesReplay}
use Rattle.fb_syntax.specs.Trees.{ServicesTree, TestTree}
use Rattle.fb_job.specs.declared.job.ReplayJob.{ReplayJob}
use Rattle.fb_job.specs.declared.job.Job.TheVariants.{Replay}
use Rattle.fb_cli.specs.declared.status.Role.{Role}
use Rattle.fb_cli.specs.declared.status.Role.TheVariants as role
use Rattle.fb_cli.specs.declared.status.Why.{Why}
use Rattle.fb_cli.specs.declared.status.Refusal.{Refusal}
use Rattle.fb_cli.specs.declared.status.Status.{Status}
use Rattle.fb_cli.specs.declared.status.Status.TheVariants.{Good, Failures, Usage, SameName, Refused, ReadFault, WriteFault, FuelSpent, BudgetSpent, NotMet, No, Memory}
use Rattle.fb_cli.specs.Inputs.{bytes_of, services_accepted, test_accepted, refused}
use Rattle.fb_cli.specs.PlanInput.{ReadsPlan, IsPlanReading, AnswersText}
use Rattle.fb_cli.specs.Sources.{SourceTrees, sources_of, trees_of, EndsSources}
use Rattle.fb_cli.specs.Replaying.{is_passed, ending_of_replay, DecidesRun, DecidesSources, DecidesPlan}
use Rattle.fb_cli.specs.Asking.{names_of, loads_of, AsksFor}
use Rattle.fb_cli.specs.Decision.{DecidesJob}
use Rattle.fb_cli.specs.Loading.{GivesInput, EndsFaults, EndsInput}
use Rattle.fb_cli.specs.Telling.{status_printed, status_told, text_told}
use Rattle.fb_cli.specs.Texts.{status_text}
use Rattle.fb_cli.specs.Answers.{IsDecidedBy, IsTextOf}
use Rattle.fb_cli.proofs.Loaded.{LoadedSome-all, LoadedSome-none}

-- ---- the plan's text

-- each fault of a plan that was read has parts that a text can spell, and is at a call
pub spelled : (plan : List Fault) → All IsFault plan → All IsAtCall plan → All IsSpelledFault plan
spelled plan parts calls = λ k d inside. (parts k d inside, calls k d inside)

-- a text ends a replay by its refusal, or by want of memory
pub ended_by_plan : (text : List ℕ) (P : Status → Type 0) → ((found : Why) → ReadsPlan text (Err found) → P (refused role.Plan found)) → P Memory
    → (status : Status) → IsPlanReading text (Err status) → P status
ended_by_plan text P refuses memory Memory reading = memory
ended_by_plan text P refuses memory Good reading = subst P (sym reading.2) (refuses reading.0 reading.1)
ended_by_plan text P refuses memory Failures reading = subst P (sym reading.2) (refuses reading.0 reading.1)
ended_by_plan text P refuses memory Usage reading = subst P (sym reading.2) (refuses reading.0 reading.1)
ended_by_plan text P refuses memory SameName reading = subst P (sym reading.2) (refuses reading.0 reading.1)
ended_by_plan text P refuses memory (Refused refusal) reading = subst P (sym reading.2) (refuses reading.0 reading.1)
ended_by_plan text P refuses memory (ReadFault failed) reading = subst P (sym reading.2) (refuses reading.0 reading.1)
ended_by_plan text P refuses memory WriteFault reading = subst P (sym reading.2) (refuses reading.0 reading.1)
ended_by_plan text P refuses memory (FuelSpent plan) reading = subst P (sym reading.2) (refuses reading.0 reading.1)
ended_by_plan text P refuses memory (BudgetSpent plan) reading = subst P (sym reading.2) (refuses reading.0 reading.1)
ended_by_plan text P refuses memory (NotMet index) reading = subst P (sym reading.2) (refuses reading.0 reading.1)
ended_by_plan text P refuses memory (No line rule) reading = subst P (sym reading.2) (refuses reading.0 reading.1)

pub DecidesJob-refused : (job : ReplayJob) (told : Option Held) (status : Status) → IsPlanReading job.plan (Err status)
    → IfSome told (λ held. IsDecidedBy (DecidesJob held (Replay job)) status)
DecidesJob-refused job None status reading = tt
DecidesJob-refused job (Some held) status reading =
    ended_by_plan job.plan (IsDecidedBy (DecidesJob held (Replay job))) (λ found reads. (Err found, reads, refl)) tt status reading

pub IsTextOf-unread : (job : ReplayJob) (told : Option Held) (status : Status) → IsPlanReading job.plan (Err status)
    → IsTextOf status (Some (Replay job)) told (status_text [] status)
IsTextOf-unread job told =
    ended_by_plan job.plan (λ status. IsTextOf status (Some (Replay job)) told (status_text [] status)) (λ found reads. refl) refl

pub AnswersText-refused : (text : List ℕ) (status : Status) → IsPlanReading text (Err status) → AnswersText text status
AnswersText-refused text = ended_by_plan text (AnswersText text) (λ found reads. (Err found, reads, refl)) tt

-- nothing was loaded
pub AsksFor-unread : (job : ReplayJob) (status : Status) (asked : Asked) → IsPlanReading job.plan (Err status) → AsksFor (Replay job) ⊥ status asked asked
AsksFor-unread job status asked =
    ended_by_plan job.plan (λ s. AsksFor (Replay job) ⊥ s asked asked) (λ found reads. sym (append-nil asked))
    (LoadedSome-none (Replay job) (Unit {0}) asked asked refl) status

-- ---- the sources

-- one input ends what both end
pub EndsSources-input : (role_read : Role) (status : Status) → role_read ≢ role.Plan → EndsInput role_read status → EndsSources status
EndsSources-input r (Refused refusal) other ends = λ same. other (sym ends ∙ same)
EndsSources-input r (ReadFault failed) other ends = tt
EndsSources-input r Memory other ends = tt
EndsSources-input r Good other ends = absurd ends
EndsSources-input r Failures other ends = absurd ends
EndsSources-input r Usage other ends = absurd ends
EndsSources-input r SameName other ends = absurd ends
EndsSources-input r WriteFault other ends = absurd ends
EndsSources-input r (FuelSpent plan) other ends = absurd ends
EndsSources-input r (BudgetSpent plan) other ends = absurd ends
EndsSources-input r (NotMet index) other ends = absurd ends
EndsSources-input r (No line rule) other ends = absurd ends

pub EndsSources-faults : (faults : Option (List ℕ)) (status : Status) → EndsFaults faults status → EndsSources status
EndsSources-faults None status ends = subst EndsSources (sym ends) tt
EndsSources-faults (Some name) status ends = EndsSources-input role.Faults status (λ same. cc) ends

pub ended_by_sources : (P : Status → Type 0) → ((refusal : Refusal) → refusal.role ≢ role.Plan → P (Refused refusal)) → ((failed : Role) → P (ReadFault failed))
    → P Memory → (status : Status) → EndsSources status → P status
ended_by_sources P refuses fails memory (Refused refusal) ends = refuses refusal ends
ended_by_sources P refuses fails memory (ReadFault failed) ends = fails failed
ended_by_sources P refuses fails memory Memory ends = memory
ended_by_sources P refuses fails memory Good ends = absurd ends
ended_by_sources P refuses fails memory Failures ends = absurd ends
ended_by_sources P refuses fails memory Usage ends = absurd ends
ended_by_sources P refuses fails memory SameName ends = absurd ends
ended_by_sources P refuses fails memory WriteFault ends = absurd ends
ended_by_sources P refuses fails memory (FuelSpent plan) ends = absurd ends
ended_by_sources P refuses fails memory (BudgetSpent plan) ends = absurd ends
ended_by_sources P refuses fails memory (NotMet index) ends = absurd ends
ended_by_sources P refuses fails memory (No line rule) ends = absurd ends

pub GivesInput-sources : (told : Option Held) (services_name test_name bytes test_bytes : List ℕ) (services : ServicesTree) (test : TestTree)
    → IfSome told (λ held. bytes_of role.Services (held services_name) ≡ Ok bytes) → services_accepted bytes ≡ Ok services
    → IfSome told (λ held. bytes_of role.Test (held test_name) ≡ Ok test_bytes) → test_accepted services test_bytes ≡ Ok test
    → IfSome told (λ held. sources_of held services_name test_name ≡ Ok (record { services = services; test = test }))
GivesInput-sources None services_name test_name bytes test_bytes services test first accepted second passed = tt
GivesInput-sources (Some held) services_name test_name bytes test_bytes services test first accepted second passed =
    rw (first, accepted, second, passed) refl

-- the sources ended it, so this is decided
pub DecidesPlan-unloaded : (job : ReplayJob) (plan : List Fault) (told : Option Held) (status : Status) → EndsSources status
    → IfSome told (λ held. GivesInput trees_of (Err status) (sources_of held job.services job.test))
    → IfSome told (λ held. IsDecidedBy (DecidesPlan held job (Ok plan)) status)
DecidesPlan-unloaded job plan None status ends gives = tt
DecidesPlan-unloaded job plan (Some held) status ends gives = known (sources_of held job.services job.test) gives
  where
    known : (read : Result SourceTrees Status) → GivesInput trees_of (Err status) read → IsDecidedBy (DecidesSources job.fuel plan read) status
    known read =
        ended_by_sources (λ s. GivesInput trees_of (Err s) read → IsDecidedBy (DecidesSources job.fuel plan read) s)
        (λ refusal other is. rw is refl) (λ failed is. tt) (λ is. tt) status ends

pub IsTextOf-unloaded : (job : ReplayJob) (told : Option Held) (status : Status) → EndsSources status
    → IsTextOf status (Some (Replay job)) told (status_text [] status)
IsTextOf-unloaded job told =
    ended_by_sources (λ status. IsTextOf status (Some (Replay job)) told (status_text [] status)) (λ refusal other. refl) (λ failed. refl) refl

-- a refusal of a source is none of a plan
source_refused : (refusal : Refusal) (found : Why) → refusal.role ≢ role.Plan → Refused refusal ≢ refused role.Plan found
source_refused refusal found other same =
    let is : refusal ≡ record { role = role.Plan; why = found } = cc in
    other (ap (λ r. r.role) is)

pub AnswersText-unloaded : (text : List ℕ) (plan : List Fault) (status : Status) → ReadsPlan text (Ok plan) → EndsSources status → AnswersText text status
AnswersText-unloaded text plan status reads =
    ended_by_sources (AnswersText text) (λ refusal other. (Ok plan, reads, λ found. source_refused refusal found other))
    (λ failed. (Ok plan, reads, λ found same. cc)) tt status

-- ---- the run

pub ended_by_run : (plan : List Fault) (P : Status → Type 0) → P Good → P Failures → P (FuelSpent plan) → ((index : List Occurrence) → P (NotMet index)) → P Memory
    → (replayed : Result Replayed ReplayError) → P (status_told (ending_of_replay plan replayed))
ended_by_run plan P good failures spent unmet memory (Ok replayed) = printed (is_passed replayed.outcome)
  where
    printed : (passed : Bool) → P (status_printed passed)
    printed true = good
    printed false = failures
ended_by_run plan P good failures spent unmet memory (Err error.Spent) = spent
ended_by_run plan P good failures spent unmet memory (Err (error.NotMet index)) = unmet index
ended_by_run plan P good failures spent unmet memory (Err error.Memory) = memory

pub AsksFor-run : (job : ReplayJob) (plan : List Fault) (replayed : Result Replayed ReplayError) (before after : Asked)
    → after ≡ before ++ loads_of (names_of (Replay job)) false
    → AsksFor (Replay job) ⊥ (status_told (ending_of_replay plan replayed)) before after
AsksFor-run job plan replayed before after asks =
    ended_by_run plan (λ s. AsksFor (Replay job) ⊥ s before after) asks asks asks (λ index. asks)
    (LoadedSome-all (Replay job) (Unit {0}) before after asks) replayed

pub AnswersText-run : (text : List ℕ) (plan : List Fault) (replayed : Result Replayed ReplayError) → ReadsPlan text (Ok plan)
    → AnswersText text (status_told (ending_of_replay plan replayed))
AnswersText-run text plan replayed reads =
    ended_by_run plan (AnswersText text) (Ok plan, reads, λ found same. cc) (Ok plan, reads, λ found same. cc) (Ok plan, reads, λ found same. cc)
    (λ index. (Ok plan, reads, λ found same. cc)) tt replayed

DecidesRun-replayed : (services : ServicesTree) (plan : List Fault) (means : Evaluation TestRun ℕ) (replayed : Result Replayed ReplayError)
    → GivesReplay services plan means replayed → IsDecidedBy (DecidesRun plan means) (status_told (ending_of_replay plan replayed))
DecidesRun-replayed services plan means (Ok replayed) gives = printed (is_passed replayed.outcome) refl
  where
    printed : (passed : Bool) → is_passed replayed.outcome ≡ passed → IsDecidedBy (DecidesRun plan means) (status_printed passed)
    printed true same =
        let told : is_passed gives.run.outcome ≡ true = ap is_passed (sym gives.outcome) ∙ same in
        record { run = gives.run; left = gives.left; done = gives.done; injects = gives.injects; told = rw told refl }
    printed false same =
        let told : is_passed gives.run.outcome ≡ false = ap is_passed (sym gives.outcome) ∙ same in
        record { run = gives.run; left = gives.left; done = gives.done; injects = gives.injects; told = rw told refl }
DecidesRun-replayed services plan means (Err error.Spent) gives = (refl, gives)
DecidesRun-replayed services plan means (Err (error.NotMet index)) gives = gives
DecidesRun-replayed services plan means (Err error.Memory) gives = tt

pub DecidesPlan-replayed : (job : ReplayJob) (plan : List Fault) (told : Option Held) (sources : SourceTrees) (replayed : Result Replayed ReplayError)
    → IfSome told (λ held. sources_of held job.services job.test ≡ Ok sources)
    → GivesReplay sources.services plan (run_of sources.services sources.test job.fuel plan) replayed
    → IfSome told (λ held. IsDecidedBy (DecidesPlan held job (Ok plan)) (status_told (ending_of_replay plan replayed)))
DecidesPlan-replayed job plan None sources replayed is gives = tt
DecidesPlan-replayed job plan (Some held) sources replayed is gives =
    rw is (DecidesRun-replayed sources.services plan (run_of sources.services sources.test job.fuel plan) replayed gives)

pub IsTextOf-replayed : (job : ReplayJob) (plan : List Fault) (told : Option Held) (sources : SourceTrees) (replayed : Result Replayed ReplayError)
    → ReadsPlan job.plan (Ok plan) → IfSome told (λ held. sources_of held job.services job.test ≡ Ok sources)
    → GivesReplay sources.services plan (run_of sources.services sources.test job.fuel plan) replayed
    → IsTextOf (status_told (ending_of_replay plan replayed)) (Some (Replay job)) told (text_told [] (ending_of_replay plan replayed))
IsTextOf-replayed job plan told sources (Ok replayed) reads is gives = printed (is_passed replayed.outcome) refl
  where
    printed : (passed : Bool) → is_passed replayed.outcome ≡ passed → IsTextOf (status_printed passed) (Some (Replay job)) told (string_bytes replayed.text)
    printed true same =
        let ended : is_passed gives.run.outcome ≡ true = ap is_passed (sym gives.outcome) ∙ same in
        record {
          plan = plan;
          read = reads;
          sources = sources;
          held = is;
          run = gives.run;
          left = gives.left;
          done = gives.done;
          injects = gives.injects;
          ended = rw ended refl;
          printed = gives.text;
        }
    printed false same =
        let ended : is_passed gives.run.outcome ≡ false = ap is_passed (sym gives.outcome) ∙ same in
        record {
          plan = plan;
          read = reads;
          sources = sources;
          held = is;
          run = gives.run;
          left = gives.left;
          done = gives.done;
          injects = gives.injects;
          ended = rw ended refl;
          printed = gives.text;
        }
IsTextOf-replayed job plan told sources (Err error.Spent) reads is gives = refl
IsTextOf-replayed job plan told sources (Err (error.NotMet index)) reads is gives = refl
IsTextOf-replayed job plan told sources (Err error.Memory) reads is gives = refl

-- ---- from the plan to the words

IsDecidedBy-weaker : (Strong Weak : Status → Type 0) → ((s : Status) → Strong s → Weak s) → (status : Status) → IsDecidedBy Strong status → IsDecidedBy Weak status
IsDecidedBy-weaker S W step (ReadFault failed) decides = tt
IsDecidedBy-weaker S W step WriteFault decides = tt
IsDecidedBy-weaker S W step Memory decides = tt
IsDecidedBy-weaker S W step Good decides = step Good decides
IsDecidedBy-weaker S W step Failures decides = step Failures decides
IsDecidedBy-weaker S W step Usage decides = step Usage decides
IsDecidedBy-weaker S W step SameName decides = step SameName decides
IsDecidedBy-weaker S W step (Refused refusal) decides = step (Refused refusal) decides
IsDecidedBy-weaker S W step (FuelSpent plan) decides = step (FuelSpent plan) decides
IsDecidedBy-weaker S W step (BudgetSpent plan) decides = step (BudgetSpent plan) decides
IsDecidedBy-weaker S W step (NotMet index) decides = step (NotMet index) decides
IsDecidedBy-weaker S W step (No line rule) decides = step (No line rule) decides

pub DecidesJob-read : (job : ReplayJob) (plan : List Fault) (told : Option Held) (status : Status) → ReadsPlan job.plan (Ok plan)
    → IfSome told (λ held. IsDecidedBy (DecidesPlan held job (Ok plan)) status)
    → IfSome told (λ held. IsDecidedBy (DecidesJob held (Replay job)) status)
DecidesJob-read job plan None status reads decides = tt
DecidesJob-read job plan (Some held) status reads decides =
    IsDecidedBy-weaker (DecidesPlan held job (Ok plan)) (DecidesJob held (Replay job)) (λ s d. (Ok plan, reads, d)) status decides
