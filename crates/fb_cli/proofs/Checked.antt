-- How a check ends by what its inputs and its report give.
use Rattle.std.proofs.Common.{◌≡◌, ℕ, Bool, true, false, if◌then◌else◌, nat_lt, length, List, ◌∷◌, [], ◌++◌, Option, Some, None, Result, Ok, Err, refl, sym, ◌∙◌, ap, subst}
use Rattle.std.specs.Option.{IfSome}
use Rattle.std.specs.Prelude.{string_bytes}
use Rattle.fb_base.specs.Count.{NeverFell}
use Rattle.fb_base.specs.Results.{◌>>=◌}
use Rattle.fb_base.proofs.Results.{ok_then}
use Rattle.fb_files.specs.Files.{Held, Asked}
use Rattle.fb_files.specs.Told.{BothTold}
use Rattle.fb_config.specs.Choices.{choices_for}
use Rattle.fb_valid.specs.Laws.{ValidReportsAreTrue}
use Rattle.fb_campaign.specs.Runs.{AreChoices}
use Rattle.fb_functest.specs.Runs.{gives_of}
use Rattle.fb_tally.specs.declared.tally.Totals.{Totals}
use Rattle.fb_audit.specs.declared.verdict.Rule.{Rule}
use Rattle.fb_audit.specs.Concluded.{totals_of}
use Rattle.fb_verify.specs.declared.verdict.Verdict.{Verdict}
use Rattle.fb_verify.specs.declared.verdict.Verdict.TheVariants as verdict
use Rattle.fb_verify.specs.Verdicts.{IsVerdict, VerdictsAreExact}
use Rattle.fb_job.specs.declared.job.CheckJob.{CheckJob}
use Rattle.fb_job.specs.declared.job.Job.TheVariants.{Check}
use Rattle.fb_cli.specs.declared.status.Role.TheVariants as role
use Rattle.fb_cli.specs.declared.status.Status.{Status}
use Rattle.fb_cli.specs.declared.status.Status.TheVariants.{Good, Failures, Usage, SameName, Refused, ReadFault, WriteFault, FuelSpent, BudgetSpent, NotMet, No, Memory}
use Rattle.fb_cli.specs.declared.tell.Ending.{Ending}
use Rattle.fb_cli.specs.declared.tell.Ending.TheVariants.{Told, Printed}
use Rattle.fb_cli.specs.Asking.{names_of, loads_of, AsksFor}
use Rattle.fb_cli.specs.Answers.{IsDecidedBy, IsTextOf, TellsTruth, HoldsTrueReport}
use Rattle.fb_cli.specs.Checking.{ReportInputs, IsFound, IsValidReport, DecidesReport, DecidesCheck, PrintsValid, TellsVerdict, IsEndingFound, OfVerdict, OfMemory, check_inputs_of, report_seen}
use Rattle.fb_cli.specs.Decision.{DecidesJob}
use Rattle.fb_cli.specs.declared.status.Why.TheVariants as why
use Rattle.fb_cli.specs.Inputs.{bytes_of, limit_of, refused}
use Rattle.fb_cli.specs.Loading.{GivesInput, HasLoadCause}
use Rattle.fb_cli.specs.Sources.{EndsSources}
use Rattle.fb_cli.specs.Telling.{status_told, text_told}
use Rattle.fb_cli.specs.TestInputs.{CampaignInputs, inputs_of, inputs_seen}
use Rattle.fb_cli.specs.Texts.{status_text, valid_text}
use Rattle.fb_cli.proofs.Loaded.{LoadedSome-all}
use Rattle.fb_cli.proofs.Replayed.{ended_by_sources}
use Rattle.fb_cli.proofs.Tested.{Rose-later}

-- ---- the inputs

pub GivesInput-checked : (told : Option Held) (job : CheckJob) (inputs : CampaignInputs) (report : List ℕ)
    → IfSome told (λ held. inputs_of held job.services job.test job.faults ≡ Ok inputs) → IfSome told (λ held. bytes_of role.Report (held job.report) ≡ Ok report)
    → IfSome told (λ held. check_inputs_of held job ≡ Ok (record { inputs = inputs; report = report }))
GivesInput-checked None job inputs report first second = tt
GivesInput-checked (Some held) job inputs report first second = rw (first, second) refl

pub GivesInput-no_inputs : (told : Option Held) (job : CheckJob) (status : Status) → EndsSources status
    → IfSome told (λ held. GivesInput inputs_seen (Err status) (inputs_of held job.services job.test job.faults))
    → IfSome told (λ held. GivesInput report_seen (Err status) (check_inputs_of held job))
GivesInput-no_inputs None job status ends gives = tt
GivesInput-no_inputs (Some held) job status ends gives =
    ended_by_sources
    (λ s. GivesInput inputs_seen (Err s) (inputs_of held job.services job.test job.faults) → GivesInput report_seen (Err s) (check_inputs_of held job))
    (λ refusal other is. rw is refl) (λ failed is. tt) (λ is. tt) status ends gives

pub GivesInput-no_report : (told : Option Held) (job : CheckJob) (inputs : CampaignInputs) (status : Status) → EndsSources status
    → IfSome told (λ held. inputs_of held job.services job.test job.faults ≡ Ok inputs)
    → IfSome told (λ held. GivesInput {Made = List ℕ} (λ bytes. bytes) (Err status) (bytes_of role.Report (held job.report)))
    → IfSome told (λ held. GivesInput report_seen (Err status) (check_inputs_of held job))
GivesInput-no_report None job inputs status ends first second = tt
GivesInput-no_report (Some held) job inputs status ends first second =
    ended_by_sources
    (λ s. GivesInput {Made = List ℕ} (λ bytes. bytes) (Err s) (bytes_of role.Report (held job.report)) → GivesInput report_seen (Err s) (check_inputs_of held job))
    (λ refusal other is. rw (first, is) refl) (λ failed is. tt) (λ is. tt) status ends second

-- a load that failed behind others
pub cause-later : (A B : Type 0) (before middle after : ℕ) (status : Status) → EndsSources status → NeverFell before middle
    → HasLoadCause {A = A} middle after (Err status) → HasLoadCause {A = B} before after (Err status)
cause-later A B before middle after status ends stayed cause =
    ended_by_sources (λ s. HasLoadCause {A = A} middle after (Err s) → HasLoadCause {A = B} before after (Err s)) (λ refusal other is. tt)
    (λ failed is. Rose-later before middle after stayed is) (λ is. tt) status ends cause

-- ---- the inputs ended it

pub DecidesCheck-unloaded : (job : CheckJob) (told : Option Held) (status : Status) → EndsSources status
    → IfSome told (λ held. GivesInput report_seen (Err status) (check_inputs_of held job))
    → IfSome told (λ held. IsDecidedBy (DecidesJob held (Check job)) status)
DecidesCheck-unloaded job None status ends gives = tt
DecidesCheck-unloaded job (Some held) status ends gives = known (check_inputs_of held job) gives
  where
    known : (read : Result ReportInputs Status) → GivesInput report_seen (Err status) read → IsDecidedBy (DecidesCheck read) status
    known read =
        ended_by_sources (λ s. GivesInput report_seen (Err s) read → IsDecidedBy (DecidesCheck read) s)
        (λ refusal other is. rw is refl) (λ failed is. tt) (λ is. tt) status ends

pub IsTextOf-unchecked : (job : CheckJob) (told : Option Held) (status : Status) → EndsSources status
    → IsTextOf status (Some (Check job)) told (status_text [] status)
IsTextOf-unchecked job told =
    ended_by_sources (λ status. IsTextOf status (Some (Check job)) told (status_text [] status)) (λ refusal other. refl) (λ failed. refl) refl

pub TellsTruth-unchecked : (job : CheckJob) (told : Option Held) (status : Status) → EndsSources status
    → BothTold (TellsTruth (Some (Check job)) status) told told
TellsTruth-unchecked job None status ends = tt
TellsTruth-unchecked job (Some held) status ends =
    ended_by_sources (λ s. TellsTruth (Some (Check job)) s held held) (λ refusal other. tt) (λ role. tt) tt status ends

-- ---- the report

-- what holds of each way in which a report ends a check
pub ended_by_report : (given : ReportInputs) (P : Ending → Type 0)
    → ((text : _) (totals : Totals) → IsFound given (verdict.Yes totals) → string_bytes text ≡ valid_text totals → P (Printed true text))
    → ((line : ℕ) (rule : Rule) → IsFound given (verdict.No line rule) → P (Told (No line rule)))
    → P (Told Memory) → (ending : Ending) → IsEndingFound given ending → P ending
ended_by_report given P good broken memory ending (OfMemory is) = subst P (sym is) memory
ended_by_report given P good broken memory ending (OfVerdict (verdict.No line rule) found tells) = subst P (sym tells) (broken line rule found)
ended_by_report given P good broken memory (Told status) (OfVerdict (verdict.Yes totals) found tells) = subst (λ s. P (Told s)) (sym tells) memory
ended_by_report given P good broken memory (Printed passed text) (OfVerdict (verdict.Yes totals) found tells) =
    subst (λ p. P (Printed p text)) (sym tells.0) (good text totals found tells.1)

pub DecidesCheck-found : (job : CheckJob) (told : Option Held) (given : ReportInputs) (ending : Ending)
    → IfSome told (λ held. check_inputs_of held job ≡ Ok given) → IsEndingFound given ending
    → IfSome told (λ held. IsDecidedBy (DecidesJob held (Check job)) (status_told ending))
DecidesCheck-found job None given ending accepted is = tt
DecidesCheck-found job (Some held) given ending accepted is =
    subst (λ read. IsDecidedBy (DecidesCheck read) (status_told ending)) (sym accepted)
    (ended_by_report given (λ ended. IsDecidedBy (DecidesReport given) (status_told ended)) (λ text totals found printed. found.0) (λ line rule found. found) tt ending is)

pub IsTextOf-found : (job : CheckJob) (told : Option Held) (given : ReportInputs) (ending : Ending)
    → IfSome told (λ held. check_inputs_of held job ≡ Ok given) → IsEndingFound given ending
    → IsTextOf (status_told ending) (Some (Check job)) told (text_told [] ending)
IsTextOf-found job told given ending accepted =
    ended_by_report given (λ ended. IsTextOf (status_told ended) (Some (Check job)) told (text_told [] ended))
    (λ text totals found printed. record { given = given; held = accepted; valid = found.0; printed = printed ∙ ap valid_text found.1 })
    (λ line rule found. refl) refl ending

pub AsksFor-found : (job : CheckJob) (given : ReportInputs) (ending : Ending) (before after : Asked) → IsEndingFound given ending
    → after ≡ before ++ loads_of (names_of (Check job)) false → AsksFor (Check job) ⊥ (status_told ending) before after
AsksFor-found job given ending before after is asks =
    ended_by_report given (λ ended. AsksFor (Check job) ⊥ (status_told ended) before after) (λ text totals found printed. asks) (λ line rule found. asks)
    (LoadedSome-all (Check job) (Unit {0}) before after asks) ending is

-- bytes that were given are held
given-or-long : (role_read : _) (long : Bool) (bytes given : List ℕ)
    → (if long then Err (refused role_read why.TooLong) else Ok bytes) ≡ Ok given → Some bytes ≡ Some given
given-or-long role_read true bytes given is = absurd cc
given-or-long role_read false bytes given is = cc

bytes-held : (role_read : _) (told : Option (List ℕ)) (bytes : List ℕ) → bytes_of role_read told ≡ Ok bytes → told ≡ Some bytes
bytes-held role_read None bytes is = absurd cc
bytes-held role_read (Some there) bytes is = given-or-long role_read (nat_lt (limit_of role_read) (length there)) there bytes is

-- the accepted inputs of a check, and the report that is held
abbrev with_report : CampaignInputs → List ℕ → Result ReportInputs Status
with_report inputs report = Ok (record { inputs = inputs; report = report })

abbrev report_with : Held → CheckJob → CampaignInputs → Result ReportInputs Status
report_with held job inputs = bytes_of role.Report (held job.report) >>= with_report inputs

abbrev AreHeld : Held → CheckJob → ReportInputs → Type 0
AreHeld held job given = (inputs_of held job.services job.test job.faults ≡ Ok given.inputs) × (held job.report ≡ Some given.report)

report-held : (held : Held) (job : CheckJob) (given : ReportInputs) → check_inputs_of held job ≡ Ok given → AreHeld held job given
report-held held job given accepted =
    let inputs = ok_then (inputs_of held job.services job.test job.faults) (report_with held job) given accepted in
    let report = ok_then (bytes_of role.Report (held job.report)) (with_report inputs.0) given inputs.2 in
    let made : ReportInputs = record { inputs = inputs.0; report = report.0 } in
    let whole : with_report inputs.0 report.0 ≡ Ok given = report.2 in
    let same : made ≡ given = cc in
    subst (AreHeld held job) same (inputs.1, bytes-held role.Report (held job.report) report.0 report.1)

pub TellsTruth-found : ValidReportsAreTrue → (job : CheckJob) (told : Option Held) (given : ReportInputs) (ending : Ending)
    → AreChoices (gives_of given.inputs.sources.services) (choices_for given.inputs.faults)
    → IfSome told (λ held. check_inputs_of held job ≡ Ok given) → IsEndingFound given ending
    → BothTold (TellsTruth (Some (Check job)) (status_told ending)) told told
TellsTruth-found truth job None given ending proper accepted is = tt
TellsTruth-found truth job (Some held) given ending proper accepted is =
    let there = report-held held job given accepted in
    ended_by_report given (λ ended. TellsTruth (Some (Check job)) (status_told ended) held held)
    (λ text totals found printed. record {
      inputs = given.inputs;
      are_accepted = there.0;
      bytes = given.report;
      held = there.1;
      truth = truth given.inputs.sources.services given.inputs.sources.test (choices_for given.inputs.faults) proper given.report found.0;
    })
    (λ line rule found. tt) tt ending is

-- ---- a check is decided once

abbrev status_of_verdict : Verdict → Status
status_of_verdict (verdict.Yes totals) = Good
status_of_verdict (verdict.No line rule) = No line rule

verdict_of : (given : ReportInputs) (status : Status) → DecidesReport given status → (found : Verdict) × IsFound given found × (status ≡ status_of_verdict found)
verdict_of given Good decides = (verdict.Yes (totals_of decides.lines), (decides, refl), refl)
verdict_of given (No line rule) decides = (verdict.No line rule, decides, refl)
verdict_of given Failures decides = absurd decides
verdict_of given Usage decides = absurd decides
verdict_of given SameName decides = absurd decides
verdict_of given (Refused refusal) decides = absurd decides
verdict_of given (ReadFault failed) decides = absurd decides
verdict_of given WriteFault decides = absurd decides
verdict_of given (FuelSpent plan) decides = absurd decides
verdict_of given (BudgetSpent plan) decides = absurd decides
verdict_of given (NotMet index) decides = absurd decides
verdict_of given Memory decides = absurd decides

pub check-once : VerdictsAreExact → (read : Result ReportInputs Status) (one other : Status) → DecidesCheck read one → DecidesCheck read other → one ≡ other
check-once exact (Err status) one other decides also = decides ∙ sym also
check-once exact (Ok given) one other decides also =
    let first = verdict_of given one decides in
    let second = verdict_of given other also in
    let same =
    exact given.inputs.sources.services given.inputs.sources.test (choices_for given.inputs.faults) given.report first.0 second.0 first.1 second.1 in
    first.2 ∙ ap status_of_verdict same ∙ sym second.2
