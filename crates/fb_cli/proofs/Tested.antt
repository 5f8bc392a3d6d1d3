-- How a `test` ends by what its inputs and its campaign give.
use Rattle.std.proofs.Common.{◌≡◌, inl, inr, ℕ, ◌<◌, true, false, List, [], ◌++◌, Option, Some, None, Result, Ok, Err, refl, sym, ◌∙◌, ap, subst, arith, append-nil}
use Rattle.std.specs.Option.{IfSome}
use Rattle.std.specs.Prelude.{IfOk, IsErrOf, String, string_bytes}
use Rattle.std.specs.Global.{Global}
use Rattle.fb_base.specs.Count.{Rose, NeverFell}
use Rattle.fb_files.specs.Files.{Held, Asked}
use Rattle.fb_files.specs.Told.{BothTold}
use Rattle.fb_index.specs.declared.fault.Fault.{Fault}
use Rattle.fb_campaign.specs.Reports.{Line as CampaignLine}
use Rattle.fb_config.specs.Choices.{choices_for}
use Rattle.fb_config.specs.declared.choices.ChoiceTable.{ChoiceTable}
use Rattle.fb_functest.specs.TrueReports.{IsTrueReport}
use Rattle.fb_report.specs.declared.totals.Totals.{Totals}
use Rattle.fb_explore.specs.declared.end.ExploreEnd.{ExploreEnd}
use Rattle.fb_explore.specs.declared.end.ExploreEnd.TheVariants as end
use Rattle.fb_explore.specs.declared.error.PutError.{PutError}
use Rattle.fb_explore.specs.Ends.{counted, stop_before_end, IsAnswerTo}
use Rattle.fb_job.specs.declared.job.TestJob.{TestJob}
use Rattle.fb_job.specs.declared.job.Job.TheVariants.{Test}
use Rattle.fb_cli.specs.declared.status.Status.{Status}
use Rattle.fb_cli.specs.declared.status.Status.TheVariants.{Good, Failures, WriteFault, FuelSpent, BudgetSpent, Memory}
use Rattle.fb_cli.specs.declared.tell.Ending.{Ending}
use Rattle.fb_cli.specs.declared.tell.Ending.TheVariants.{Told, Printed}
use Rattle.fb_cli.specs.Asking.{names_of, loads_of, AsksFor}
use Rattle.fb_cli.specs.Loading.{GivesInput}
use Rattle.fb_cli.specs.Sources.{SourceTrees, sources_of, EndsSources}
use Rattle.fb_cli.specs.TestInputs.{CampaignInputs, faults_of, inputs_of, inputs_seen}
use Rattle.fb_cli.specs.Campaigns.{campaign_over, report_of, DecidesCampaign, DecidesTest}
use Rattle.fb_cli.specs.Decision.{DecidesJob}
use Rattle.fb_cli.specs.Exploring.{IsEndingOf, IsWritten, Writes, status_of_end}
use Rattle.fb_cli.specs.Telling.{status_told, text_told}
use Rattle.fb_cli.specs.Texts.{completed_text, status_text}
use Rattle.fb_cli.specs.Answers.{IsCampaignEnd, IsDecidedBy, HasWriteCause, IsTextOf, LeavesJob, LeavesTest, LeavesWhole, TellsTruth, WritesFront}
use Rattle.fb_cli.proofs.Loaded.{AsksFor-all}
use Rattle.fb_cli.proofs.Replayed.{ended_by_sources}

-- a count that rose later has risen
pub Rose-later : (first middle later : ℕ) → NeverFell first middle → Rose middle later → Rose first later
Rose-later first middle later stayed rose = grind (arith, stayed, rose)

-- ---- the inputs

pub GivesInput-inputs : (told : Option Held) (services test : List ℕ) (names : Option (List ℕ)) (sources : SourceTrees) (faults : ChoiceTable)
    → IfSome told (λ held. sources_of held services test ≡ Ok sources)
    → IfSome told (λ held. faults_of held sources.services names ≡ Ok faults)
    → IfSome told (λ held. inputs_of held services test names ≡ Ok (record { sources = sources; faults = faults }))
GivesInput-inputs None services test names sources faults first second = tt
GivesInput-inputs (Some held) services test names sources faults first second = rw (first, second) refl

pub GivesInput-unconfigured : (told : Option Held) (services test : List ℕ) (names : Option (List ℕ)) (sources : SourceTrees) (status : Status)
    → IfSome told (λ held. sources_of held services test ≡ Ok sources)
    → IfSome told (λ held. GivesInput {Made = ChoiceTable} (λ faults. faults) (Err status) (faults_of held sources.services names))
    → EndsSources status → IfSome told (λ held. GivesInput inputs_seen (Err status) (inputs_of held services test names))
GivesInput-unconfigured None services test names sources status first second ends = tt
GivesInput-unconfigured (Some held) services test names sources status first second ends =
    ended_by_sources
    (λ s. GivesInput {Made = ChoiceTable} (λ faults. faults) (Err s) (faults_of held sources.services names) → GivesInput inputs_seen (Err s) (inputs_of held services test names))
    (λ refusal other is. rw (first, is) refl) (λ failed is. tt) (λ is. tt) status ends second

-- ---- the ways in which a campaign ends

pub ended_by_campaign : (P : Result Totals ExploreEnd → Ending → Type 0)
    → ((totals : Totals) (text : String Global) → totals.failed ≡ 0 → string_bytes text ≡ completed_text totals → P (Ok totals) (Printed true text))
    → ((totals : Totals) (text : String Global) → 0 < totals.failed → string_bytes text ≡ completed_text totals → P (Ok totals) (Printed false text))
    → ((totals : Totals) → P (Ok totals) (Told Memory))
    → ((why : ExploreEnd) → P (Err why) (Told (status_of_end why)))
    → (explored : Result Totals ExploreEnd) (ending : Ending) → IsEndingOf explored ending → P explored ending
ended_by_campaign P passes fails short stops (Ok totals) (Printed true text) is = passes totals text (grind (arith, is.0)) is.1
ended_by_campaign P passes fails short stops (Ok totals) (Printed false text) is = fails totals text (grind (arith, is.0)) is.1
ended_by_campaign P passes fails short stops (Ok totals) (Told status) is = subst (λ s. P (Ok totals) (Told s)) (sym is) (short totals)
ended_by_campaign P passes fails short stops (Err why) ending is = subst (P (Err why)) (sym is) (stops why)

-- the statuses alone
pub ended_with : (P : Status → Type 0) → P Good → P Failures → ((plan : List Fault) → P (FuelSpent plan)) → ((plan : List Fault) → P (BudgetSpent plan))
    → P WriteFault → P Memory → (explored : Result Totals ExploreEnd) (ending : Ending) → IsEndingOf explored ending → P (status_told ending)
ended_with P good failures spent out_of_budget unwritten memory =
    ended_by_campaign (λ explored ending. P (status_told ending)) (λ totals text none printed. good) (λ totals text some printed. failures) (λ totals. memory) stopped
  where
    stopped : (why : ExploreEnd) → P (status_of_end why)
    stopped (end.FuelSpent plan) = spent plan
    stopped (end.BudgetSpent plan) = out_of_budget plan
    stopped end.LineFault = unwritten
    stopped end.Memory = memory

IsCampaignEnd-explored : (explored : Result Totals ExploreEnd) (ending : Ending) → IsEndingOf explored ending → IsCampaignEnd (status_told ending)
IsCampaignEnd-explored = ended_with IsCampaignEnd tt tt (λ plan. tt) (λ plan. tt) tt tt

pub AsksFor-explored : (job : TestJob) (explored : Result Totals ExploreEnd) (ending : Ending) (before after : Asked) → IsEndingOf explored ending
    → after ≡ before ++ loads_of (names_of (Test job)) false → AsksFor (Test job) ⊥ (status_told ending) before after
AsksFor-explored job explored ending before after is asks =
    AsksFor-all (Test job) ⊥ (status_told ending) before after (IsCampaignEnd-explored explored ending is) asks

pub HasWriteCause-explored : (failed : Type 0) (explored : Result Totals ExploreEnd) (ending : Ending) → (IsErrOf explored end.LineFault → failed)
    → IsEndingOf explored ending → HasWriteCause failed ⊥ (status_told ending)
HasWriteCause-explored failed explored ending cause is =
    ended_by_campaign (λ e ended. (IsErrOf e end.LineFault → failed) → HasWriteCause failed ⊥ (status_told ended))
    (λ totals text none printed has. tt) (λ totals text some printed has. tt) (λ totals has. tt) stopped explored ending is cause
  where
    stopped : (why : ExploreEnd) → (IsErrOf {T = Totals} (Err why) end.LineFault → failed) → HasWriteCause failed ⊥ (status_of_end why)
    stopped (end.FuelSpent plan) has = tt
    stopped (end.BudgetSpent plan) has = tt
    stopped end.LineFault has = inl (has refl)
    stopped end.Memory has = tt

-- ---- what is decided, and told

pub none_failed : (report : List CampaignLine) (totals : Totals) → totals ≡ counted report → totals.failed ≡ 0 → (counted report).failed ≡ 0
none_failed report totals is none = sym (ap (λ t. t.failed) is) ∙ none

pub some_failed : (report : List CampaignLine) (totals : Totals) → totals ≡ counted report → 0 < totals.failed → 0 < (counted report).failed
some_failed report totals is some = subst (λ t. 0 < t.failed) is some

pub DecidesCampaign-explored : (report : List CampaignLine) (explored : Result Totals ExploreEnd) (ending : Ending) → IsAnswerTo report explored
    → IsEndingOf explored ending → IsDecidedBy (DecidesCampaign report) (status_told ending)
DecidesCampaign-explored report explored ending answer is =
    ended_by_campaign (λ e ended. IsAnswerTo report e → IsDecidedBy (DecidesCampaign report) (status_told ended))
    (λ totals text none printed by. (by.0, none_failed report totals by.1 none)) (λ totals text some printed by. (by.0, some_failed report totals by.1 some))
    (λ totals by. tt) stopped explored ending is answer
  where
    stopped : (why : ExploreEnd) → IsAnswerTo report (Err why) → IsDecidedBy (DecidesCampaign report) (status_of_end why)
    stopped (end.FuelSpent plan) by = by
    stopped (end.BudgetSpent plan) by = by
    stopped end.LineFault by = tt
    stopped end.Memory by = tt

pub DecidesJob-explored : (job : TestJob) (told : Option Held) (inputs : CampaignInputs) (explored : Result Totals ExploreEnd) (ending : Ending)
    → IfSome told (λ held. inputs_of held job.services job.test job.faults ≡ Ok inputs)
    → IsAnswerTo (campaign_over job inputs) explored → IsEndingOf explored ending
    → IfSome told (λ held. IsDecidedBy (DecidesJob held (Test job)) (status_told ending))
DecidesJob-explored job None inputs explored ending accepted answer is = tt
DecidesJob-explored job (Some held) inputs explored ending accepted answer is =
    subst (λ read. IsDecidedBy (DecidesTest job read) (status_told ending)) (sym accepted)
    (DecidesCampaign-explored (campaign_over job inputs) explored ending answer is)

pub IsTextOf-explored : (job : TestJob) (told : Option Held) (inputs : CampaignInputs) (explored : Result Totals ExploreEnd) (ending : Ending)
    → IfSome told (λ held. inputs_of held job.services job.test job.faults ≡ Ok inputs)
    → IsAnswerTo (campaign_over job inputs) explored → IsEndingOf explored ending
    → IsTextOf (status_told ending) (Some (Test job)) told (text_told job.report ending)
IsTextOf-explored job told inputs explored ending accepted answer is =
    ended_by_campaign (λ e ended. IsAnswerTo report e → IsTextOf (status_told ended) (Some (Test job)) told (text_told job.report ended))
    (λ totals text none printed by. record { inputs = inputs; held = accepted; decides = (by.0, none_failed report totals by.1 none); printed = printed ∙ ap completed_text by.1 })
    (λ totals text some printed by. record { inputs = inputs; held = accepted; decides = (by.0, some_failed report totals by.1 some); printed = printed ∙ ap completed_text by.1 })
    (λ totals by. refl) stopped explored ending is answer
  where
    report : List CampaignLine
    report = campaign_over job inputs

    stopped : (why : ExploreEnd) → IsAnswerTo report (Err why) → IsTextOf (status_of_end why) (Some (Test job)) told (status_text job.report (status_of_end why))
    stopped (end.FuelSpent plan) by = refl
    stopped (end.BudgetSpent plan) by = refl
    stopped end.LineFault by = refl
    stopped end.Memory by = refl

-- ---- what is held

WritesFront-written : (report whole : List ℕ) (stop : Option PutError) (before after : Held) → Writes report whole stop before after
    → WritesFront report whole before after
WritesFront-written report whole None before after writes =
    record { here = inr (whole, ([], sym (append-nil whole)), writes.here); elsewhere = writes.elsewhere }
WritesFront-written report whole (Some error) before after (inl same) =
    record { here = inl (ap (λ (held : Held). held report) same); elsewhere = λ other differs. ap (λ (held : Held). held other) same }
WritesFront-written report whole (Some error) before after (inr front) =
    record { here = inr (front.0, front.1, front.2.here); elsewhere = front.2.elsewhere }

LeavesWhole-explored : (failed : Type 0) (report whole : List ℕ) (explored : Result Totals ExploreEnd) (ending : Ending) (before after : Held)
    → (IsErrOf explored end.LineFault → failed) → Writes report whole (stop_before_end explored) before after → IsEndingOf explored ending
    → LeavesWhole failed report whole (status_told ending) before after
LeavesWhole-explored failed report whole explored ending before after cause writes is =
    ended_by_campaign
    (λ e ended. (IsErrOf e end.LineFault → failed) → Writes report whole (stop_before_end e) before after → LeavesWhole failed report whole (status_told ended) before after)
    (λ totals text none printed has wrote. wrote.here) (λ totals text some printed has wrote. wrote.here) (λ totals has wrote. tt) stopped explored ending is cause writes
  where
    stopped : (why : ExploreEnd) → (IsErrOf {T = Totals} (Err why) end.LineFault → failed) → Writes report whole (stop_before_end {A = Totals} (Err why)) before after
        → LeavesWhole failed report whole (status_of_end why) before after
    stopped (end.FuelSpent plan) has wrote = wrote.here
    stopped (end.BudgetSpent plan) has wrote = wrote.here
    stopped end.LineFault has wrote = λ no_fault. absurd (no_fault (has refl))
    stopped end.Memory has wrote = tt

pub LeavesJob-explored : (failed : Type 0) (job : TestJob) (inputs : CampaignInputs) (explored : Result Totals ExploreEnd) (ending : Ending) (before after : Option Held)
    → IfSome before (λ held. inputs_of held job.services job.test job.faults ≡ Ok inputs) → (IsErrOf explored end.LineFault → failed)
    → IsWritten job inputs explored before after → IsEndingOf explored ending
    → BothTold (LeavesJob (Test job) failed (status_told ending)) before after
LeavesJob-explored failed job inputs explored ending before after accepted cause written is = there before after accepted written.content
  where
    there : (b a : Option Held) → IfSome b (λ held. inputs_of held job.services job.test job.faults ≡ Ok inputs)
        → BothTold (Writes job.report (report_of job inputs) (stop_before_end explored)) b a → BothTold (LeavesJob (Test job) failed (status_told ending)) b a
    there None None given writes = tt
    there (Some b) (Some a) given writes =
        subst (λ read. LeavesTest failed job read (status_told ending) b a) (sym given)
        (WritesFront-written job.report (report_of job inputs) (stop_before_end explored) b a writes, LeavesWhole-explored failed job.report (report_of job inputs) explored ending b a cause writes is)
    there None (Some a) given writes = absurd writes
    there (Some b) None given writes = absurd writes

TellsTruth-written : (job : TestJob) (inputs : CampaignInputs) (explored : Result Totals ExploreEnd) (ending : Ending) (before after : Held)
    → inputs_of before job.services job.test job.faults ≡ Ok inputs → Writes job.report (report_of job inputs) (stop_before_end explored) before after
    → IfOk explored (λ totals. IsTrueReport inputs.sources.services inputs.sources.test (choices_for inputs.faults) (report_of job inputs))
    → IsEndingOf explored ending → TellsTruth (Some (Test job)) (status_told ending) before after
TellsTruth-written job inputs explored ending before after accepted writes truth is =
    ended_by_campaign
    (λ e ended. Writes job.report (report_of job inputs) (stop_before_end e) before after
    → IfOk e (λ totals. IsTrueReport inputs.sources.services inputs.sources.test (choices_for inputs.faults) (report_of job inputs))
    → TellsTruth (Some (Test job)) (status_told ended) before after)
    (λ totals text none printed wrote true_report.
    record { inputs = inputs; are_accepted = accepted; bytes = report_of job inputs; held = wrote.here; truth = true_report })
    (λ totals text some printed wrote true_report.
    record { inputs = inputs; are_accepted = accepted; bytes = report_of job inputs; held = wrote.here; truth = true_report })
    (λ totals wrote true_report. tt) stopped explored ending is writes truth
  where
    stopped : (why : ExploreEnd) → Writes job.report (report_of job inputs) (stop_before_end {A = Totals} (Err why)) before after → Unit {0}
        → TellsTruth (Some (Test job)) (status_of_end why) before after
    stopped (end.FuelSpent plan) wrote none = tt
    stopped (end.BudgetSpent plan) wrote none = tt
    stopped end.LineFault wrote none = tt
    stopped end.Memory wrote none = tt

pub TellsTruth-explored : (job : TestJob) (inputs : CampaignInputs) (explored : Result Totals ExploreEnd) (ending : Ending) (before after : Option Held)
    → IfSome before (λ held. inputs_of held job.services job.test job.faults ≡ Ok inputs) → IsWritten job inputs explored before after
    → IsEndingOf explored ending → BothTold (TellsTruth (Some (Test job)) (status_told ending)) before after
TellsTruth-explored job inputs explored ending before after accepted written is = there before after accepted written.content
  where
    there : (b a : Option Held) → IfSome b (λ held. inputs_of held job.services job.test job.faults ≡ Ok inputs)
        → BothTold (Writes job.report (report_of job inputs) (stop_before_end explored)) b a → BothTold (TellsTruth (Some (Test job)) (status_told ending)) b a
    there None None given writes = tt
    there (Some b) (Some a) given writes = TellsTruth-written job inputs explored ending b a given writes written.truth is
    there None (Some a) given writes = absurd writes
    there (Some b) None given writes = absurd writes

-- ---- an input ended it

pub DecidesJob-unloaded : (job : TestJob) (told : Option Held) (status : Status) → EndsSources status
    → IfSome told (λ held. GivesInput inputs_seen (Err status) (inputs_of held job.services job.test job.faults))
    → IfSome told (λ held. IsDecidedBy (DecidesJob held (Test job)) status)
DecidesJob-unloaded job None status ends gives = tt
DecidesJob-unloaded job (Some held) status ends gives = known (inputs_of held job.services job.test job.faults) gives
  where
    known : (read : Result CampaignInputs Status) → GivesInput inputs_seen (Err status) read → IsDecidedBy (DecidesTest job read) status
    known read =
        ended_by_sources (λ s. GivesInput inputs_seen (Err s) read → IsDecidedBy (DecidesTest job read) s)
        (λ refusal other is. rw is refl) (λ failed is. tt) (λ is. tt) status ends

pub IsTextOf-untested : (job : TestJob) (told : Option Held) (status : Status) → EndsSources status
    → IsTextOf status (Some (Test job)) told (status_text job.report status)
IsTextOf-untested job told =
    ended_by_sources (λ status. IsTextOf status (Some (Test job)) told (status_text job.report status)) (λ refusal other. refl) (λ failed. refl) refl

-- nothing was written
LeavesTest-unloaded : (failed : Type 0) (job : TestJob) (read : Result CampaignInputs Status) (held : Held) (status : Status) → EndsSources status
    → LeavesTest failed job read status held held
LeavesTest-unloaded failed job (Err refusal) held status ends = refl
LeavesTest-unloaded failed job (Ok inputs) held status ends = (
  record { here = inl refl; elsewhere = λ other differs. refl },
  ended_by_sources (λ s. LeavesWhole failed job.report (report_of job inputs) s held held) (λ refusal other. refl) (λ role. refl) tt status ends,
)

pub LeavesJob-unloaded : (failed : Type 0) (job : TestJob) (told : Option Held) (status : Status) → EndsSources status
    → BothTold (LeavesJob (Test job) failed status) told told
LeavesJob-unloaded failed job None status ends = tt
LeavesJob-unloaded failed job (Some held) status ends = LeavesTest-unloaded failed job (inputs_of held job.services job.test job.faults) held status ends

pub TellsTruth-unloaded : (job : TestJob) (told : Option Held) (status : Status) → EndsSources status
    → BothTold (TellsTruth (Some (Test job)) status) told told
TellsTruth-unloaded job None status ends = tt
TellsTruth-unloaded job (Some held) status ends =
    ended_by_sources (λ s. TellsTruth (Some (Test job)) s held held) (λ refusal other. tt) (λ role. tt) tt status ends
