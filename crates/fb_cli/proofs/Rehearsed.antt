-- How a trial ends by what its texts and its campaign give.
use Rattle.std.proofs.Common.{◌≡◌, ℕ, true, false, List, [], ◌++◌, All, Option, Some, None, IsNone, Result, Ok, Err, refl, sym, ◌∙◌, ap, subst, arith, append-nil, lit≤}
use Rattle.std.specs.Option.{IfSome, option_map_or}
use Rattle.std.specs.Prelude.{string_bytes}
use Rattle.fb_syntax.specs.Trees.{ServicesTree, TestTree}
use Rattle.fb_check.specs.FirstRefusal.{first_refusal, first_refusal_of_test}
use Rattle.fb_check.specs.Programs.{kinds_given}
use Rattle.fb_files.specs.Files.{Held, Asked}
use Rattle.fb_index.specs.declared.fault.Fault.{Fault}
use Rattle.fb_config.specs.Choices.{choices_for}
use Rattle.fb_config.specs.Fitting.{IsChoiceTable}
use Rattle.fb_report.specs.declared.line.Line.{Line}
use Rattle.fb_report.specs.declared.totals.Totals.{Totals}
use Rattle.fb_reading.specs.Answers.{IsLine}
use Rattle.fb_campaign.specs.Reports.{Completed}
use Rattle.fb_functest.specs.Reading.{bytes_of}
use Rattle.fb_functest.specs.ReportLaws.{CampaignsAreInRange}
use Rattle.fb_valid.specs.Laws.{CompletedReportsAreValid}
use Rattle.fb_valid.specs.Valid.{IsValid}
use Rattle.fb_explore.specs.declared.end.ExploreEnd.{ExploreEnd}
use Rattle.fb_explore.specs.declared.end.ExploreEnd.TheVariants as end
use Rattle.fb_explore.specs.Ends.{EndsBy, counted, IsAnswerTo}
use Rattle.fb_explore.specs.Explored.{IsExplored}
use Rattle.std.specs.Prelude.{IsErrOf}
use Rattle.fb_job.specs.declared.job.Job.TheVariants.{Trial}
use Rattle.fb_cli.specs.declared.status.Refusal.{Refusal}
use Rattle.fb_cli.specs.declared.status.Role.{Role}
use Rattle.fb_cli.specs.declared.status.Role.TheVariants as role
use Rattle.fb_cli.specs.declared.status.Status.{Status}
use Rattle.fb_cli.specs.declared.status.Status.TheVariants.{Good, Failures, Usage, SameName, Refused, ReadFault, WriteFault, FuelSpent, BudgetSpent, NotMet, No, Memory}
use Rattle.fb_cli.specs.declared.tell.Ending.{Ending}
use Rattle.fb_cli.specs.declared.tell.Ending.TheVariants.{Told, Printed}
use Rattle.fb_cli.specs.Answers.{HasReadCause, HasWriteCause, IsDecidedBy, IsJobEnd, IsTextOf}
use Rattle.fb_cli.specs.Asking.{AsksFor, loads_of, names_until}
use Rattle.fb_cli.specs.Decision.{DecidesJob}
use Rattle.fb_cli.specs.Exploring.{status_of_end}
use Rattle.fb_cli.specs.Inputs.{limit_of}
use Rattle.fb_cli.specs.Loading.{EndsText, GivesInput}
use Rattle.fb_cli.specs.Telling.{status_told, text_told}
use Rattle.fb_cli.specs.TestInputs.{CampaignInputs, inputs_seen}
use Rattle.fb_cli.specs.Texts.{status_text, trial_text}
use Rattle.fb_cli.specs.Trials.{DecidesTrial, EndsGenerated, EndsTrial, IsTrialAnswer, IsTrialEnding, IsTrialText, PrintsTrial, generated_inputs, trial_campaign, trial_lines, trial_report, trial_settings}
use Rattle.fb_cli.proofs.Loaded.{LoadedSome-none}
use Rattle.fb_cli.proofs.Reports.{AreChoices-kinds, AreOfVersion-values, IsCompleted-ends}
use Rattle.fb_cli.proofs.Tested.{none_failed, some_failed}

-- ---- the inputs

pub EndsGenerated-text : (role : Role) (status : Status) → EndsText role status → EndsGenerated status
EndsGenerated-text role (Refused refusal) ends = tt
EndsGenerated-text role Memory ends = tt
EndsGenerated-text role Good ends = absurd ends
EndsGenerated-text role Failures ends = absurd ends
EndsGenerated-text role Usage ends = absurd ends
EndsGenerated-text role SameName ends = absurd ends
EndsGenerated-text role (ReadFault failed) ends = absurd ends
EndsGenerated-text role WriteFault ends = absurd ends
EndsGenerated-text role (FuelSpent plan) ends = absurd ends
EndsGenerated-text role (BudgetSpent plan) ends = absurd ends
EndsGenerated-text role (NotMet index) ends = absurd ends
EndsGenerated-text role (No line rule) ends = absurd ends

pub ended_generated : (P : Status → Type 0) → ((refusal : Refusal) → P (Refused refusal)) → P Memory → (status : Status) → EndsGenerated status → P status
ended_generated P refuses short (Refused refusal) ends = refuses refusal
ended_generated P refuses short Memory ends = short
ended_generated P refuses short Good ends = absurd ends
ended_generated P refuses short Failures ends = absurd ends
ended_generated P refuses short Usage ends = absurd ends
ended_generated P refuses short SameName ends = absurd ends
ended_generated P refuses short (ReadFault failed) ends = absurd ends
ended_generated P refuses short WriteFault ends = absurd ends
ended_generated P refuses short (FuelSpent plan) ends = absurd ends
ended_generated P refuses short (BudgetSpent plan) ends = absurd ends
ended_generated P refuses short (NotMet index) ends = absurd ends
ended_generated P refuses short (No line rule) ends = absurd ends

-- a step that is refused refuses what is read by it
pub GivesInput-step : {A B C D : Type 0} (view : A → B) (seen : C → D) (first : Result B Status) (whole : Result D Status) (status : Status) → EndsGenerated status
    → GivesInput view (Err status) first → ((why : Status) → first ≡ Err why → whole ≡ Err why) → GivesInput seen (Err status) whole
GivesInput-step view seen first whole status ends gives leads =
    ended_generated (λ s. GivesInput view (Err s) first → GivesInput seen (Err s) whole) (λ refusal is. leads (Refused refusal) is) (λ is. tt) status ends gives

-- ---- the report

trial_report-lines : (inputs : CampaignInputs) (lines : List Line) → trial_lines inputs ≡ Some lines → trial_report inputs ≡ bytes_of lines
unfolding trial_report
trial_report-lines inputs lines told = ap (λ found. option_map_or bytes_of found []) told

module _ (in_range : CampaignsAreInRange) (are_valid : CompletedReportsAreValid) (inputs : CampaignInputs)
    (services_accepted : IsNone (first_refusal inputs.sources.services))
    (test_accepted : IsNone (first_refusal_of_test inputs.sources.services inputs.sources.test))
    (kinds : inputs.faults.kinds ≡ kinds_given inputs.sources.services) (proper : IsChoiceTable inputs.faults)
    (totals : Totals) (bytes : List ℕ)
    (explored : IsExplored inputs.sources.services inputs.sources.test inputs.faults trial_settings (Ok totals) (Some []) (Some bytes)) where
  pub trial_report-is : trial_report inputs ≡ bytes
  trial_report-is = trial_report-lines inputs explored.lines explored.told ∙ sym explored.put

  pub IsValid-trial : IsValid inputs.sources.services inputs.sources.test (choices_for inputs.faults) bytes
  IsValid-trial =
      let services = inputs.sources.services in
      let test = inputs.sources.test in
      let version = inputs.faults.version in
      let choices = choices_for inputs.faults in
      let ranges = in_range services test choices version trial_settings explored.lines proper.version (AreOfVersion-values inputs.faults proper.values) (lit≤ tt) (lit≤ tt) explored.told in
      let each_proper = explored.proper refl in
      let each : All IsLine explored.lines = λ k d inside. (each_proper k d inside, ranges k d inside) in
      subst (IsValid services test choices) (sym explored.put)
      (are_valid services test services_accepted test_accepted choices (AreChoices-kinds services inputs.faults kinds proper.choices) version trial_settings explored.lines
      (IsCompleted-ends (trial_campaign inputs) explored.answer.0) explored.told each)

-- ---- the end

pub IsTrialEnding-printed : (inputs : CampaignInputs) (totals : Totals) (ending : Ending) → IsAnswerTo (trial_campaign inputs) (Ok totals)
    → IsValid inputs.sources.services inputs.sources.test (choices_for inputs.faults) (trial_report inputs)
    → PrintsTrial totals ending → IsTrialEnding inputs ending
IsTrialEnding-printed inputs totals (Printed true text) answer valid is =
    record {
      decides = (answer.0, none_failed (trial_campaign inputs) totals answer.1 (grind (arith, is.0)));
      valid = valid;
      printed = is.1 ∙ ap trial_text answer.1;
    }
IsTrialEnding-printed inputs totals (Printed false text) answer valid is =
    record {
      decides = (answer.0, some_failed (trial_campaign inputs) totals answer.1 (grind (arith, is.0)));
      valid = valid;
      printed = is.1 ∙ ap trial_text answer.1;
    }
IsTrialEnding-printed inputs totals (Told status) answer valid is = subst (λ s. IsTrialEnding inputs (Told s)) (sym is) tt

pub IsTrialEnding-stopped : (inputs : CampaignInputs) (why : ExploreEnd) → IsAnswerTo (trial_campaign inputs) (Err why)
    → ¬ IsErrOf {T = Totals} (Err why) end.LineFault → IsTrialEnding inputs (Told (status_of_end why))
IsTrialEnding-stopped inputs (end.FuelSpent plan) answer kept = answer
IsTrialEnding-stopped inputs (end.BudgetSpent plan) answer kept = answer
IsTrialEnding-stopped inputs end.LineFault answer kept = absurd (kept refl)
IsTrialEnding-stopped inputs end.Memory answer kept = tt

pub EndsTrial-ended : (inputs : CampaignInputs) (ending : Ending) → IsTrialEnding inputs ending → EndsTrial (status_told ending)
EndsTrial-ended inputs (Printed true text) is = tt
EndsTrial-ended inputs (Printed false text) is = tt
EndsTrial-ended inputs (Told (FuelSpent plan)) is = tt
EndsTrial-ended inputs (Told (BudgetSpent plan)) is = tt
EndsTrial-ended inputs (Told Memory) is = tt
EndsTrial-ended inputs (Told Good) is = absurd is
EndsTrial-ended inputs (Told Failures) is = absurd is
EndsTrial-ended inputs (Told Usage) is = absurd is
EndsTrial-ended inputs (Told SameName) is = absurd is
EndsTrial-ended inputs (Told (Refused refusal)) is = absurd is
EndsTrial-ended inputs (Told (ReadFault failed)) is = absurd is
EndsTrial-ended inputs (Told WriteFault) is = absurd is
EndsTrial-ended inputs (Told (NotMet index)) is = absurd is
EndsTrial-ended inputs (Told (No line rule)) is = absurd is

decides-given : (number size : ℕ) (inputs : CampaignInputs) (status : Status) → generated_inputs number size ≡ Ok inputs
    → DecidesTrial (Ok inputs) status → DecidesTrial (generated_inputs number size) status
decides-given number size inputs status given decides = subst (λ read. DecidesTrial read status) (sym given) decides

pub IsTrialAnswer-ended : (number size : ℕ) (inputs : CampaignInputs) (ending : Ending) → generated_inputs number size ≡ Ok inputs
    → IsTrialEnding inputs ending → IsTrialAnswer ⊥ number size (status_told ending)
IsTrialAnswer-ended number size inputs (Printed true text) given is = decides-given number size inputs Good given is.decides
IsTrialAnswer-ended number size inputs (Printed false text) given is = decides-given number size inputs Failures given is.decides
IsTrialAnswer-ended number size inputs (Told (FuelSpent plan)) given is = decides-given number size inputs (FuelSpent plan) given is
IsTrialAnswer-ended number size inputs (Told (BudgetSpent plan)) given is = decides-given number size inputs (BudgetSpent plan) given is
IsTrialAnswer-ended number size inputs (Told Memory) given is = tt
IsTrialAnswer-ended number size inputs (Told Good) given is = absurd is
IsTrialAnswer-ended number size inputs (Told Failures) given is = absurd is
IsTrialAnswer-ended number size inputs (Told Usage) given is = absurd is
IsTrialAnswer-ended number size inputs (Told SameName) given is = absurd is
IsTrialAnswer-ended number size inputs (Told (Refused refusal)) given is = absurd is
IsTrialAnswer-ended number size inputs (Told (ReadFault failed)) given is = absurd is
IsTrialAnswer-ended number size inputs (Told WriteFault) given is = absurd is
IsTrialAnswer-ended number size inputs (Told (NotMet index)) given is = absurd is
IsTrialAnswer-ended number size inputs (Told (No line rule)) given is = absurd is

pub IsTextOf-ended : (number size : ℕ) (inputs : CampaignInputs) (ending : Ending) (held : Option Held) → generated_inputs number size ≡ Ok inputs
    → IsTrialEnding inputs ending → IsTextOf (status_told ending) (Some (Trial number size)) held (text_told [] ending)
IsTextOf-ended number size inputs (Printed true text) held given is = record { inputs = inputs; generated = given; trial = is }
IsTextOf-ended number size inputs (Printed false text) held given is = record { inputs = inputs; generated = given; trial = is }
IsTextOf-ended number size inputs (Told (FuelSpent plan)) held given is = refl
IsTextOf-ended number size inputs (Told (BudgetSpent plan)) held given is = refl
IsTextOf-ended number size inputs (Told Memory) held given is = refl
IsTextOf-ended number size inputs (Told Good) held given is = absurd is
IsTextOf-ended number size inputs (Told Failures) held given is = absurd is
IsTextOf-ended number size inputs (Told Usage) held given is = absurd is
IsTextOf-ended number size inputs (Told SameName) held given is = absurd is
IsTextOf-ended number size inputs (Told (Refused refusal)) held given is = absurd is
IsTextOf-ended number size inputs (Told (ReadFault failed)) held given is = absurd is
IsTextOf-ended number size inputs (Told WriteFault) held given is = absurd is
IsTextOf-ended number size inputs (Told (NotMet index)) held given is = absurd is
IsTextOf-ended number size inputs (Told (No line rule)) held given is = absurd is

-- ---- the texts ended it

pub EndsTrial-ungenerated : (status : Status) → EndsGenerated status → EndsTrial status
EndsTrial-ungenerated = ended_generated EndsTrial (λ refusal. tt) tt

pub IsTrialAnswer-ungenerated : (number size : ℕ) (status : Status) → EndsGenerated status → GivesInput inputs_seen (Err status) (generated_inputs number size)
    → IsTrialAnswer ⊥ number size status
IsTrialAnswer-ungenerated number size status ends gives =
    ended_generated (λ s. GivesInput inputs_seen (Err s) (generated_inputs number size) → IsTrialAnswer ⊥ number size s)
    (λ refusal is. subst (λ read. DecidesTrial read (Refused refusal)) (sym is) refl) (λ is. tt) status ends gives

pub IsTextOf-ungenerated : (number size : ℕ) (held : Option Held) (status : Status) → EndsGenerated status
    → IsTextOf status (Some (Trial number size)) held (status_text [] status)
IsTextOf-ungenerated number size held =
    ended_generated (λ s. IsTextOf s (Some (Trial number size)) held (status_text [] s)) (λ refusal. refl) refl

-- ---- for the top call

pub ended_as_trial : (P : Status → Type 0) → P Good → P Failures → ((refusal : Refusal) → P (Refused refusal)) → ((plan : List Fault) → P (FuelSpent plan))
    → ((plan : List Fault) → P (BudgetSpent plan)) → P Memory → (status : Status) → EndsTrial status → P status
ended_as_trial P good failures refuses spent out_of_budget short Good ends = good
ended_as_trial P good failures refuses spent out_of_budget short Failures ends = failures
ended_as_trial P good failures refuses spent out_of_budget short (Refused refusal) ends = refuses refusal
ended_as_trial P good failures refuses spent out_of_budget short (FuelSpent plan) ends = spent plan
ended_as_trial P good failures refuses spent out_of_budget short (BudgetSpent plan) ends = out_of_budget plan
ended_as_trial P good failures refuses spent out_of_budget short Memory ends = short
ended_as_trial P good failures refuses spent out_of_budget short Usage ends = absurd ends
ended_as_trial P good failures refuses spent out_of_budget short SameName ends = absurd ends
ended_as_trial P good failures refuses spent out_of_budget short (ReadFault failed) ends = absurd ends
ended_as_trial P good failures refuses spent out_of_budget short WriteFault ends = absurd ends
ended_as_trial P good failures refuses spent out_of_budget short (NotMet index) ends = absurd ends
ended_as_trial P good failures refuses spent out_of_budget short (No line rule) ends = absurd ends

pub IsJobEnd-trial : (status : Status) → EndsTrial status → IsJobEnd status
IsJobEnd-trial = ended_as_trial IsJobEnd tt tt (λ refusal. tt) (λ plan. tt) (λ plan. tt) tt

pub HasReadCause-trial : (cause : Type 0) (status : Status) → EndsTrial status → HasReadCause cause status
HasReadCause-trial cause = ended_as_trial (HasReadCause cause) tt tt (λ refusal. tt) (λ plan. tt) (λ plan. tt) tt

pub HasWriteCause-trial : (cause : Type 0) (status : Status) → EndsTrial status → HasWriteCause cause ⊥ status
HasWriteCause-trial cause = ended_as_trial (HasWriteCause cause ⊥) tt tt (λ refusal. tt) (λ plan. tt) (λ plan. tt) tt

pub IsDecidedBy-trial : (number size : ℕ) (status : Status) → EndsTrial status → IsTrialAnswer ⊥ number size status
    → IsDecidedBy (DecidesTrial (generated_inputs number size)) status
IsDecidedBy-trial number size =
    ended_as_trial (λ s. IsTrialAnswer ⊥ number size s → IsDecidedBy (DecidesTrial (generated_inputs number size)) s)
    (λ a. a) (λ a. a) (λ refusal a. a) (λ plan a. a) (λ plan a. a) (λ a. tt)

-- it loads nothing
names_until-none : (number size : ℕ) (role : Role) → names_until role (Trial number size) ≡ []
names_until-none number size role.Services = refl
names_until-none number size role.Test = refl
names_until-none number size role.Faults = refl
names_until-none number size role.Report = refl
names_until-none number size role.Plan = refl

pub AsksFor-trial : (number size : ℕ) (asked : Asked) (status : Status) → EndsTrial status → AsksFor (Trial number size) ⊥ status asked asked
AsksFor-trial number size asked =
    let none = sym (append-nil asked) in
    ended_as_trial (λ s. AsksFor (Trial number size) ⊥ s asked asked) none none
    (λ refusal. none ∙ ap (λ names. asked ++ loads_of names false) (sym (names_until-none number size refusal.role))) (λ plan. none) (λ plan. none)
    (LoadedSome-none (Trial number size) (Unit {0}) asked asked refl)

pub DecidesJob-trial : (number size : ℕ) (told : Option Held) (status : Status) → EndsTrial status → IsTrialAnswer ⊥ number size status
    → IfSome told (λ held. IsDecidedBy (DecidesJob held (Trial number size)) status)
DecidesJob-trial number size None status ends answers = tt
DecidesJob-trial number size (Some held) status ends answers = IsDecidedBy-trial number size status ends answers
