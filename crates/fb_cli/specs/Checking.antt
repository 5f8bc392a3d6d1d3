-- The check of a report: its inputs, and how the report ends the command.
use Rattle.std.specs.Prelude.{◌≡◌, ℕ, true, List, Option, IfSome, Result, Ok, Err, string_bytes}
use Rattle.fb_base.specs.Results.{◌>>=◌}
use Rattle.fb_files.specs.Files.{Held}
use Rattle.fb_config.specs.Choices.{choices_for}
use Rattle.fb_valid.specs.Valid.{IsValid}
use Rattle.fb_valid.specs.Verdict.{BreaksFirst}
use Rattle.fb_tally.specs.declared.tally.Totals.{Totals}
use Rattle.fb_audit.specs.Rules.{rule_told}
use Rattle.fb_audit.specs.Concluded.{totals_of}
use Rattle.fb_verify.specs.declared.verdict.Verdict.{Verdict}
use Rattle.fb_verify.specs.declared.verdict.Verdict.TheVariants as verdict
use Rattle.fb_verify.specs.declared.verdict.Verdict.TheVariants.{Yes}
use Rattle.fb_verify.specs.Verdicts.{IsVerdict}
use Rattle.fb_job.specs.declared.job.CheckJob.{CheckJob}
use Rattle.fb_cli.specs.declared.check.CheckInputs.{CheckInputs}
use Rattle.fb_cli.specs.declared.status.Role.TheVariants as role
use Rattle.fb_cli.specs.declared.status.Status.{Status}
use Rattle.fb_cli.specs.declared.status.Status.TheVariants.{Good, No, Memory}
use Rattle.fb_cli.specs.declared.tell.Ending.{Ending}
use Rattle.fb_cli.specs.declared.tell.Ending.TheVariants.{Told, Printed}
use Rattle.fb_cli.specs.Inputs.{bytes_of}
use Rattle.fb_cli.specs.TestInputs.{CampaignInputs, inputs_of, inputs_seen}
use Rattle.fb_cli.specs.Texts.{valid_text}

-- what a report is checked against, and its bytes
pub record ReportInputs : Type 0 where
  pub inputs : CampaignInputs
  pub report : List ℕ

abbrev pub report_seen : CheckInputs → ReportInputs
report_seen given = record { inputs = inputs_seen given.inputs; report = given.report.items }

-- all inputs and the report, or the first refusal in the order of work
abbrev pub check_inputs_of : Held → CheckJob → Result ReportInputs Status
check_inputs_of held job = do
  inputs ← inputs_of held job.services job.test job.faults
  report ← bytes_of role.Report (held job.report)
  Ok (record { inputs = inputs; report = report })

-- what is found of the report
abbrev pub IsFound : ReportInputs → Verdict → Type 0
IsFound given verdict =
    IsVerdict given.inputs.sources.services given.inputs.sources.test (choices_for given.inputs.faults) given.report verdict

-- a report of these inputs is valid
abbrev pub IsValidReport : ReportInputs → Type 0
IsValidReport given = IsValid given.inputs.sources.services given.inputs.sources.test (choices_for given.inputs.faults) given.report

-- a valid report is good, and of another one the first line that breaks a rule is told, and the rule
abbrev pub DecidesReport : ReportInputs → Status → Type 0
DecidesReport given Good = IsValidReport given
DecidesReport given (No line rule) =
    BreaksFirst given.inputs.sources.services given.inputs.sources.test (choices_for given.inputs.faults) given.report line (rule_told rule)
DecidesReport given status = ⊥

-- so do the inputs, where they are accepted
abbrev pub DecidesCheck : Result ReportInputs Status → Status → Type 0
DecidesCheck (Err status) = λ answer. answer ≡ status
DecidesCheck (Ok given) = λ answer. DecidesReport given answer

-- ---- the end

-- the totals are printed, where there is memory for their text
abbrev pub PrintsValid : Totals → Ending → Type 0
PrintsValid totals (Printed passed text) = (passed ≡ true) × (string_bytes text ≡ valid_text totals)
PrintsValid totals (Told status) = status ≡ Memory

-- a verdict ends the command
abbrev pub TellsVerdict : Verdict → Ending → Type 0
TellsVerdict (Yes totals) ending = PrintsValid totals ending
TellsVerdict (verdict.No line rule) ending = ending ≡ Told (No line rule)

-- the command ends by what is found, or by want of memory
pub data IsEndingFound (given : ReportInputs) (ending : Ending) : Type 0 where
  OfVerdict : (verdict : Verdict) → IsFound given verdict → TellsVerdict verdict ending → IsEndingFound given ending
  OfMemory : ending ≡ Told Memory → IsEndingFound given ending

-- the totals of a valid report over the inputs, which are those that are held, where that is told
pub record IsValidText (job : CheckJob) (told : Option Held) (text : List ℕ) : Type 0 where
  pub given : ReportInputs
  pub held : IfSome told (λ files. check_inputs_of files job ≡ Ok given)
  pub valid : IsValidReport given
  pub printed : text ≡ valid_text (totals_of valid.lines)
