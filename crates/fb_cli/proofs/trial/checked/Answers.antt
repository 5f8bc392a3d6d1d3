use Rattle.std.proofs.Common.{◌≡◌, ◌∙◌, refl, sym, subst, IsNone, List, ℕ}
use Rattle.fb_syntax.specs.Trees.{ServicesTree}
use Rattle.fb_check.specs.FirstRefusal.{first_refusal_of_test}
use Rattle.fb_config.specs.Choices.{choices_for}
use Rattle.fb_config.specs.Fitting.{IsChoiceTable}
use Rattle.fb_audit.specs.Rules.{rule_told}
use Rattle.fb_functest.specs.Reading.{bytes_of}
use Rattle.fb_valid.specs.Valid.{IsValid}
use Rattle.fb_verify.specs.Verdicts.{IsVerdict}
use Rattle.fb_cli.specs.TestInputs.{inputs_seen}
use Rattle.fb_cli.proofs.Rehearsed.{IsTrialEnding-printed, IsValid-trial, trial_report-is}
use Rattle.fb_cli.proofs.trial.checked.Goals as goal

pub returns-in-Ok-Yes : goal.returns-in-Ok-Yes
returns-in-Ok-Yes g c =
    let inputs = inputs_seen c.args.inputs.now in
    let program = c.args.inputs.now.sources.program in
    let test = c.args.inputs.now.sources.test in
    let accepted : IsNone (first_refusal_of_test program.tree test.tree) =
    subst (λ (services : ServicesTree). IsNone (first_refusal_of_test services test.tree)) c.requires.made test.accepted in
    let table : IsChoiceTable c.args.inputs.now.faults = record {
      choices = c.proper.ensures.choices;
      counted = c.proper.ensures.counted;
      version = c.proper.ensures.version;
      values = c.proper.ensures.values;
    } in
    let written : List ℕ = bytes_of c.args.lines.now.lines in
    let valid =
    IsValid-trial c.campaigns_have_lines.ensures.in_range c.completed_reports_are_valid.ensures inputs program.accepted accepted c.requires.kinds table
    c.args.totals.now written c.requires.explored in
    let same =
    trial_report-is c.campaigns_have_lines.ensures.in_range c.completed_reports_are_valid.ensures inputs program.accepted accepted c.requires.kinds table
    c.args.totals.now written c.requires.explored in
    IsTrialEnding-printed inputs c.args.totals.now c.printed.result c.requires.explored.answer
    (subst (IsValid program.tree test.tree (choices_for c.args.inputs.now.faults)) (sym same) valid) c.printed.ensures

pub returns-in-Ok-No : goal.returns-in-Ok-No
returns-in-Ok-No g c =
    let inputs = inputs_seen c.args.inputs.now in
    let program = c.args.inputs.now.sources.program in
    let test = c.args.inputs.now.sources.test in
    let choices = choices_for c.args.inputs.now.faults in
    let accepted : IsNone (first_refusal_of_test program.tree test.tree) =
    subst (λ (services : ServicesTree). IsNone (first_refusal_of_test services test.tree)) c.requires.made test.accepted in
    let table : IsChoiceTable c.args.inputs.now.faults = record {
      choices = c.proper.ensures.choices;
      counted = c.proper.ensures.counted;
      version = c.proper.ensures.version;
      values = c.proper.ensures.values;
    } in
    let written : List ℕ = bytes_of c.args.lines.now.lines in
    let valid =
    IsValid-trial c.campaigns_have_lines.ensures.in_range c.completed_reports_are_valid.ensures inputs program.accepted accepted c.requires.kinds table
    c.args.totals.now written c.requires.explored in
    let same : c.as_slice-report.result.now ≡ written =
    c.as_slice-report.ensures.value ∙ c.in-Ok.ensures ∙ subst (λ lines. bytes_of c.lines.result.now ≡ bytes_of lines) c.lines.ensures.lines refl in
    let told =
    subst (λ bytes. IsVerdict program.tree test.tree choices bytes c.in-Ok-No.field-0) same c.in-Ok-No.ensures.verdict in
    let broken = subst (IsVerdict program.tree test.tree choices written) c.in-Ok-No.field-0-is told in
    c.one_line_breaks_first.ensures.valid program.tree test.tree choices written c.in-Ok-No.line (rule_told c.in-Ok-No.rule) valid broken
