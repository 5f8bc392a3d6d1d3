use Rattle.std.proofs.Common.{◌≡◌, subst, refl}
use Rattle.fb_config.specs.Choices.{choices_for}
use Rattle.fb_verify.specs.declared.verdict.Verdict.TheVariants as verdict
use Rattle.fb_verify.specs.Verdicts.{IsVerdict}
use Rattle.fb_cli.specs.Checking.{OfVerdict, IsFound, report_seen}
use Rattle.fb_cli.proofs.check.ending_of.Goals as goal

pub returns-in-Ok-Yes : goal.returns-in-Ok-Yes
returns-in-Ok-Yes g c =
    let inputs = c.args.given.now.inputs in
    let told =
    subst (λ bytes. IsVerdict inputs.sources.program.tree inputs.sources.test.tree (choices_for inputs.faults) bytes c.in-Ok-Yes.field-0)
    c.as_slice-report.ensures.value c.in-Ok-Yes.ensures.verdict in
    OfVerdict (verdict.Yes c.in-Ok-Yes.totals) (subst (IsFound (report_seen c.args.given.now)) c.in-Ok-Yes.field-0-is told) c.printed.ensures

pub returns-in-Ok-No : goal.returns-in-Ok-No
returns-in-Ok-No g c =
    let inputs = c.args.given.now.inputs in
    let told =
    subst (λ bytes. IsVerdict inputs.sources.program.tree inputs.sources.test.tree (choices_for inputs.faults) bytes c.in-Ok-No.field-0)
    c.as_slice-report.ensures.value c.in-Ok-No.ensures.verdict in
    OfVerdict (verdict.No c.in-Ok-No.line c.in-Ok-No.rule) (subst (IsFound (report_seen c.args.given.now)) c.in-Ok-No.field-0-is told) refl
