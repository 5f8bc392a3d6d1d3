use Rattle.std.proofs.Common.{ℕ}
use Rattle.std.proofs.lemmas.Result.{err_from_is_err_and}
use Rattle.std.specs.Global.{Vec}
use Rattle.fb_cli.specs.declared.status.Role.TheVariants as role
use Rattle.fb_cli.specs.declared.check.CheckInputs.{CheckInputs}
use Rattle.fb_cli.specs.TestInputs.{inputs_seen}
use Rattle.fb_cli.proofs.TellingBoth.{BothTold-composed}
use Rattle.fb_cli.proofs.Loads.{AsksFor-report, loads_of_check, ReadsInputs-check}
use Rattle.fb_cli.proofs.Replayed.{EndsSources-input}
use Rattle.fb_cli.proofs.Checked.{GivesInput-checked, GivesInput-no_inputs, GivesInput-no_report, cause-later}
use Rattle.fb_cli.proofs.check.load_check_inputs.Goals as goal

pub returns-in_err-inputs-clause-asks : goal.returns-in_err-inputs-clause-asks
returns-in_err-inputs-clause-asks g c =
    let p = err_from_is_err_and c.from_residual.result c.from_residual.ensures.1 in
    rw (p.1, p.2) (c.in_err-inputs.ensures.asks _ (ReadsInputs-check c.args.job.now))

pub returns-in_err-report-clause-content : goal.returns-in_err-report-clause-content
returns-in_err-report-clause-content g c =
    let p = err_from_is_err_and c.from_residual-in_err-report.result c.from_residual-in_err-report.ensures.1 in
    rw (p.1, p.2)
    (GivesInput-no_report (g.F.Files.held c.args.files.now) c.args.job.now (inputs_seen c.in_ok-inputs.inputs) _
    (EndsSources-input role.Report _ (λ same. cc) c.in_err-report.ensures.ends)
    c.in_ok-inputs.ensures.content (rw c.in_ok-inputs.ensures.held at c.in_err-report.ensures.content))

pub returns-in_err-report-clause-asks : goal.returns-in_err-report-clause-asks
returns-in_err-report-clause-asks g c =
    let p = err_from_is_err_and c.from_residual-in_err-report.result c.from_residual-in_err-report.ensures.1 in
    rw (p.1, p.2)
    (BothTold-composed (g.F.Files.asked c.args.files.now) (g.F.Files.asked c.load_inputs.new.files) (g.F.Files.asked c.load_bytes.new.files)
    (λ before middle after first asks. AsksFor-report (Vec ℕ) c.args.job.now _ before middle after first c.in_err-report.ensures.ends asks)
    (c.in_ok-inputs.ensures.asks _ (ReadsInputs-check c.args.job.now)) c.in_err-report.ensures.asks)

pub returns-in_err-report-clause-cause : goal.returns-in_err-report-clause-cause
returns-in_err-report-clause-cause g c =
    let p = err_from_is_err_and c.from_residual-in_err-report.result c.from_residual-in_err-report.ensures.1 in
    rw (p.1, p.2)
    (cause-later (Vec ℕ) CheckInputs (g.F.Files.faults c.args.files.now) (g.F.Files.faults c.load_inputs.new.files) (g.F.Files.faults c.load_bytes.new.files) _
    (EndsSources-input role.Report _ (λ same. cc) c.in_err-report.ensures.ends) c.in_ok-inputs.ensures.count c.in_err-report.ensures.cause)

pub returns-clause-asks : goal.returns-clause-asks
returns-clause-asks g c =
    BothTold-composed (g.F.Files.asked c.args.files.now) (g.F.Files.asked c.load_inputs.new.files) (g.F.Files.asked c.load_bytes.new.files)
    (λ before middle after first asks. loads_of_check c.args.job.now before middle after first asks)
    (c.in_ok-inputs.ensures.asks _ (ReadsInputs-check c.args.job.now)) c.in_ok-report.ensures.asks

pub returns-clause-content : goal.returns-clause-content
returns-clause-content g c =
    GivesInput-checked (g.F.Files.held c.args.files.now) c.args.job.now (inputs_seen c.in_ok-inputs.inputs) c.in_ok-report.report.items
    c.in_ok-inputs.ensures.content (rw c.in_ok-inputs.ensures.held at c.in_ok-report.ensures.content)
