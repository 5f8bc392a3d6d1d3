use Rattle.fb_base.specs.Count.{Rose}
use Rattle.fb_cli.specs.Checking.{report_seen}
use Rattle.fb_cli.proofs.TellingBoth.{BothTold-weaker}
use Rattle.fb_cli.proofs.Reports.{AreChoices-kinds}
use Rattle.fb_cli.proofs.Checked.{AsksFor-found, DecidesCheck-found, DecidesCheck-unloaded, IsTextOf-found, IsTextOf-unchecked, TellsTruth-found, TellsTruth-unchecked, ended_by_report}
use Rattle.fb_cli.specs.Answers.{IsJobEnd, HasReadCause, HasWriteCause}
use Rattle.fb_cli.specs.Telling.{status_told}
use Rattle.fb_cli.proofs.check.check.Goals as goal

pub returns-in-Ok-clause-ends : goal.returns-in-Ok-clause-ends
returns-in-Ok-clause-ends g c =
    ended_by_report (report_seen c.in-Ok.given) (λ ended. IsJobEnd (status_told ended)) (λ text totals found printed. tt) (λ line rule found. tt) tt c.ending_of.result c.ending_of.ensures

pub returns-in-Ok-clause-decided : goal.returns-in-Ok-clause-decided
returns-in-Ok-clause-decided g c =
    DecidesCheck-found c.args.job.now (g.F.Files.held c.args.files.now) (report_seen c.in-Ok.given) c.ending_of.result c.in-Ok.ensures.content c.ending_of.ensures

pub returns-in-Ok-clause-text : goal.returns-in-Ok-clause-text
returns-in-Ok-clause-text g c =
    IsTextOf-found c.args.job.now (g.F.Files.held c.args.files.now) (report_seen c.in-Ok.given) c.ending_of.result c.in-Ok.ensures.content c.ending_of.ensures

pub returns-in-Ok-clause-read_fault : goal.returns-in-Ok-clause-read_fault
returns-in-Ok-clause-read_fault g c =
    ended_by_report (report_seen c.in-Ok.given) (λ ended. HasReadCause (Rose (g.F.Files.faults c.args.files.now) (g.F.Files.faults c.load_check_inputs.new.files)) (status_told ended)) (λ text totals found printed. tt) (λ line rule found. tt) tt c.ending_of.result
    c.ending_of.ensures

pub returns-in-Ok-clause-write_fault : goal.returns-in-Ok-clause-write_fault
returns-in-Ok-clause-write_fault g c =
    ended_by_report (report_seen c.in-Ok.given) (λ ended. HasWriteCause ⊥ ⊥ (status_told ended)) (λ text totals found printed. tt) (λ line rule found. tt) tt c.ending_of.result
    c.ending_of.ensures

pub returns-in-Ok-clause-asked : goal.returns-in-Ok-clause-asked
returns-in-Ok-clause-asked g c =
    BothTold-weaker (g.F.Files.asked c.args.files.now) (g.F.Files.asked c.load_check_inputs.new.files)
    (λ before after. AsksFor-found c.args.job.now (report_seen c.in-Ok.given) c.ending_of.result before after c.ending_of.ensures)
    c.in-Ok.ensures.asks

pub returns-in-Ok-clause-truth : goal.returns-in-Ok-clause-truth
returns-in-Ok-clause-truth g c =
    rw c.in-Ok.ensures.held
    (TellsTruth-found c.valid_reports_are_true.ensures c.args.job.now (g.F.Files.held c.args.files.now) (report_seen c.in-Ok.given) c.ending_of.result
    (AreChoices-kinds c.in-Ok.given.inputs.sources.program.tree c.in-Ok.given.inputs.faults c.in-Ok.ensures.kinds c.proper.ensures.choices)
    c.in-Ok.ensures.content c.ending_of.ensures)

pub returns-in-Err-clause-decided : goal.returns-in-Err-clause-decided
returns-in-Err-clause-decided g c =
    DecidesCheck-unloaded c.args.job.now (g.F.Files.held c.args.files.now) c.in-Err.status c.in-Err.ensures.ends c.in-Err.ensures.content

pub returns-in-Err-clause-text : goal.returns-in-Err-clause-text
returns-in-Err-clause-text g c = IsTextOf-unchecked c.args.job.now (g.F.Files.held c.args.files.now) c.in-Err.status c.in-Err.ensures.ends

pub returns-in-Err-clause-asked : goal.returns-in-Err-clause-asked
returns-in-Err-clause-asked g c = c.in-Err.ensures.asks

pub returns-in-Err-clause-truth : goal.returns-in-Err-clause-truth
returns-in-Err-clause-truth g c =
    rw c.in-Err.ensures.held (TellsTruth-unchecked c.args.job.now (g.F.Files.held c.args.files.now) c.in-Err.status c.in-Err.ensures.ends)
