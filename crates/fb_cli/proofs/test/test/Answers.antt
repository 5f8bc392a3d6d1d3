use Rattle.fb_base.specs.Count.{Rose}
use Rattle.fb_cli.specs.TestInputs.{inputs_seen}
use Rattle.fb_cli.specs.Answers.{IsJobEnd, HasReadCause}
use Rattle.fb_cli.proofs.TellingBoth.{BothTold-weaker}
use Rattle.fb_cli.proofs.Completed.{Completes-explored, Completes-unloaded}
use Rattle.fb_cli.proofs.Loads.{ReadsInputs-test}
use Rattle.fb_cli.proofs.Reports.{AreChoices-kinds}
use Rattle.fb_cli.proofs.Tested.{ended_with, Rose-later, AsksFor-explored, HasWriteCause-explored, DecidesJob-explored, IsTextOf-explored, LeavesJob-explored, TellsTruth-explored, DecidesJob-unloaded, IsTextOf-untested, LeavesJob-unloaded, TellsTruth-unloaded}
use Rattle.fb_cli.proofs.test.test.Goals as goal

pub returns-in-Ok-clause-ends : goal.returns-in-Ok-clause-ends
returns-in-Ok-clause-ends g c =
    ended_with IsJobEnd tt tt (λ plan. tt) (λ plan. tt) tt tt c.write_report-explored.result c.ending_of.result c.ending_of.ensures

pub returns-in-Ok-clause-decided : goal.returns-in-Ok-clause-decided
returns-in-Ok-clause-decided g c =
    DecidesJob-explored c.args.job.now (g.F.Files.held c.args.files.now) (inputs_seen c.in-Ok.inputs) c.write_report-explored.result c.ending_of.result
    c.in-Ok.ensures.content c.write_report-explored.ensures.written.answer c.ending_of.ensures

pub returns-in-Ok-clause-text : goal.returns-in-Ok-clause-text
returns-in-Ok-clause-text g c =
    IsTextOf-explored c.args.job.now (g.F.Files.held c.args.files.now) (inputs_seen c.in-Ok.inputs) c.write_report-explored.result c.ending_of.result
    c.in-Ok.ensures.content c.write_report-explored.ensures.written.answer c.ending_of.ensures

pub returns-in-Ok-clause-read_fault : goal.returns-in-Ok-clause-read_fault
returns-in-Ok-clause-read_fault g c =
    ended_with (HasReadCause _) tt tt (λ plan. tt) (λ plan. tt) tt tt c.write_report-explored.result c.ending_of.result c.ending_of.ensures

pub returns-in-Ok-clause-write_fault : goal.returns-in-Ok-clause-write_fault
returns-in-Ok-clause-write_fault g c =
    HasWriteCause-explored (Rose (g.F.Files.faults c.args.files.now) (g.F.Files.faults c.write_report-explored.new.files)) c.write_report-explored.result
    c.ending_of.result
    (λ stopped. Rose-later (g.F.Files.faults c.args.files.now) (g.F.Files.faults c.load_inputs.new.files) (g.F.Files.faults c.write_report-explored.new.files)
    c.in-Ok.ensures.count (c.write_report-explored.ensures.cause stopped))
    c.ending_of.ensures

pub returns-in-Ok-clause-asked : goal.returns-in-Ok-clause-asked
returns-in-Ok-clause-asked g c =
    rw c.write_report-explored.ensures.asked
    (BothTold-weaker (g.F.Files.asked c.args.files.now) (g.F.Files.asked c.load_inputs.new.files)
    (λ before after. AsksFor-explored c.args.job.now c.write_report-explored.result c.ending_of.result before after c.ending_of.ensures)
    (c.in-Ok.ensures.asks _ (ReadsInputs-test c.args.job.now)))

pub returns-in-Ok-clause-held : goal.returns-in-Ok-clause-held
returns-in-Ok-clause-held g c =
    LeavesJob-explored (Rose (g.F.Files.faults c.args.files.now) (g.F.Files.faults c.write_report-explored.new.files)) c.args.job.now (inputs_seen c.in-Ok.inputs)
    c.write_report-explored.result c.ending_of.result (g.F.Files.held c.args.files.now) (g.F.Files.held c.write_report-explored.new.files)
    c.in-Ok.ensures.content
    (λ stopped. Rose-later (g.F.Files.faults c.args.files.now) (g.F.Files.faults c.load_inputs.new.files) (g.F.Files.faults c.write_report-explored.new.files)
    c.in-Ok.ensures.count (c.write_report-explored.ensures.cause stopped))
    (rw c.in-Ok.ensures.held at c.write_report-explored.ensures.written) c.ending_of.ensures

pub returns-in-Ok-clause-truth : goal.returns-in-Ok-clause-truth
returns-in-Ok-clause-truth g c =
    TellsTruth-explored c.args.job.now (inputs_seen c.in-Ok.inputs)
    c.write_report-explored.result c.ending_of.result (g.F.Files.held c.args.files.now) (g.F.Files.held c.write_report-explored.new.files)
    c.in-Ok.ensures.content (rw c.in-Ok.ensures.held at c.write_report-explored.ensures.written) c.ending_of.ensures

pub returns-in-Err-clause-decided : goal.returns-in-Err-clause-decided
returns-in-Err-clause-decided g c =
    DecidesJob-unloaded c.args.job.now (g.F.Files.held c.args.files.now) c.in-Err.status c.in-Err.ensures.ends c.in-Err.ensures.content

pub returns-in-Err-clause-text : goal.returns-in-Err-clause-text
returns-in-Err-clause-text g c = IsTextOf-untested c.args.job.now (g.F.Files.held c.args.files.now) c.in-Err.status c.in-Err.ensures.ends

pub returns-in-Err-clause-asked : goal.returns-in-Err-clause-asked
returns-in-Err-clause-asked g c = c.in-Err.ensures.asks _ (ReadsInputs-test c.args.job.now)

pub returns-in-Err-clause-held : goal.returns-in-Err-clause-held
returns-in-Err-clause-held g c =
    rw c.in-Err.ensures.held
    (LeavesJob-unloaded (Rose (g.F.Files.faults c.args.files.now) (g.F.Files.faults c.load_inputs.new.files)) c.args.job.now (g.F.Files.held c.args.files.now)
    c.in-Err.status c.in-Err.ensures.ends)

pub returns-in-Err-clause-truth : goal.returns-in-Err-clause-truth
returns-in-Err-clause-truth g c =
    rw c.in-Err.ensures.held (TellsTruth-unloaded c.args.job.now (g.F.Files.held c.args.files.now) c.in-Err.status c.in-Err.ensures.ends)

pub returns-in-Ok-clause-completes : goal.returns-in-Ok-clause-completes
returns-in-Ok-clause-completes g c =
    let services = c.in-Ok.inputs.sources.program.tree in
    let test = c.in-Ok.inputs.sources.test.tree in
    Completes-explored c.budgets_suffice.ensures.records c.budgets_suffice.ensures.plans c.args.job.now (inputs_seen c.in-Ok.inputs)
    (c.our_runs_are_lawful.ensures services test)
    (AreChoices-kinds services c.in-Ok.inputs.faults c.in-Ok.ensures.kinds c.proper.ensures.choices)
    (g.F.Files.held c.args.files.now) c.write_report-explored.result c.ending_of.result
    c.in-Ok.ensures.content c.write_report-explored.ensures.written.answer c.ending_of.ensures

pub returns-in-Err-clause-completes : goal.returns-in-Err-clause-completes
returns-in-Err-clause-completes g c = Completes-unloaded c.args.job.now (g.F.Files.held c.args.files.now) c.in-Err.status c.in-Err.ensures.ends
