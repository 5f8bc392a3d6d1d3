use Rattle.fb_base.specs.Count.{Rose}
use Rattle.fb_job.specs.declared.job.Job.TheVariants.{Replay}
use Rattle.fb_cli.specs.Sources.{trees_of}
use Rattle.fb_cli.specs.Answers.{IsJobEnd, HasReadCause, HasWriteCause}
use Rattle.fb_cli.proofs.TellingBoth.{BothTold-weaker}
use Rattle.fb_cli.proofs.Loads.{ReadsBoth-replay}
use Rattle.fb_cli.proofs.Replayed.{ended_by_run, AsksFor-run, AnswersText-run, AnswersText-unloaded, DecidesPlan-replayed, DecidesPlan-unloaded, IsTextOf-replayed, IsTextOf-unloaded}
use Rattle.fb_cli.proofs.replay.replay_plan.Goals as goal

pub returns-in-Ok-clause-ends : goal.returns-in-Ok-clause-ends
returns-in-Ok-clause-ends g c = rw c.ending_of_replay.ensures (ended_by_run c.args.plan IsJobEnd tt tt tt (λ index. tt) tt c.replay-replayed.result)

pub returns-in-Ok-clause-decided : goal.returns-in-Ok-clause-decided
returns-in-Ok-clause-decided g c =
    rw c.ending_of_replay.ensures
    (DecidesPlan-replayed c.args.job.now c.args.plan (g.F.Files.held c.args.files.now) (trees_of c.in-Ok.sources) c.replay-replayed.result
    c.in-Ok.ensures.content c.replay-replayed.ensures)

pub returns-in-Ok-clause-text : goal.returns-in-Ok-clause-text
returns-in-Ok-clause-text g c =
    rw c.ending_of_replay.ensures
    (IsTextOf-replayed c.args.job.now c.args.plan (g.F.Files.held c.args.files.now) (trees_of c.in-Ok.sources) c.replay-replayed.result
    c.requires.read c.in-Ok.ensures.content c.replay-replayed.ensures)

pub returns-in-Ok-clause-plan : goal.returns-in-Ok-clause-plan
returns-in-Ok-clause-plan g c =
    rw c.ending_of_replay.ensures (AnswersText-run c.args.job.now.plan c.args.plan c.replay-replayed.result c.requires.read)

pub returns-in-Ok-clause-read_fault : goal.returns-in-Ok-clause-read_fault
returns-in-Ok-clause-read_fault g c =
    rw c.ending_of_replay.ensures
    (ended_by_run c.args.plan (HasReadCause (Rose (g.F.Files.faults c.args.files.now) (g.F.Files.faults c.load_sources.new.files)))
    tt tt tt (λ index. tt) tt c.replay-replayed.result)

pub returns-in-Ok-clause-write_fault : goal.returns-in-Ok-clause-write_fault
returns-in-Ok-clause-write_fault g c =
    rw c.ending_of_replay.ensures (ended_by_run c.args.plan (HasWriteCause ⊥ ⊥) tt tt tt (λ index. tt) tt c.replay-replayed.result)

pub returns-in-Ok-clause-asked : goal.returns-in-Ok-clause-asked
returns-in-Ok-clause-asked g c =
    rw c.ending_of_replay.ensures
    (BothTold-weaker (g.F.Files.asked c.args.files.now) (g.F.Files.asked c.load_sources.new.files)
    (λ before after. AsksFor-run c.args.job.now c.args.plan c.replay-replayed.result before after)
    (c.in-Ok.ensures.asks (Replay c.args.job.now) (ReadsBoth-replay c.args.job.now)))

pub returns-in-Err-clause-decided : goal.returns-in-Err-clause-decided
returns-in-Err-clause-decided g c =
    DecidesPlan-unloaded c.args.job.now c.args.plan (g.F.Files.held c.args.files.now) c.in-Err.status c.in-Err.ensures.ends c.in-Err.ensures.content

pub returns-in-Err-clause-text : goal.returns-in-Err-clause-text
returns-in-Err-clause-text g c = IsTextOf-unloaded c.args.job.now (g.F.Files.held c.args.files.now) c.in-Err.status c.in-Err.ensures.ends

pub returns-in-Err-clause-plan : goal.returns-in-Err-clause-plan
returns-in-Err-clause-plan g c = AnswersText-unloaded c.args.job.now.plan c.args.plan c.in-Err.status c.requires.read c.in-Err.ensures.ends

pub returns-in-Err-clause-asked : goal.returns-in-Err-clause-asked
returns-in-Err-clause-asked g c = c.in-Err.ensures.asks (Replay c.args.job.now) (ReadsBoth-replay c.args.job.now)
