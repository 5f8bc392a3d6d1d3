use Rattle.fb_job.specs.declared.job.Job.TheVariants.{Replay}
use Rattle.fb_cli.specs.Asking.{AsksFor}
use Rattle.fb_cli.specs.Answers.{IsJobEnd, HasReadCause, HasWriteCause}
use Rattle.fb_cli.proofs.TellingBoth.{BothTold-same}
use Rattle.fb_cli.proofs.Replayed.{ended_by_plan, DecidesJob-read, DecidesJob-refused, IsTextOf-unread, AnswersText-refused, AsksFor-unread}
use Rattle.fb_cli.proofs.replay.replay.Goals as goal

pub returns-in-Ok-clause-decided : goal.returns-in-Ok-clause-decided
returns-in-Ok-clause-decided g c =
    DecidesJob-read c.args.job.now c.in-Ok.plan (g.F.Files.held c.args.files.now) _ c.in-Ok.ensures c.replay_plan.ensures.decided

pub returns-in-Err-clause-ends : goal.returns-in-Err-clause-ends
returns-in-Err-clause-ends g c = ended_by_plan c.args.job.now.plan IsJobEnd (λ found reads. tt) tt c.in-Err.status c.in-Err.ensures

pub returns-in-Err-clause-decided : goal.returns-in-Err-clause-decided
returns-in-Err-clause-decided g c = DecidesJob-refused c.args.job.now (g.F.Files.held c.args.files.now) c.in-Err.status c.in-Err.ensures

pub returns-in-Err-clause-text : goal.returns-in-Err-clause-text
returns-in-Err-clause-text g c = IsTextOf-unread c.args.job.now (g.F.Files.held c.args.files.now) c.in-Err.status c.in-Err.ensures

pub returns-in-Err-clause-plan : goal.returns-in-Err-clause-plan
returns-in-Err-clause-plan g c = AnswersText-refused c.args.job.now.plan c.in-Err.status c.in-Err.ensures

pub returns-in-Err-clause-read_fault : goal.returns-in-Err-clause-read_fault
returns-in-Err-clause-read_fault g c = ended_by_plan c.args.job.now.plan (HasReadCause _) (λ found reads. tt) tt c.in-Err.status c.in-Err.ensures

pub returns-in-Err-clause-write_fault : goal.returns-in-Err-clause-write_fault
returns-in-Err-clause-write_fault g c = ended_by_plan c.args.job.now.plan (HasWriteCause ⊥ ⊥) (λ found reads. tt) tt c.in-Err.status c.in-Err.ensures

pub returns-in-Err-clause-asked : goal.returns-in-Err-clause-asked
returns-in-Err-clause-asked g c =
    BothTold-same (AsksFor (Replay c.args.job.now) ⊥ c.in-Err.status) (g.F.Files.asked c.args.files.now)
    (λ asked. AsksFor-unread c.args.job.now c.in-Err.status asked c.in-Err.ensures)
