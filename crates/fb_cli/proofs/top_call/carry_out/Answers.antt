use Rattle.std.proofs.Common.{◌≡◌, sym, subst}
use Rattle.std.specs.Option.{IfSome}
use Rattle.fb_files.specs.Told.{BothTold}
use Rattle.fb_job.specs.declared.job.Job.{Job}
use Rattle.fb_job.specs.declared.job.Job.TheVariants.{Trial}
use Rattle.fb_cli.specs.Answers.{IsDecidedBy}
use Rattle.fb_cli.specs.Asking.{AsksFor}
use Rattle.fb_cli.specs.Decision.{DecidesJob}
use Rattle.fb_cli.specs.Telling.{status_told}
use Rattle.fb_cli.proofs.Rehearsed.{AsksFor-trial, DecidesJob-trial}
use Rattle.fb_cli.proofs.TellingBoth.{BothTold-same}
use Rattle.fb_cli.proofs.top_call.carry_out.Goals as goal

pub returns-in-Trial-clause-decided : goal.returns-in-Trial-clause-decided
returns-in-Trial-clause-decided g c =
    subst (λ (job : Job). IfSome (g.F.Files.held c.args.files.now) (λ held. IsDecidedBy (DecidesJob held job) (status_told c.trial.result)))
    (sym c.in-Trial.is)
    (DecidesJob-trial c.in-Trial.number c.in-Trial.size (g.F.Files.held c.args.files.now) (status_told c.trial.result) c.trial.ensures.ends c.trial.ensures.answer)

pub returns-in-Trial-clause-asked : goal.returns-in-Trial-clause-asked
returns-in-Trial-clause-asked g c =
    subst (λ (job : Job). BothTold (AsksFor job ⊥ (status_told c.trial.result)) (g.F.Files.asked c.args.files.now) (g.F.Files.asked c.args.files.now))
    (sym c.in-Trial.is)
    (BothTold-same (AsksFor (Trial c.in-Trial.number c.in-Trial.size) ⊥ (status_told c.trial.result)) (g.F.Files.asked c.args.files.now)
    (λ asked. AsksFor-trial c.in-Trial.number c.in-Trial.size asked (status_told c.trial.result) c.trial.ensures.ends))
