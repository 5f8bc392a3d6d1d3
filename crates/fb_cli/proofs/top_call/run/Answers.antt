use Rattle.std.proofs.Common.{◌≡◌, rules, map, string_bytes, refl, sym, subst, Some, None, []}
use Rattle.std.specs.Option.{IfSome}
use Rattle.fb_base.specs.Count.{Rose}
use Rattle.fb_cli.specs.declared.status.Status.TheVariants.{Usage, SameName}
use Rattle.fb_job.specs.Jobs.{job_of_words}
use Rattle.fb_job.specs.Limits.{KeepsLimits}
use Rattle.fb_cli.specs.Texts.{status_text}
use Rattle.fb_job.specs.Names.{report_name}
use Rattle.fb_cli.specs.Telling.{status_told, text_told}
use Rattle.fb_cli.proofs.Unread.{Asks-unread}
use Rattle.fb_cli.proofs.TellingBoth.{BothTold-weaker}
use Rattle.fb_cli.proofs.Endings.{Asks-ended, Leaves-ended, TellsTruth-told, IsDecidedBy-told, complete_told, AnswersPlan-told, AnswersPlan-unread, AnswersPlan-same_name, AnswersTrial-told, AnswersTrial-unread, AnswersTrial-same_name, Completes-none, Completes-told, Completes-unread, Completes-same_name}
use Rattle.fb_cli.proofs.Sending.{Sends-told, Sends-words}
use Rattle.fb_cli.proofs.top_call.run.Goals as goal

pub returns-in-Err-Usage-clause-sent : goal.returns-in-Err-Usage-clause-sent
returns-in-Err-Usage-clause-sent g c =
    let none : job_of_words (map string_bytes c.args.words.now) ≡ None = search rules in
    rw none
    (Sends-words None (g.F.Files.held c.args.files.now) (g.F.Files.asked c.args.files.now) (g.F.Files.asked c.args.files.now)
    (g.O.Sink.faults c.args.out.now) (g.O.Sink.faults c.tell.new.out) (status_text [] Usage) Usage c.tell.result
    (g.O.Sink.sent c.args.out.now) (g.O.Sink.sent c.tell.new.out)
    (λ held. refl) c.tell.ensures.answer refl c.tell.ensures.sent)

pub returns-in-Err-Memory-clause-asked : goal.returns-in-Err-Memory-clause-asked
returns-in-Err-Memory-clause-asked g c =
    Asks-unread (job_of_words (map string_bytes c.args.words.now)) (Rose (g.O.Sink.faults c.args.out.now) (g.O.Sink.faults c.args.out.now))
    (g.F.Files.asked c.args.files.now)

pub returns-then-overwrites_input-clause-sent : goal.returns-then-overwrites_input-clause-sent
returns-then-overwrites_input-clause-sent g c =
    rw c.in-Ok.ensures
    (Sends-words (Some c.in-Ok.job) (g.F.Files.held c.args.files.now) (g.F.Files.asked c.args.files.now) (g.F.Files.asked c.args.files.now)
    (g.O.Sink.faults c.args.out.now) (g.O.Sink.faults c.tell-then-overwrites_input.new.out)
    (status_text (report_name (Some c.in-Ok.job)) SameName) SameName c.tell-then-overwrites_input.result
    (g.O.Sink.sent c.args.out.now) (g.O.Sink.sent c.tell-then-overwrites_input.new.out)
    (λ held. rw (sym c.if-overwrites_input.ensures) refl) c.tell-then-overwrites_input.ensures.answer refl
    (rw c.report_name.ensures at c.tell-then-overwrites_input.ensures.sent))

pub returns-clause-asked : goal.returns-clause-asked
returns-clause-asked g c =
    BothTold-weaker (g.F.Files.asked c.args.files.now) (g.F.Files.asked c.carry_out-ending.new.files)
    (λ before after. Asks-ended (job_of_words (map string_bytes c.args.words.now)) c.in-Ok.job
    (g.O.Sink.faults c.args.out.now) (g.O.Sink.faults c.tell-2.new.out) (status_told c.carry_out-ending.result) c.tell-2.result before after
    c.in-Ok.ensures (sym c.if-overwrites_input.ensures) c.tell-2.ensures.answer)
    c.carry_out-ending.ensures.asked

pub returns-clause-held : goal.returns-clause-held
returns-clause-held g c =
    Leaves-ended (job_of_words (map string_bytes c.args.words.now)) c.in-Ok.job
    (Rose (g.F.Files.faults c.args.files.now) (g.F.Files.faults c.carry_out-ending.new.files))
    (g.O.Sink.faults c.args.out.now) (g.O.Sink.faults c.tell-2.new.out) (status_told c.carry_out-ending.result) c.tell-2.result
    (g.F.Files.held c.args.files.now) (g.F.Files.held c.carry_out-ending.new.files)
    c.in-Ok.ensures (sym c.if-overwrites_input.ensures) c.tell-2.ensures.answer
    c.carry_out-ending.ensures.read_fault c.carry_out-ending.ensures.decided c.carry_out-ending.ensures.held

pub returns-clause-truth : goal.returns-clause-truth
returns-clause-truth g c =
    TellsTruth-told (job_of_words (map string_bytes c.args.words.now)) c.in-Ok.job
    (g.O.Sink.faults c.args.out.now) (g.O.Sink.faults c.tell-2.new.out) (status_told c.carry_out-ending.result) c.tell-2.result
    (g.F.Files.held c.args.files.now) (g.F.Files.held c.carry_out-ending.new.files)
    c.in-Ok.ensures c.tell-2.ensures.answer c.carry_out-ending.ensures.truth

pub returns-clause-sent : goal.returns-clause-sent
returns-clause-sent g c =
    Sends-told (job_of_words (map string_bytes c.args.words.now)) c.in-Ok.job
    (g.F.Files.held c.args.files.now) (g.F.Files.asked c.args.files.now) (g.F.Files.asked c.carry_out-ending.new.files)
    (g.O.Sink.faults c.args.out.now) (g.O.Sink.faults c.tell-2.new.out)
    (text_told (report_name (Some c.in-Ok.job)) c.carry_out-ending.result) (status_told c.carry_out-ending.result) c.tell-2.result
    (g.O.Sink.sent c.args.out.now) (g.O.Sink.sent c.tell-2.new.out)
    c.in-Ok.ensures (sym c.if-overwrites_input.ensures) c.tell-2.ensures.answer
    c.carry_out-ending.ensures.decided c.carry_out-ending.ensures.trial c.carry_out-ending.ensures.asked c.carry_out-ending.ensures.text
    (rw c.report_name-2.ensures at c.tell-2.ensures.sent)

pub returns-in-Err-Usage-clause-plan : goal.returns-in-Err-Usage-clause-plan
returns-in-Err-Usage-clause-plan g c =
    let none : job_of_words (map string_bytes c.args.words.now) ≡ None = search rules in rw none tt

pub returns-in-Err-Memory-clause-plan : goal.returns-in-Err-Memory-clause-plan
returns-in-Err-Memory-clause-plan g c = AnswersPlan-unread (job_of_words (map string_bytes c.args.words.now))

pub returns-then-overwrites_input-clause-plan : goal.returns-then-overwrites_input-clause-plan
returns-then-overwrites_input-clause-plan g c =
    rw c.in-Ok.ensures (AnswersPlan-same_name c.in-Ok.job c.tell-then-overwrites_input.result (sym c.if-overwrites_input.ensures))

pub returns-clause-plan : goal.returns-clause-plan
returns-clause-plan g c =
    AnswersPlan-told (job_of_words (map string_bytes c.args.words.now)) c.in-Ok.job
    (g.O.Sink.faults c.args.out.now) (g.O.Sink.faults c.tell-2.new.out) (status_told c.carry_out-ending.result) c.tell-2.result
    c.in-Ok.ensures c.tell-2.ensures.answer c.carry_out-ending.ensures.plan

pub returns-in-Err-Usage-clause-trial : goal.returns-in-Err-Usage-clause-trial
returns-in-Err-Usage-clause-trial g c =
    let none : job_of_words (map string_bytes c.args.words.now) ≡ None = search rules in rw none tt

pub returns-in-Err-Memory-clause-trial : goal.returns-in-Err-Memory-clause-trial
returns-in-Err-Memory-clause-trial g c = AnswersTrial-unread _ (job_of_words (map string_bytes c.args.words.now))

pub returns-then-overwrites_input-clause-trial : goal.returns-then-overwrites_input-clause-trial
returns-then-overwrites_input-clause-trial g c =
    rw c.in-Ok.ensures (AnswersTrial-same_name _ c.in-Ok.job c.tell-then-overwrites_input.result (sym c.if-overwrites_input.ensures))

pub returns-clause-trial : goal.returns-clause-trial
returns-clause-trial g c =
    AnswersTrial-told (job_of_words (map string_bytes c.args.words.now)) c.in-Ok.job
    (g.O.Sink.faults c.args.out.now) (g.O.Sink.faults c.tell-2.new.out) (status_told c.carry_out-ending.result) c.tell-2.result
    c.in-Ok.ensures c.tell-2.ensures.answer c.carry_out-ending.ensures.trial

pub returns-clause-decided : goal.returns-clause-decided
returns-clause-decided g c =
    IsDecidedBy-told (job_of_words (map string_bytes c.args.words.now)) c.in-Ok.job (g.F.Files.held c.args.files.now)
    (g.O.Sink.faults c.args.out.now) (g.O.Sink.faults c.tell-2.new.out) (status_told c.carry_out-ending.result) c.tell-2.result
    c.in-Ok.ensures (sym c.if-overwrites_input.ensures) c.tell-2.ensures.answer c.carry_out-ending.ensures.decided

pub returns-clause-complete : goal.returns-clause-complete
returns-clause-complete g c =
    complete_told (job_of_words (map string_bytes c.args.words.now)) c.in-Ok.job (g.F.Files.held c.args.files.now)
    (Rose (g.F.Files.faults c.args.files.now) (g.F.Files.faults c.carry_out-ending.new.files))
    (g.O.Sink.faults c.args.out.now) (g.O.Sink.faults c.tell-2.new.out) (status_told c.carry_out-ending.result) c.tell-2.result
    c.in-Ok.ensures (sym c.if-overwrites_input.ensures) c.tell-2.ensures.answer
    c.carry_out-ending.ensures.read_fault c.carry_out-ending.ensures.write_fault c.carry_out-ending.ensures.decided

pub carry_out-ending-requires : goal.carry_out-ending-requires
carry_out-ending-requires g c =
    subst (λ said. IfSome said KeepsLimits) c.in-Ok.ensures (c.jobs_keep_their_limits.ensures (map string_bytes c.args.words.now))

pub returns-in-Err-Usage-clause-completes : goal.returns-in-Err-Usage-clause-completes
returns-in-Err-Usage-clause-completes g c =
    let none : job_of_words (map string_bytes c.args.words.now) ≡ None = search rules in
    rw none (Completes-none (g.F.Files.held c.args.files.now) c.tell.result)

pub returns-in-Err-Memory-clause-completes : goal.returns-in-Err-Memory-clause-completes
returns-in-Err-Memory-clause-completes g c =
    Completes-unread (job_of_words (map string_bytes c.args.words.now)) (g.F.Files.held c.args.files.now)

pub returns-then-overwrites_input-clause-completes : goal.returns-then-overwrites_input-clause-completes
returns-then-overwrites_input-clause-completes g c =
    Completes-same_name (job_of_words (map string_bytes c.args.words.now)) c.in-Ok.job (g.F.Files.held c.args.files.now)
    (g.O.Sink.faults c.args.out.now) (g.O.Sink.faults c.tell-then-overwrites_input.new.out) c.tell-then-overwrites_input.result
    c.in-Ok.ensures c.tell-then-overwrites_input.ensures.answer

pub returns-clause-completes : goal.returns-clause-completes
returns-clause-completes g c =
    Completes-told (job_of_words (map string_bytes c.args.words.now)) c.in-Ok.job (g.F.Files.held c.args.files.now)
    (g.O.Sink.faults c.args.out.now) (g.O.Sink.faults c.tell-2.new.out) (status_told c.carry_out-ending.result) c.tell-2.result
    c.in-Ok.ensures c.tell-2.ensures.answer c.carry_out-ending.ensures.completes
