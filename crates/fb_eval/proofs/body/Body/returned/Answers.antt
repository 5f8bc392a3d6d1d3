use Rattle.fb_eval.specs.Calling.{made_of}
use Rattle.fb_eval.proofs.Progresses.{invocations_more, ready_returned, state_returned}
use Rattle.fb_eval.proofs.body.Body.returned.Goals as goal

pub returns-clause-state : goal.returns-clause-state
returns-clause-state c = λ fuel left.
    state_returned c.args.progress.now (made_of c.args.request c.args.how c.args.reply) c.keep.new.self fuel left c.in_ok-keep.ensures.kept

pub returns-clause-ready : goal.returns-clause-ready
returns-clause-ready c = λ fuel left ready less.
    ready_returned c.args.self.now c.args.progress.now (made_of c.args.request c.args.how c.args.reply) c.keep.new.self fuel left ready
    c.in_ok-keep.ensures.kept c.in_ok-keep.ensures.sites less

pub returns-clause-ticks : goal.returns-clause-ticks
returns-clause-ticks c =
    invocations_more c.args.progress.now (made_of c.args.request c.args.how c.args.reply) c.keep.new.self c.in_ok-keep.ensures.kept
