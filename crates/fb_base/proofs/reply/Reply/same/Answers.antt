use Rattle.fb_base.specs.Replies.{same_reply-Decides}
use Rattle.fb_base.proofs.reply.Reply.same.Goals as goal

pub returns-clause-equal : goal.returns-clause-equal
returns-clause-equal c = rw c.eq.ensures (same_reply-Decides c.args.self.now c.args.other.now)
