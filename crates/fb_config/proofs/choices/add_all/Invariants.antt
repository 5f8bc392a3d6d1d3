use Rattle.std.proofs.Common.{◌≡◌, fold, drop}
use Rattle.fb_config.specs.Once.{with_reply}
use Rattle.fb_config.proofs.choices.add_all.Given as goal

-- adding those that are left makes the same of them as adding all
abbrev pub invariant-loop-reply : goal.invariant-loop-reply
invariant-loop-reply l = fold with_reply l.known (drop l.reply-index l.replies) ≡ fold with_reply l.fn.known l.replies
