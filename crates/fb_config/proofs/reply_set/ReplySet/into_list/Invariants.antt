use Rattle.std.proofs.Common.{◌≡◌, ◌++◌}
use Rattle.fb_config.proofs.reply_set.ReplySet.into_list.Given as goal

-- the replies so far come before those that are left
abbrev pub invariant-loop-key : goal.invariant-loop-key
invariant-loop-key l = l.replies ++ l.key-iterator ≡ l.fn.self
