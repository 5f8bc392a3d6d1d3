use Rattle.std.proofs.Common.{◌≡◌, ◌++◌}
use Rattle.fb_config.proofs.read_replies.joined.Given as goal

abbrev pub invariant-loop-reply : goal.invariant-loop-reply
invariant-loop-reply l = l.all ≡ l.fn.front ++ l.yielded
