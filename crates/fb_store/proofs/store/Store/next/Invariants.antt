use Rattle.std.proofs.Common.{◌≡◌, take}
use Rattle.fb_store.proofs.store.Store.next.Given as goal

abbrev pub invariant-loop-reply : goal.invariant-loop-reply
invariant-loop-reply l = l.cursor ≡ record { records = l.self; method = l.fn.method; args = l.args; replies = take l.reply-index l.replies }
