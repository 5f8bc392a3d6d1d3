-- What the hash of a reply feeds a hasher.
use Rattle.std.specs.Hash as writes
use Rattle.fb_base.specs.declared.reply.Reply.{Reply}
use Rattle.fb_base.specs.declared.reply.Reply.TheVariants as reply
use Rattle.fb_base.specs.Hashes.{writes_of_value}

abbrev pub writes_of_reply : Reply → writes.HashWrites
writes_of_reply (reply.Ok v) = writes_of_value v
writes_of_reply (reply.Err code) = writes.str code
