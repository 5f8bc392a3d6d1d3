-- How each list of an item is read.
use Rattle.std.specs.Prelude.{Option}
use Rattle.toml.specs.Data.{Data}
use Rattle.fb_base.specs.declared.reply.Reply.{Reply}
use Rattle.fb_config.specs.declared.read_replies.Sort.{Sort}
use Rattle.fb_config.specs.declared.read_replies.Sort.TheVariants.{Errors, Values}
use Rattle.fb_config.specs.Values.{error_of, reply_of}

abbrev pub reply_by : Sort → Data → Option Reply
reply_by Errors = error_of
reply_by (Values kinds) = reply_of kinds.now
