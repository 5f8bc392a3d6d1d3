-- The script of a record.
use Rattle.fb_base.specs.declared.reply.Reply.{Reply}
use Rattle.fb_index.specs.Entry.{Occurrence}
use Rattle.fb_tree.specs.declared.asked.Asked.{Asked}

-- the reply of a call, at its entry
abbrev pub reply_in : Asked → Occurrence × Reply
reply_in asked = (asked.entry, asked.reply)
