-- Replies that are all different.
use Rattle.std.specs.Prelude.{List, [], ◌∷◌, ◌++◌, fold, if◌then◌else◌}
use Rattle.std.specs.List.{list_any}
use Rattle.fb_base.specs.declared.reply.Reply.{Reply}
use Rattle.fb_base.specs.Replies.{same_reply}

-- a reply goes last, or is dropped where an equal one is there
abbrev pub with_reply : List Reply → Reply → List Reply
with_reply known given = if list_any (same_reply given) known then known else known ++ given ∷ []

-- each reply once, at its first place
abbrev pub each_once : List Reply → List Reply
each_once replies = fold with_reply [] replies
