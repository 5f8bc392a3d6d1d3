-- Walks through the records of one method and its arguments.
use Rattle.std.specs.Prelude.{Option, Some, None, List, is_some, position, if◌then◌else◌}
use Rattle.fb_base.specs.declared.method.MethodId.{MethodId}
use Rattle.fb_base.specs.declared.value.Value.{Value}
use Rattle.fb_base.specs.declared.reply.Reply.{Reply}
use Rattle.fb_tree.specs.declared.recorded.Record.{Record}
use Rattle.fb_store.specs.Following.{begins}

-- where a walk stands: the records, what was called, and the replies that it has taken
pub record Walk : Type 0 where
  pub records : List Record
  pub method : MethodId
  pub args : List Value
  pub replies : List Reply

-- there, where a record begins so
unfoldable pub walk_of : List Record → MethodId → List Value → List Reply → Option Walk
walk_of records method args replies =
    if is_some (position (begins method args replies) records)
    then Some (record { records = records; method = method; args = args; replies = replies })
    else None
