-- The replies that a fault file spells.
use Rattle.std.specs.Prelude.{◌&&◌, nat_le, ℕ, Bool, List, length, if◌then◌else◌, Option, Some, None, option_map, option_and_then}
use Rattle.std.specs.List.{list_all}
use Rattle.toml.specs.Data.{Data, integer, boolean, string, array, as_str, as_array, Items}
use Rattle.fb_base.specs.declared.kind.Kind.{Kind}
use Rattle.fb_base.specs.declared.value.Value.{Value}
use Rattle.fb_base.specs.declared.value.Value.TheVariants as value
use Rattle.fb_base.specs.declared.reply.Reply.{Reply}
use Rattle.fb_base.specs.declared.reply.Reply.TheVariants as reply
use Rattle.fb_base.specs.Name.{is_name}
use Rattle.fb_base.specs.Text.{longest_text}
use Rattle.fb_base.specs.Values.{has_kind}
use Rattle.fb_base.specs.Operators.{value_of_list}
use Rattle.fb_config.specs.Documents.{data_of, all_of}

abbrev pub text_value_of : List ℕ → Option Value
text_value_of bytes = if nat_le (length bytes) longest_text then Some (value.Text bytes) else None

-- an int, a bool or a text
abbrev pub scalar_of : Data → Option Value
scalar_of (integer n) = Some (value.Int n)
scalar_of (boolean b) = Some (value.Bool b)
scalar_of (string bytes) = text_value_of bytes
scalar_of _ = None

-- one of these, or a list of some of one kind; nothing else is a value
abbrev pub value_of_data : Data → Option Value
value_of_data (array items) = option_and_then value_of_list (all_of scalar_of (data_of items))
value_of_data d = scalar_of d

-- the error of a code
abbrev pub error_of_text : List ℕ → Option Reply
error_of_text bytes = if is_name bytes then Some (reply.Err bytes) else None

abbrev pub error_of : Data → Option Reply
error_of d = option_and_then error_of_text (as_str d)

-- the value where it has each of the kinds
abbrev pub reply_of_kinds : List Kind → Value → Option Reply
reply_of_kinds kinds v = if list_all (has_kind v) kinds then Some (reply.Ok v) else None

abbrev pub reply_of : List Kind → Data → Option Reply
reply_of kinds d = option_and_then (reply_of_kinds kinds) (value_of_data d)

-- a list of codes or of values has 1 to 16 items
abbrev pub are_few : List Data → Bool
are_few ds = nat_le 1 (length ds) && nat_le (length ds) 16

abbrev pub few_replies : (Data → Option Reply) → Items → Option (List Reply)
few_replies read items = if are_few (data_of items) then all_of read (data_of items) else None

-- the replies of such a list, each read alike
unfoldable pub replies_in : (Data → Option Reply) → Data → Option (List Reply)
replies_in read d = option_and_then (few_replies read) (as_array d)
