-- What the hash of a value feeds a hasher.
use Rattle.std.specs.Hash as writes
use Rattle.fb_base.specs.declared.items.Items.{Items}
use Rattle.fb_base.specs.declared.items.Items.TheVariants as items
use Rattle.fb_base.specs.declared.value.Value.{Value}
use Rattle.fb_base.specs.declared.value.Value.TheVariants as value

abbrev pub writes_of_items : Items → writes.HashWrites
writes_of_items items.Empty = writes.u8 0
writes_of_items (items.Ints xs) = writes.slice writes.i64 xs
writes_of_items (items.Bools xs) = writes.slice writes.bool xs
writes_of_items (items.Texts xs) = writes.slice writes.str xs

abbrev pub writes_of_value : Value → writes.HashWrites
writes_of_value (value.Int n) = writes.i64 n
writes_of_value (value.Bool b) = writes.bool b
writes_of_value (value.Text bytes) = writes.str bytes
writes_of_value (value.List xs) = writes_of_items xs
