-- Trees that serde_json writes and reads again.
use Rattle.std.specs.Prelude.{◌≡◌, ℕ, zero, suc, ◌^◌, ◌<◌, ◌&&◌, ℤ, pos, negsuc, Bool, true, false, List}
use Rattle.std.specs.declared.cmp.Ordering.{Ordering}
use Rattle.std.specs.declared.cmp.Ordering.TheVariants.{Less, Equal, Greater}
use Rattle.std.specs.Ordering.{nat_cmp}
use Rattle.std.specs.Cmp.Lexicographic.{slice_cmp}
use Rattle.serde_json.specs.Data.{Num, unsigned, negative, float, Data, null, boolean, number, string, array, object, Items, no_items, item, Members, no_members, member}

-- an integer that 64 bits hold
abbrev pub IsInteger : Num → Type 0
IsInteger (unsigned n) = n < 2 ^ 64
IsInteger (negative (pos n)) = ⊥
IsInteger (negative (negsuc n)) = n < 2 ^ 63
IsInteger (float x) = ⊥

abbrev pub is_greater : Ordering → Bool
is_greater Less = false
is_greater Equal = false
is_greater Greater = true

-- the key is above those of all members
abbrev pub is_above : List ℕ → Members → Bool
is_above key no_members = true
is_above key (member k d ms) = is_greater (slice_cmp nat_cmp key k) && is_above key ms

-- the members, and one more behind them
abbrev pub with_last : Members → List ℕ → Data → Members
with_last no_members key last = member key last no_members
with_last (member k d ms) key last = member k d (with_last ms key last)

-- each key of the second members is above all before it, those of the first members too
abbrev pub are_sorted : Members → Members → Bool
are_sorted before no_members = true
are_sorted before (member k d ms) = is_above k before && are_sorted (with_last before k d) ms

-- integers alone, keys in order, and no more levels than these
abbrev mutual
  pub IsWritable : ℕ → Data → Type 0
  IsWritable levels null = Unit {0}
  IsWritable levels (boolean b) = Unit {0}
  IsWritable levels (number n) = IsInteger n
  IsWritable levels (string s) = Unit {0}
  IsWritable zero (array ds) = ⊥
  IsWritable (suc levels) (array ds) = AreWritable levels ds
  IsWritable zero (object ms) = ⊥
  IsWritable (suc levels) (object ms) = (are_sorted no_members ms ≡ true) × HoldWritable levels ms

  pub AreWritable : ℕ → Items → Type 0
  AreWritable levels no_items = Unit {0}
  AreWritable levels (item d ds) = IsWritable levels d × AreWritable levels ds

  pub HoldWritable : ℕ → Members → Type 0
  HoldWritable levels no_members = Unit {0}
  HoldWritable levels (member k d ms) = IsWritable levels d × HoldWritable levels ms
