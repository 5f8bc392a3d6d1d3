-- Indexes, which are lists of entries with the root's first.
use Rattle.std.specs.Prelude.{ℕ, Bool, List, All, map}
use Rattle.std.specs.declared.cmp.Ordering.{Ordering}
use Rattle.std.specs.List.{join_with_byte}
use Rattle.std.specs.Cmp.Lexicographic.{pointwise, slice_cmp}
use Rattle.fb_index.specs.Refusal.{IsTextOf, IsRefusedAt}
use Rattle.fb_index.specs.declared.error.IndexError.{IndexError}
use Rattle.fb_index.specs.declared.error.IndexError.TheVariants.{BadIndex, Memory}
use Rattle.fb_index.specs.Entry.{Occurrence, IsEntry, same_entry, entry_cmp, entry_text}

-- each entry has numbers that a text can spell
abbrev pub IsIndex : List Occurrence → Type 0
IsIndex index = All IsEntry index

-- the same entries in the same order
abbrev pub same_index : List Occurrence → List Occurrence → Bool
same_index = pointwise same_entry

-- dictionary order: the first entries that differ decide, and a proper front comes first
abbrev pub index_cmp : List Occurrence → List Occurrence → Ordering
index_cmp = slice_cmp entry_cmp

-- the entries, joined by `/`
abbrev pub index_text : List Occurrence → List ℕ
index_text index = join_with_byte 47 (map entry_text index)

-- the text of some index
abbrev pub IsIndexText : List ℕ → Type 0
IsIndexText bytes = IsTextOf IsIndex index_text bytes

-- what a refusal of these bytes says; want of memory says nothing
abbrev pub RefusesIndex : List ℕ → IndexError → Type 0
RefusesIndex bytes (BadIndex offset) = IsRefusedAt IsIndexText bytes offset
RefusesIndex bytes Memory = Unit {0}
