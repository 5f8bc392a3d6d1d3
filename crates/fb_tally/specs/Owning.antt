-- Rows of owners, one plan line more, and the first rows that break a rule.
use Rattle.std.specs.Prelude.{ℕ, ◌+◌, Bool, true, false, not, ◌&&◌, ◌||◌, ◌==◌, nat_lt, if◌then◌else◌, Option, Some, None, List, [], ◌∷◌, fold, replicate, get_or, set, slice_get}
use Rattle.fb_tally.specs.declared.rows.RecordRow.{RecordRow}
use Rattle.fb_tally.specs.declared.rows.PlanRow.{PlanRow}

-- ---- a run line owns

-- the run line with this number uses the record
abbrev pub owned_by : ℕ → RecordRow → RecordRow
owned_by number row = record row { owned = row.owned || row.owner == number }

abbrev pub with_owned : ℕ → List RecordRow → ℕ → Option RecordRow → List RecordRow
with_owned number rows place None = rows
with_owned number rows place (Some row) = set rows place (owned_by number row)

abbrev pub own : ℕ → List RecordRow → ℕ → List RecordRow
own number rows place = with_owned number rows place (slice_get rows place)

-- ---- uses of a pruned line

abbrev pub is_owner_below : ℕ → Option RecordRow → Bool
is_owner_below count None = true
is_owner_below count (Some row) = nat_lt row.owner count

-- the owner of each record is one of so many plan lines
abbrev pub are_earlier : List RecordRow → ℕ → List ℕ → Bool
are_earlier rows count [] = true
are_earlier rows count (place ∷ uses) = is_owner_below count (slice_get rows place) && are_earlier rows count uses

-- ---- first rows

abbrev pub first_not_owned : List RecordRow → Option ℕ
first_not_owned [] = None
first_not_owned (row ∷ rows) = if row.owned then first_not_owned rows else Some row.at

-- the owners of these records are marked
abbrev pub mark : List Bool → RecordRow → List Bool
mark marks row = set marks row.owner true

abbrev pub marks_of : ℕ → List RecordRow → List Bool
marks_of count rows = fold mark (replicate count false) rows

-- it is the first, or pruned, or marked
abbrev pub owns_some : List Bool → ℕ → PlanRow → Bool
owns_some marks number row = if number == 0 || not row.run then true else get_or marks number false

abbrev pub first_without_record : List Bool → ℕ → List PlanRow → Option ℕ
first_without_record marks number [] = None
first_without_record marks number (row ∷ rows) = if owns_some marks number row then first_without_record marks (number + 1) rows else Some row.at
