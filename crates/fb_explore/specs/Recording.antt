-- The inv lines of runs, record by record.
use Rattle.std.specs.Prelude.{ℕ, List, [], ◌∷◌, ◌++◌, length, slice_get, if◌then◌else◌}
use Rattle.std.specs.List.{list_any, fold}
use Rattle.std.specs.Option.{option_map_or, option_to_list}
use Rattle.fb_syntax.specs.Trees.{ServicesTree}
use Rattle.fb_tree.specs.Sameness.{same_record}
use Rattle.fb_tree.specs.declared.recorded.Record.{Record}
use Rattle.fb_store.specs.Following.{number_of, with_record}
use Rattle.fb_report.specs.declared.line.Line.{Line}
use Rattle.fb_functest.specs.ReportLines.{inv_line}

-- the line of a record of the plan line with the number `owner`, none where the services lack a method of the record
abbrev pub inv_lines : ServicesTree → ℕ → ℕ → Record → List Line
inv_lines services owner number item = option_to_list (inv_line services number (record { item = item; owner = owner }))

-- that of the record with a number
abbrev pub lines_at : ServicesTree → ℕ → List Record → ℕ → List Line
lines_at services owner known number = option_map_or (inv_lines services owner number) (slice_get known number) []

-- those that are added where these are known
unfoldable pub lines_if_new : ServicesTree → ℕ → List Record → Record → List Line
lines_if_new services owner known item = if list_any (same_record item) known then [] else inv_lines services owner (length known) item

abbrev pub new_lines : ServicesTree → ℕ → List Record → List Record → List Line
new_lines services owner known [] = []
new_lines services owner known (item ∷ items) = lines_if_new services owner known item ++ new_lines services owner (with_record known item) items

-- the number of each where it comes
abbrev pub numbers : List Record → List Record → List ℕ
numbers known [] = []
numbers known (item ∷ items) = number_of known item ∷ numbers (with_record known item) items

-- what is known after these
abbrev pub with_records : List Record → List Record → List Record
with_records known items = fold with_record known items
