-- What a book finds of a further plan line and of missing ones, and what it becomes by a line.
use Rattle.std.specs.Prelude.{ℕ, ◌+◌, ◌&&◌, nat_lt, Bool, Option, Some, None, option_map, option_and_then, List, [], ◌∷◌, ◌++◌, All, length, slice_get, if◌then◌else◌}
use Rattle.std.specs.Option.{option_or, is_none}
use Rattle.std.specs.List.{position_from}
use Rattle.fb_base.specs.declared.reply.Reply.{Reply}
use Rattle.fb_base.specs.Replies.{same_reply}
use Rattle.fb_index.specs.Entry.{Occurrence}
use Rattle.fb_index.specs.declared.fault.Fault.{Fault}
use Rattle.fb_tree.specs.declared.visit.Visit.{Visit}
use Rattle.fb_campaign.specs.Runs.{Choices}
use Rattle.fb_config.specs.declared.choices.ChoiceTable.{ChoiceTable}
use Rattle.fb_functest.specs.PlanLines.{with_fault}
use Rattle.fb_book.specs.declared.call.Call.{Call}
use Rattle.fb_book.specs.declared.child.Child.{Child}
use Rattle.fb_book.specs.declared.missing.Missing.{Missing}
use Rattle.fb_book.specs.declared.row.Row.{Row}
use Rattle.fb_book.specs.Calls.{calls_for, place_of, HasMethod}
use Rattle.fb_book.specs.Children.{is_told, with_child, first_missing}

pub record BookOf : Type 0 where
  -- one for each plan line, by its number
  pub rows : List Row
  -- the extensions that have a line
  pub told : List Child

-- each callee is a method of the faults' program
abbrev pub AreKnown : ChoiceTable → List Row → Type 0
AreKnown faults rows = All (λ row. All (HasMethod faults) row.calls) rows

-- ---- which extension a line is

abbrev pub child_by : Choices → ℕ → ℕ → Reply → Call → Option Child
child_by choices parent place given call =
    option_map (λ choice. record { parent = parent; call = place; choice = choice }) (position_from (same_reply given) 0 (choices call.callee))

abbrev pub child_in : Choices → ℕ → List Occurrence → Reply → List Call → Option Child
child_in choices parent index given calls =
    option_and_then (λ place. option_and_then (child_by choices parent place given) (slice_get calls place)) (place_of index calls)

-- the one of its parent by its fault, none where the parent hasn't such a call or choice
abbrev pub child_of : List Row → Choices → Option ℕ → Option (List Occurrence × Reply) → Option Child
child_of rows choices parent fault =
    option_and_then (λ number. option_and_then (λ (f : List Occurrence × Reply).
    option_and_then (λ (row : Row). child_in choices number f.0 f.1 row.calls) (slice_get rows number)) fault) parent

-- ---- the plan of a line

abbrev pub root_plan : Option ℕ → Option (List Occurrence × Reply) → Bool → Option (List Fault)
root_plan parent fault run = if is_none parent && is_none fault && run then Some [] else None

abbrev pub longer_plan : List Row → Child → Option (List Occurrence × Reply) → Option (List Fault)
longer_plan rows child fault =
    option_and_then (λ (row : Row). option_map (with_fault row.plan) fault) (slice_get rows child.parent)

-- none where the extension has a line already
abbrev pub new_plan : BookOf → Child → Option (List Occurrence × Reply) → Option (List Fault)
new_plan book child fault = if is_told book.told child then None else longer_plan book.rows child fault

abbrev pub child_plan : BookOf → Choices → Option ℕ → Option (List Occurrence × Reply) → Option (List Fault)
child_plan book choices parent fault = option_and_then (λ child. new_plan book child fault) (child_of book.rows choices parent fault)

abbrev pub plan_for : BookOf → Choices → Option ℕ → Option (List Occurrence × Reply) → Bool → Option (List Fault)
plan_for book choices parent fault run =
    if nat_lt 0 (length book.rows) then child_plan book choices parent fault else root_plan parent fault run

-- ---- a line more

abbrev pub with_told : List Child → Option Child → List Child
with_told told None = told
with_told told (Some child) = with_child told child

abbrev pub with_row : BookOf → Choices → ℕ → List Fault → Option ℕ → Option (List Occurrence × Reply) → List Visit → BookOf
with_row book choices at plan parent fault visits = record {
  rows = book.rows ++ record { at = at; plan = plan; calls = calls_for plan visits } ∷ [];
  told = with_told book.told (child_of book.rows choices parent fault);
}

-- ---- the first extension without a line

abbrev pub missing_call : List Child → Choices → ℕ → ℕ → List Call → Option Child
missing_call told choices parent place [] = None
missing_call told choices parent place (call ∷ calls) =
    option_or (first_missing told parent place 0 (choices call.callee)) (missing_call told choices parent (place + 1) calls)

abbrev pub missing_row : List Child → Choices → ℕ → List Row → Option Child
missing_row told choices parent [] = None
missing_row told choices parent (row ∷ rows) =
    option_or (missing_call told choices parent 0 row.calls) (missing_row told choices (parent + 1) rows)

-- its fault, and the place of the line whose plan it extends
abbrev pub missing_at : List Row → Choices → Child → Option Missing
missing_at rows choices child =
    option_and_then (λ (row : Row). option_and_then (λ (call : Call).
    option_map (λ given. record { at = row.at; index = call.index; reply = given }) (slice_get (choices call.callee) child.choice))
    (slice_get row.calls child.call)) (slice_get rows child.parent)

abbrev pub missing_of : BookOf → Choices → Option Missing
missing_of book choices = option_and_then (missing_at book.rows choices) (missing_row book.told choices 0 book.rows)
