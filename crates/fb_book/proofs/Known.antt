-- The callees of a row more are known.
use Rattle.std.proofs.Common.{ℕ, ◌<◌, Bool, true, false, cond, All, Option, Some, None, List, [], ◌∷◌, ◌++◌, length}
use Rattle.std.specs.Option.{option_map_or}
use Rattle.std.specs.List.{last_or}
use Rattle.std.proofs.lemmas.List.Elements.{All-tail, All-push, All-filter, All-map}
use Rattle.fb_index.specs.Entry.{Occurrence}
use Rattle.fb_index.specs.Index.{same_index}
use Rattle.fb_index.specs.declared.fault.Fault.{Fault}
use Rattle.fb_tree.specs.declared.visit.Visit.{Visit}
use Rattle.fb_campaign.specs.Plans.{begun_after, begun_after_plan}
use Rattle.fb_campaign.specs.Runs.{is_between_services}
use Rattle.fb_config.specs.declared.choices.ChoiceTable.{ChoiceTable}
use Rattle.fb_book.specs.declared.row.Row.{Row}
use Rattle.fb_book.specs.Books.{AreKnown}
use Rattle.fb_book.specs.Calls.{called, calls_for, HasMethod}

-- what holds of all calls holds of those that begin later
all_after : (P : Visit → Type 0) (index : List Occurrence) (calls : List Visit) → All P calls → All P (begun_after index calls)
all_after P index [] all = all
all_after P index (call ∷ calls) all = by (same_index call.index index) (All-tail P call calls all) (all_after P index calls (All-tail P call calls all)) where
  by : (b : Bool) → All P calls → All P (begun_after index calls) → All P (cond b calls (begun_after index calls))
  by true here later = here
  by false here later = later

all_after_plan : (P : Visit → Type 0) (plan : List Fault) (calls : List Visit) → All P calls → All P (begun_after_plan plan calls)
all_after_plan P plan calls all = by (last_or None plan) where
  by : (last : Option Fault) → All P (option_map_or (λ (fault : Fault). begun_after fault.index calls) last calls)
  by None = all
  by (Some fault) = all_after P fault.index calls all

pub row_known : (faults : ChoiceTable) (rows : List Row) (at : ℕ) (plan : List Fault) (visits : List Visit) → AreKnown faults rows
    → All (λ (visit : Visit). visit.callee.0 < length faults.kinds) visits → AreKnown faults (rows ++ record { at = at; plan = plan; calls = calls_for plan visits } ∷ [])
row_known faults rows at plan visits known calls =
    let has : Visit → Type 0 = λ visit. visit.callee.0 < length faults.kinds in
    All-push (λ (row : Row). All (HasMethod faults) row.calls) rows (record { at = at; plan = plan; calls = calls_for plan visits }) known
    (All-map (HasMethod faults) called _ (All-filter (λ visit. is_between_services visit.index) has (begun_after_plan plan visits) (all_after_plan has plan visits calls)))
