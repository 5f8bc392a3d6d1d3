-- The extensions at each call are those of all calls.
use Rattle.std.proofs.Common.{◌≡◌, ℕ, Bool, true, false, cond, List, [], ◌∷◌, ◌++◌, map, filter, flat_map, All, Option, Some, None, refl, sym, ap, ◌∙◌}
use Rattle.std.specs.Option.{option_map_or}
use Rattle.std.specs.List.{last_or}
use Rattle.std.proofs.lemmas.List.{map-append}
use Rattle.std.proofs.lemmas.List.Elements.{All-tail}
use Rattle.fb_base.specs.declared.reply.Reply.{Reply}
use Rattle.fb_index.specs.Entry.{Occurrence}
use Rattle.fb_index.specs.Index.{same_index}
use Rattle.fb_index.specs.declared.fault.Fault.{Fault}
use Rattle.fb_tree.specs.declared.visit.Visit.{Visit}
use Rattle.fb_campaign.specs.Runs.{is_between_services}
use Rattle.fb_campaign.specs.Plans.{begun_after, begun_after_plan, extensions_at, between_services}
use Rattle.fb_config.specs.declared.choices.ChoiceTable.{ChoiceTable}
use Rattle.fb_config.specs.Choices.{choices_for}
use Rattle.fb_worklist.specs.declared.pending.Pending.{Pending}
use Rattle.fb_worklist.specs.Worklists.{pending_at, pending_by}

abbrev wrapped : ℕ → List Fault → Pending
wrapped number longer = record { plan = longer; parent = number }

at_one : (plan : List Fault) (number : ℕ) (index : List Occurrence) (choices : List Reply) →
    map (pending_at plan number index) choices ≡ map (wrapped number) (map (λ given. plan ++ record { index = index; reply = given } ∷ []) choices)
at_one plan number index [] = refl
at_one plan number index (given ∷ choices) = ap (λ rest. pending_at plan number index given ∷ rest) (at_one plan number index choices)

-- the extensions at each of the calls, in their order
pub by_calls : (faults : ChoiceTable) (plan : List Fault) (number : ℕ) (calls : List Visit) → flat_map (pending_by faults plan number) calls
    ≡ map (λ longer. record { plan = longer; parent = number }) (flat_map (extensions_at (choices_for faults) plan) (between_services calls))
by_calls faults plan number [] = refl
by_calls faults plan number (call ∷ calls) = by (is_between_services call.index) (by_calls faults plan number calls) where
  by : (b : Bool)
      → flat_map (pending_by faults plan number) calls ≡ map (wrapped number) (flat_map (extensions_at (choices_for faults) plan) (between_services calls))
      → cond b (map (pending_at plan number call.index) (choices_for faults call.callee)) [] ++ flat_map (pending_by faults plan number) calls
      ≡ map (wrapped number) (flat_map (extensions_at (choices_for faults) plan) (cond b (call ∷ between_services calls) (between_services calls)))
  by true rest =
      (λ i. at_one plan number call.index (choices_for faults call.callee) i ++ rest i)
      ∙ sym (map-append (wrapped number) (extensions_at (choices_for faults) plan call) (flat_map (extensions_at (choices_for faults) plan) (between_services calls)))
  by false rest = rest

-- what holds of all calls holds of those that begin later
pub all_after : (P : Visit → Type 0) (index : List Occurrence) (calls : List Visit) → All P calls → All P (begun_after index calls)
all_after P index [] all = all
all_after P index (call ∷ calls) all = by (same_index call.index index) (All-tail P call calls all) (all_after P index calls (All-tail P call calls all)) where
  by : (b : Bool) → All P calls → All P (begun_after index calls) → All P (cond b calls (begun_after index calls))
  by true here later = here
  by false here later = later

pub all_after_plan : (P : Visit → Type 0) (plan : List Fault) (calls : List Visit) → All P calls → All P (begun_after_plan plan calls)
all_after_plan P plan calls all = by (last_or None plan) where
  by : (last : Option Fault) → All P (option_map_or (λ (fault : Fault). begun_after fault.index calls) last calls)
  by None = all
  by (Some fault) = all_after P fault.index calls all
