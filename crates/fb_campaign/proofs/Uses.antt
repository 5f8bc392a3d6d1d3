-- Which records the lines of a report use, and which lines show a record.
use Rattle.std.proofs.Common.{◌≡◌, ℕ, true, Some, List, ◌∷◌, ◌++◌, map, slice_get, Contains, sym, ap, ◌∙◌, subst}
use Rattle.std.proofs.lemmas.Option.{same_Some}
use Rattle.std.proofs.lemmas.List.{map-append}
use Rattle.std.proofs.lemmas.List.Elements.{filter_map-append}
use Rattle.fb_tree.specs.declared.recorded.Record.{Record}
use Rattle.fb_campaign.specs.Reports.{Recorded, Planned, Line, RecordLine, PlanLine, EndLine, record_of_line, plan_of_line, record_lines, plan_lines, records_in}
use Rattle.fb_campaign.specs.Valid.{AreOwners}
use Rattle.fb_campaign.proofs.Lists.{in_same, in_map, map_has, map_get, in_get, get_left, filter_map_has, Split, split}

-- ---- a plan line, as it stands in the report

pub line_of_plan : (line : Line) (planned : Planned) → plan_of_line line ≡ Some planned → line ≡ PlanLine planned
line_of_plan (RecordLine recorded) planned is = absurd (cc)
line_of_plan (PlanLine other) planned is = ap PlanLine (same_Some other planned is)
line_of_plan (EndLine cause totals) planned is = absurd (cc)

pub plan_split : (lines : List Line) (line : Planned) → Contains (plan_lines lines) line → Split lines (PlanLine line)
plan_split lines line has =
    let found = filter_map_has plan_of_line line lines has in
    split lines (PlanLine line) (subst (Contains lines) (line_of_plan found.0 line found.2) found.1)

-- ---- the records that a line uses

pub record Names (lines : List Line) (uses : List ℕ) (records : List Record) : Type 0 where
  pub used : (place : ℕ) → Contains uses place → (item : Record) × Contains records item × (slice_get (records_in lines) place ≡ Some item)
  pub named : (item : Record) → Contains records item → (place : ℕ) × Contains uses place × (slice_get (records_in lines) place ≡ Some item)

module _ (lines above below : List Line) (line : Line) (is : lines ≡ above ++ line ∷ below) where
  -- the records above a line are the first ones of all
  records_above : (place : ℕ) (item : Record) → slice_get (records_in above) place ≡ Some item → slice_get (records_in lines) place ≡ Some item
  records_above place item there =
      let parts : records_in lines ≡ records_in above ++ records_in (line ∷ below) =
      ap records_in is ∙ ap (map (λ (r : Recorded). r.item)) (filter_map-append record_of_line above (line ∷ below))
      ∙ map-append (λ (r : Recorded). r.item) (record_lines above) (record_lines (line ∷ below)) in
      ap (λ items. slice_get items place) parts ∙ get_left (records_in above) (records_in (line ∷ below)) place item there

  pub names_above : (uses : List ℕ) (records : List Record) → map (slice_get (records_in above)) uses ≡ map Some records → Names lines uses records
  names_above uses records same = record {
    used = λ place has. (
        let found = map_has Some (slice_get (records_in above) place) records
        (in_same (slice_get (records_in above) place) _ _ same (in_map (slice_get (records_in above)) place uses has)) in
        (found.0, found.1, records_above place found.0 (sym found.2)));
    named = λ item has. (
        let found = map_has (slice_get (records_in above)) (Some item) uses (in_same (Some item) _ _ (sym same) (in_map Some item records has)) in
        (found.0, found.1, records_above found.0 item found.2));
  }

-- ---- the line that shows a record

pub record ShownAt (lines : List Line) (place : ℕ) (item : Record) : Type 0 where
  pub recorded : Recorded
  pub at : slice_get (record_lines lines) place ≡ Some recorded
  pub line : Planned
  pub there : slice_get (plan_lines lines) recorded.owner ≡ Some line
  pub is_run : line.is_run ≡ true
  pub shown : Contains line.records item

module _ (lines : List Line) (owners : AreOwners lines) (names : (line : Planned) → Contains (plan_lines lines) line → Names lines line.uses line.records) where
  pub shown_at : (place : ℕ) (item : Record) → slice_get (records_in lines) place ≡ Some item → ShownAt lines place item
  shown_at place item placed =
      let recorded = map_get (λ (r : Recorded). r.item) (record_lines lines) place item placed in
      let owned = owners.owned place recorded.0 recorded.1 in
      let theirs = (names owned.line (in_get (plan_lines lines) recorded.0.owner owned.line owned.there)).used place owned.uses in
      record {
        recorded = recorded.0;
        at = recorded.1;
        line = owned.line;
        there = owned.there;
        is_run = owned.is_run;
        shown = subst (Contains owned.line.records) (same_Some theirs.0 item (sym theirs.2 ∙ placed)) theirs.1;
      }
