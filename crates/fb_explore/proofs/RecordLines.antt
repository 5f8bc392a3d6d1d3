-- The record lines that a campaign adds, and what a report has for them.
use Rattle.std.proofs.Common.{◌≡◌, ℕ, suc, ◌+◌, Bool, true, false, Option, Some, None, List, [], ◌∷◌, ◌++◌, map, length, refl, sym, ap, ◌∙◌, arith, append_assoc, append-nil, length-append}
use Rattle.std.specs.Prelude.{option_map, option_and_then}
use Rattle.std.specs.List.{list_any}
use Rattle.std.specs.Option.{option_to_list}
use Rattle.std.proofs.lemmas.Option.{same_Some}
use Rattle.fb_syntax.specs.Trees.{ServicesTree}
use Rattle.fb_tree.specs.Sameness.{same_record}
use Rattle.fb_tree.specs.declared.recorded.Record.{Record}
use Rattle.fb_campaign.specs.Reports.{Line as CampaignLine, RecordLine, PlanLine, EndLine, record_lines, records_in}
use Rattle.fb_campaign.specs.Campaign.{new_records}
use Rattle.fb_store.specs.Following.{with_record}
use Rattle.fb_report.specs.declared.line.Line.{Line}
use Rattle.fb_report.specs.Names.{each_of}
use Rattle.fb_functest.specs.ReportLines.{inv_line, line_of, with_above, lines_below}
use Rattle.fb_explore.specs.Recording.{inv_lines, new_lines}
use Rattle.fb_explore.proofs.Adding.{known_lines, fresh_lines}
use Rattle.fb_explore.proofs.Numbers.{with_known, with_new, new_where_known, new_where_new}

-- the lines of records that a plan line owns
abbrev pub recorded : ℕ → List Record → List CampaignLine
recorded owner items = map (λ item. RecordLine (record { item = item; owner = owner })) items

-- ---- lines by their sorts

pub records_joined : (above below : List CampaignLine) → records_in (above ++ below) ≡ records_in above ++ records_in below
records_joined [] below = refl
records_joined (RecordLine line ∷ above) below = ap (λ items. line.item ∷ items) (records_joined above below)
records_joined (PlanLine line ∷ above) below = records_joined above below
records_joined (EndLine why totals ∷ above) below = records_joined above below

pub count_records : (lines : List CampaignLine) → length (record_lines lines) ≡ length (records_in lines)
count_records [] = refl
count_records (RecordLine line ∷ lines) = ap suc (count_records lines)
count_records (PlanLine line ∷ lines) = count_records lines
count_records (EndLine why totals ∷ lines) = count_records lines

pub all_records : (owner : ℕ) (items : List Record) → records_in (recorded owner items) ≡ items
all_records owner [] = refl
all_records owner (item ∷ items) = ap (λ rest. item ∷ rest) (all_records owner items)

-- ---- one line and the others

record IsPair {A B : Type 0} (f : A → Option B) (x : A) (xs : List A) (out : List B) : Type 0 where
  first : B
  others : List B
  first_is : f x ≡ Some first
  others_are : each_of f xs ≡ Some others
  out_is : out ≡ first ∷ others

each_pair : {A B : Type 0} (f : A → Option B) (x : A) (xs : List A) (out : List B) → each_of f (x ∷ xs) ≡ Some out → IsPair f x xs out
each_pair {A} {B} f x xs out is = by (f x) refl (each_of f xs) refl is
  where
    by : (o : Option B) → f x ≡ o → (os : Option (List B)) → each_of f xs ≡ os
        → option_and_then (λ y. option_map (λ ys. y ∷ ys) os) o ≡ Some out → IsPair f x xs out
    by None one os more e = absurd (cc)
    by (Some y) one None more e = absurd (cc)
    by (Some y) one (Some ys) more e = record { first = y; others = ys; first_is = one; others_are = more; out_is = sym (same_Some (y ∷ ys) out e) }

-- ---- what a report has

-- the lines behind these, and all of them
pub record AreBehind (services : ServicesTree) (version : ℕ) (above rest : List CampaignLine) (front out : List Line) : Type 0 where
  pub others : List Line
  pub others_are : lines_below services version above rest ≡ Some others
  pub all_are : out ≡ front ++ others

module _ (services : ServicesTree) (version owner : ℕ) (rest : List CampaignLine) where
  one_line_more : (above : List CampaignLine) (item : Record) → length (record_lines (above ++ RecordLine (record { item = item; owner = owner }) ∷ [])) ≡ length (record_lines above) + 1
  one_line_more [] item = refl
  one_line_more (RecordLine line ∷ above) item = (let rest = one_line_more above item in omega (arith, rest))
  one_line_more (PlanLine line ∷ above) item = one_line_more above item
  one_line_more (EndLine why totals ∷ above) item = one_line_more above item

  pub below_recorded : (above : List CampaignLine) (known items : List Record) (out : List Line) → length (record_lines above) ≡ length known
      → lines_below services version above (recorded owner (new_records known items) ++ rest) ≡ Some out
      → AreBehind services version (above ++ recorded owner (new_records known items)) rest (new_lines services owner known items) out
  below_recorded above known [] out many is = record {
    others = out;
    others_are = ap (λ all. lines_below services version all rest) (append-nil above) ∙ is;
    all_are = refl;
  }
  below_recorded above known (item ∷ items) out many is =
      by (list_any (same_record item) known) refl
      (below_recorded above known items)
      (below_recorded (above ++ RecordLine (record { item = item; owner = owner }) ∷ []) (known ++ item ∷ []) items)
    where
      this : CampaignLine
      this = RecordLine (record { item = item; owner = owner })

      one_more : (xs : List Record) → length (xs ++ item ∷ []) ≡ length xs + 1
      one_more xs = length-append xs (item ∷ [])

      by : (b : Bool) → list_any (same_record item) known ≡ b
          → ((out : List Line) → length (record_lines above) ≡ length known → lines_below services version above (recorded owner (new_records known items) ++ rest) ≡ Some out
          → AreBehind services version (above ++ recorded owner (new_records known items)) rest (new_lines services owner known items) out)
          → ((out : List Line) → length (record_lines (above ++ this ∷ [])) ≡ length (known ++ item ∷ [])
          → lines_below services version (above ++ this ∷ []) (recorded owner (new_records (known ++ item ∷ []) items) ++ rest) ≡ Some out
          → AreBehind services version ((above ++ this ∷ []) ++ recorded owner (new_records (known ++ item ∷ []) items)) rest (new_lines services owner (known ++ item ∷ []) items) out)
          → AreBehind services version (above ++ recorded owner (new_records known (item ∷ items))) rest (new_lines services owner known (item ∷ items)) out
      by true known_is without with =
          let same = new_where_known known items item known_is in
          let behind = without out many (ap (λ new. lines_below services version above (recorded owner new ++ rest)) (sym same) ∙ is) in
          record {
            others = behind.others;
            others_are = ap (λ new. lines_below services version (above ++ recorded owner new) rest) same ∙ behind.others_are;
            all_are = behind.all_are ∙ ap (λ front. front ++ behind.others)
                (sym (ap (λ lines. lines ++ new_lines services owner (with_record known item) items) (known_lines services owner known item known_is)
                ∙ ap (λ after. new_lines services owner after items) (with_known known item known_is)));
          }
      by false new_is without with =
          let same = new_where_new known items item new_is in
          let parts = each_pair (λ placed. line_of services version placed.0 placed.1) (above, this) (with_above (above ++ this ∷ []) (recorded owner (new_records (known ++ item ∷ []) items) ++ rest)) out
          (ap (λ new. lines_below services version above (recorded owner new ++ rest)) (sym same) ∙ is) in
          let behind = with parts.others (one_line_more above item ∙ ap (λ n. n + 1) many ∙ sym (one_more known)) parts.others_are in
          let first : parts.first ∷ [] ≡ inv_lines services owner (length known) item =
          sym (ap option_to_list (ap (λ n. inv_line services n (record { item = item; owner = owner })) (sym many) ∙ parts.first_is)) in
          record {
            others = behind.others;
            others_are = ap (λ new. lines_below services version (above ++ recorded owner new) rest) same
                ∙ ap (λ all. lines_below services version all rest) (sym (append_assoc above (this ∷ []) (recorded owner (new_records (known ++ item ∷ []) items))))
                ∙ behind.others_are;
            all_are = parts.out_is ∙ ap (λ line. line ++ parts.others) first
                ∙ ap (λ rest. inv_lines services owner (length known) item ++ rest) behind.all_are
                ∙ sym (append_assoc (inv_lines services owner (length known) item) (new_lines services owner (known ++ item ∷ []) items) behind.others)
                ∙ ap (λ front. front ++ behind.others)
                (sym (ap (λ line. line ++ new_lines services owner (with_record known item) items) (fresh_lines services owner known item new_is)
                ∙ ap (λ after. inv_lines services owner (length known) item ++ new_lines services owner after items) (with_new known item new_is)));
          }
