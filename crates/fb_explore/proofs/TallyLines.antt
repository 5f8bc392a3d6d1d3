-- What plan lines come to, line by line.
use Rattle.std.proofs.Common.{◌≡◌, ℕ, suc, ◌+◌, ◌-◌, Bool, true, false, not, cond, Some, None, List, [], ◌∷◌, ◌++◌, map, filter, length, position, refl, sym, ap, ◌∙◌, arith, append-nil, length-append}
use Rattle.std.specs.Option.{option_or}
use Rattle.std.proofs.lemmas.List.{length-map}
use Rattle.std.proofs.lemmas.List.Elements.{filter-append, filter_map-append}
use Rattle.fb_campaign.specs.Campaign.{new_records, with_records}
use Rattle.fb_campaign.specs.Reports.{Cause, Recorded, Planned, Totals, Line as CampaignLine, RecordLine, PlanLine, EndLine, record_lines, plan_lines, records_in, has_passed, totals_of}
use Rattle.fb_campaign.specs.Runs.{Went}
use Rattle.fb_report.specs.declared.line.Line.TheVariants.{End}
use Rattle.fb_functest.specs.ReportLines.{cause_told, end_line, stopped_at}
use Rattle.fb_explore.specs.Ends.{counted}
use Rattle.fb_explore.specs.Tallies.{Tallied, tallied_of, totals_by, with_line}
use Rattle.fb_explore.specs.Turns.{end_line_by}
use Rattle.fb_explore.proofs.Places.{place_push}

-- ---- counts, with one item more

abbrev one_if : Bool → ℕ
one_if b = cond b 1 0

module _ {A : Type 0} (passed : A → Bool) (xs : List A) (x : A) where
  first_push : position (λ y. not (passed y)) (xs ++ x ∷ []) ≡ option_or (position (λ y. not (passed y)) xs) (cond (passed x) None (Some (length xs)))
  first_push =
      place_push (λ y. not (passed y)) xs x ∙ ap (option_or (position (λ y. not (passed y)) xs)) (by (passed x))
    where
      by : (b : Bool) → cond (not b) (Some (length xs)) None ≡ cond b None (Some (length xs))
      by true = refl
      by false = refl

  count_push : length (filter passed (xs ++ x ∷ [])) ≡ length (filter passed xs) + one_if (passed x)
  count_push =
      ap length (filter-append passed xs (x ∷ [])) ∙ length-append (filter passed xs) (filter passed (x ∷ []))
      ∙ ap (λ n. length (filter passed xs) + n) (by (passed x))
    where
      by : (b : Bool) → length (cond b (x ∷ []) []) ≡ one_if b
      by true = refl
      by false = refl

module _ {A : Type 0} (passed : A → Bool) where
  failed_push : (xs : List A) (x : A) → length (filter (λ y. not (passed y)) (xs ++ x ∷ [])) ≡ length (filter (λ y. not (passed y)) xs) + cond (passed x) 0 1
  failed_push xs x =
      count_push (λ y. not (passed y)) xs x ∙ ap (λ n. length (filter (λ y. not (passed y)) xs) + n) (by (passed x))
    where
      by : (b : Bool) → one_if (not b) ≡ cond b 0 1
      by true = refl
      by false = refl

  -- those that pass and those that don't are all
  both_sorts : (xs : List A) → length (filter passed xs) + length (filter (λ y. not (passed y)) xs) ≡ length xs
  both_sorts [] = refl
  both_sorts (x ∷ xs) = by (passed x) (both_sorts xs)
    where
      by : (b : Bool) → length (filter passed xs) + length (filter (λ y. not (passed y)) xs) ≡ length xs
          → length (cond b (x ∷ filter passed xs) (filter passed xs)) + length (cond (not b) (x ∷ filter (λ y. not (passed y)) xs) (filter (λ y. not (passed y)) xs)) ≡ suc (length xs)
      by true rest = omega (arith, rest)
      by false rest = omega (arith, rest)

  others_left : (xs : List A) → length (filter (λ y. not (passed y)) xs) ≡ length xs - length (filter passed xs)
  others_left xs = (let both = both_sorts xs in omega (arith, both))

-- ---- plan lines

-- what these plan lines come to
abbrev tallied_by : List Planned → Tallied
tallied_by planned = record {
  plans = length planned;
  run = length (filter (λ line. line.is_run) planned);
  failed = length (filter (λ line. not (has_passed line.outcome)) planned);
  first_failed = position (λ line. not (has_passed line.outcome)) planned;
}

tallied_by_push : (planned : List Planned) (line : Planned) → tallied_by (planned ++ line ∷ []) ≡ with_line (tallied_by planned) line.is_run (has_passed line.outcome)
unfolding with_line
tallied_by_push planned line = λ i. record {
  plans = length-append planned (line ∷ []) i;
  run = count_push (λ (line : Planned). line.is_run) planned line i;
  failed = failed_push (λ (line : Planned). has_passed line.outcome) planned line i;
  first_failed = first_push (λ (line : Planned). has_passed line.outcome) planned line i;
}

-- ---- the lines of a campaign

plans_push : (lines : List CampaignLine) (line : Planned) → plan_lines (lines ++ PlanLine line ∷ []) ≡ plan_lines lines ++ line ∷ []
plans_push lines line = filter_map-append _ lines (PlanLine line ∷ [])

pub tallied_push : (lines : List CampaignLine) (line : Planned) → tallied_of (lines ++ PlanLine line ∷ []) ≡ with_line (tallied_of lines) line.is_run (has_passed line.outcome)
tallied_push lines line = ap tallied_by (plans_push lines line) ∙ tallied_by_push (plan_lines lines) line

pub records_push : (lines : List CampaignLine) (line : Planned) → records_in (lines ++ PlanLine line ∷ []) ≡ records_in lines
records_push lines line =
    ap (map (λ (recorded : Recorded). recorded.item)) (filter_map-append _ lines (PlanLine line ∷ []) ∙ append-nil (record_lines lines))

module _ {A : Type 0} (recorded : A → Recorded) where
  no_plans_of : (xs : List A) → plan_lines (map (λ x. RecordLine (recorded x)) xs) ≡ []
  no_plans_of [] = refl
  no_plans_of (x ∷ xs) = no_plans_of xs

  pub plans_records : (lines : List CampaignLine) (xs : List A) → plan_lines (lines ++ map (λ x. RecordLine (recorded x)) xs) ≡ plan_lines lines
  plans_records lines xs =
      filter_map-append _ lines (map (λ x. RecordLine (recorded x)) xs)
      ∙ ap (λ more. plan_lines lines ++ more) (no_plans_of xs) ∙ append-nil (plan_lines lines)

  -- record lines change nothing
  pub tallied_records : (lines : List CampaignLine) (xs : List A) → tallied_of (lines ++ map (λ x. RecordLine (recorded x)) xs) ≡ tallied_of lines
  tallied_records lines xs = ap tallied_by (plans_records lines xs)

-- those of a run's new records
pub tallied_with : (lines : List CampaignLine) (went : Went) → tallied_of (with_records lines went) ≡ tallied_of lines
tallied_with lines went = tallied_records (λ item. record { item = item; owner = length (plan_lines lines) }) lines (new_records (records_in lines) went.records)

-- ---- behind them the end line

module _ (lines : List CampaignLine) (why : Cause) (totals : Totals) where
  pub plans_end : plan_lines (lines ++ EndLine why totals ∷ []) ≡ plan_lines lines
  plans_end = filter_map-append _ lines (EndLine why totals ∷ []) ∙ append-nil (plan_lines lines)

  pub tallied_end : tallied_of (lines ++ EndLine why totals ∷ []) ≡ tallied_of lines
  tallied_end = ap tallied_by plans_end

  pub records_end : records_in (lines ++ EndLine why totals ∷ []) ≡ records_in lines
  records_end =
      ap (map (λ (recorded : Recorded). recorded.item)) (filter_map-append _ lines (EndLine why totals ∷ []) ∙ append-nil (record_lines lines))

pruned_left : (lines : List CampaignLine) → (totals_of lines).pruned ≡ (tallied_of lines).plans - (tallied_of lines).run
pruned_left lines = others_left (λ (line : Planned). line.is_run) (plan_lines lines)

records_all : (lines : List CampaignLine) → length (record_lines lines) ≡ length (records_in lines)
records_all lines = sym (length-map (record_lines lines) (λ (recorded : Recorded). recorded.item))

counted_by : (lines : List CampaignLine) → counted lines ≡ totals_by (tallied_of lines) (length (records_in lines))
counted_by lines = λ i. record {
  plans = (tallied_of lines).plans;
  run = (tallied_of lines).run;
  pruned = pruned_left lines i;
  failed = (tallied_of lines).failed;
  invs = records_all lines i;
  first_failed = (tallied_of lines).first_failed;
}

pub counted_is : (lines : List CampaignLine) (why : Cause) (totals : Totals)
    → counted (lines ++ EndLine why totals ∷ []) ≡ totals_by (tallied_of lines) (length (records_in lines))
counted_is lines why totals =
    counted_by (lines ++ EndLine why totals ∷ [])
    ∙ λ i. totals_by (tallied_end lines why totals i) (length (records_end lines why totals i))

-- the end line tells of the same
pub totals_told : (lines : List CampaignLine) (why : Cause)
    → end_line why (totals_of lines) ≡ end_line_by (cause_told why) (totals_by (tallied_of lines) (length (records_in lines))) (stopped_at why)
totals_told lines why = λ i.
    End (cause_told why) (tallied_of lines).plans (tallied_of lines).run (pruned_left lines i) (tallied_of lines).failed (records_all lines i) (stopped_at why)
