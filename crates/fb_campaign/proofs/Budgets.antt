-- How many plans a campaign runs, and which budget is enough.
use Rattle.std.proofs.Common.{◌≡◌, ⊎_elim, ℕ, ◌+◌, ◌≤◌, Bool, true, false, Some, List, [], ◌∷◌, ◌++◌, map, filter, length, Contains, sym, ap, ◌∙◌, subst, arith, append-nil, length-append}
use Rattle.std.proofs.lemmas.Bool.{cases_lt}
use Rattle.std.proofs.lemmas.Option.{same_Some}
use Rattle.std.proofs.lemmas.List.{length-map}
use Rattle.std.proofs.lemmas.List.Elements.{Contains-append_left, Contains-append_right, filter_map-append}
use Rattle.fb_index.specs.declared.fault.Fault.{Fault}
use Rattle.fb_tree.specs.declared.recorded.Record.{Record}
use Rattle.fb_campaign.specs.Runs.{Went, Runs, Gives, Choices, AreLawful, AreChoices}
use Rattle.fb_campaign.specs.Plans.{plans, EachEnds, AreAmong, HaveRecordsOf, HaveRecordsOfMet, HaveMetPlans}
use Rattle.fb_campaign.specs.Reports.{Planned, Cause, Line, EndLine, plan_of_line, plan_lines, records_in, plans_in, run_lines, totals_of}
use Rattle.fb_campaign.specs.Campaign.{Settings, Progress, is_pruned, ended, campaign, IsCompleted}
use Rattle.fb_campaign.proofs.Lists.{in_head, in_cases, in_same, in_map, in_get, get_in, filter-fewer, no_more_than}
use Rattle.fb_campaign.proofs.Levels.{planned_met, plans_differ}
use Rattle.fb_campaign.proofs.Uses.{shown_at, plan_split}
use Rattle.fb_campaign.proofs.Counts.{few_runs}
use Rattle.fb_campaign.proofs.Progress.{IsSound, names_written}
use Rattle.fb_campaign.proofs.Campaigns.{Reached, reached, IsCause, all_done, fuel_spent, budget_spent, uncovered}

module _ (runs : Runs) (fuel : ℕ) (reduction : Bool) (past : List (List Fault)) (lines : List Line) (sound : IsSound runs fuel reduction past lines)
    (known : List Record) (all : HaveRecordsOf runs fuel past known) where
  -- each record is that of the run of a plan so far
  records_known : AreAmong (records_in lines) known
  records_known item has =
      let placed = get_in (records_in lines) item has in
      let by = shown_at lines sound.owners (names_written runs fuel reduction past lines sound) placed.0 item placed.1 in
      let there = in_get (plan_lines lines) by.recorded.owner by.line by.there in
      let parts = plan_split lines by.line there in
      let here = sound.written parts.before by.line parts.after parts.is in
      all by.line.plan here.went (in_same by.line.plan _ _ sound.planned (in_map (λ (p : Planned). p.plan) by.line (plan_lines lines) there)) here.done
      item (in_same item _ _ here.records by.shown)

  few_so_far : reduction ≡ true → length (run_lines lines) ≤ 1 + length known
  few_so_far on =
      let few = few_runs lines (sound.reduced on) in
      let most = no_more_than (records_in lines) known sound.records records_known in
      omega (arith, few, most)

  -- where a known record isn't there yet, there are fewer
  fewer_so_far : reduction ≡ true → (item : Record) → Contains known item → ¬ (Contains (records_in lines) item) → length (run_lines lines) ≤ length known
  fewer_so_far on item has new =
      let few = few_runs lines (sound.reduced on) in
      let most = no_more_than (item ∷ records_in lines) known (new, sound.records)
      (λ other there. ⊎_elim (λ same. subst (Contains known) same has) (λ old. records_known other old) (in_cases other item (records_in lines) there)) in
      omega (arith, few, most)

-- the end line is no plan's
plans_ended : (progress : Progress) (cause : Cause) → plan_lines (ended progress cause) ≡ plan_lines progress.lines
plans_ended progress cause =
    filter_map-append plan_of_line progress.lines (EndLine cause (totals_of progress.lines) ∷ []) ∙ append-nil (plan_lines progress.lines)

-- a campaign with reduction runs few plans, whatever ends it
pub campaign_few : (settings : Settings) (runs : Runs) (of_plans : List (List Fault)) → settings.reduction ≡ true → (known : List Record)
    → HaveRecordsOf runs settings.fuel (plans_in (campaign settings runs of_plans)) known
    → length (run_lines (campaign settings runs of_plans)) ≤ 1 + length known
campaign_few settings runs of_plans on known all =
    let found = reached settings runs of_plans in
    let same = ap plan_lines found.is ∙ plans_ended found.progress found.cause in
    let past : plans_in (campaign settings runs of_plans) ≡ found.past = ap (map (λ (p : Planned). p.plan)) same ∙ found.kept.sound.planned in
    let few = few_so_far runs settings.fuel settings.reduction found.past found.progress.lines found.kept.sound known
    (λ plan went has done. all plan went (in_same plan _ _ (sym past) has) done) on in
    let counted = ap (λ lines. length (filter (λ (p : Planned). p.is_run) lines)) same in
    omega (arith, few, counted)

-- ---- which budget is enough

module _ (gives : Gives) (runs : Runs) (choices : Choices) (lawful : AreLawful gives runs) (fitting : AreChoices gives choices)
    (settings : Settings) (ends : EachEnds runs choices settings.fuel) where
  abbrev all_plans : List (List Fault)
  all_plans = plans runs choices settings.fuel

  met_records : (known : List Record) → HaveRecordsOfMet runs choices settings.fuel known → HaveRecordsOf runs settings.fuel all_plans known
  met_records known all plan went has done =
      let met = planned_met gives runs choices lawful fitting settings.fuel plan has went done in
      subst (λ (w : Went). AreAmong w.records known) (same_Some met.went went (sym met.done ∙ done)) (all plan met)

  completes_unless : (found : Reached settings runs all_plans (campaign settings runs all_plans))
      → ((plan : List Fault) (rest : List (List Fault)) → all_plans ≡ found.past ++ plan ∷ rest → settings.budget ≤ found.progress.counted
      → ((went : Went) → runs settings.fuel plan ≡ Some went → is_pruned settings found.progress went ≡ false) → ⊥)
      → IsCompleted (campaign settings runs all_plans)
  completes_unless found within = by_cause found.rest found.cause found.why found.parts found.is
    where
      by_cause : (rest : List (List Fault)) (cause : Cause) → IsCause settings runs found.progress rest cause → all_plans ≡ found.past ++ rest
          → campaign settings runs all_plans ≡ ended found.progress cause → IsCompleted (campaign settings runs all_plans)
      by_cause _ _ all_done parts is = (found.progress.lines, totals_of found.progress.lines, is)
      by_cause _ _ (fuel_spent {plan} {rest} none) parts is =
          (let done = ends plan (in_same plan _ _ (sym parts) (Contains-append_right found.past (plan ∷ rest) plan (in_head plan rest))) in absurd (cc))
      by_cause _ _ (budget_spent {plan} {rest} over not_pruned) parts is = absurd (within plan rest parts over not_pruned)

  -- one more than the different records, where plans are pruned
  pub records_suffice : settings.reduction ≡ true → (known : List Record) → HaveRecordsOfMet runs choices settings.fuel known → 1 + length known ≤ settings.budget
      → IsCompleted (campaign settings runs all_plans)
  records_suffice on known all enough =
      let found = reached settings runs all_plans in
      let lines = found.progress.lines in
      let sound = found.kept.sound in
      completes_unless found (λ plan rest parts over not_pruned. (
      let before : HaveRecordsOf runs settings.fuel found.past known =
      λ earlier went has done. met_records known all earlier went (in_same earlier _ _ (sym parts) (Contains-append_left found.past (plan ∷ rest) earlier has)) done in
      let has = in_same plan _ _ (sym parts) (Contains-append_right found.past (plan ∷ rest) plan (in_head plan rest)) in
      let done = ends plan has in
      let counted = found.kept.counted in
      ⊎_elim
      (λ some. (
      let missing = uncovered settings found.progress done.0 (not_pruned done.0 done.1) on some in
      let fewer = fewer_so_far runs settings.fuel settings.reduction found.past lines sound known before on missing.item
      (met_records known all plan done.0 has done.1 missing.item missing.there) missing.unknown in
      omega (arith, enough, over, counted, fewer)))
      (λ none. (let fewer = filter-fewer (λ (p : Planned). p.is_run) (plan_lines lines) in omega (arith, enough, over, counted, fewer, none)))
      (cases_lt 0 (length (plan_lines lines)))))

  -- as many as there are met plans, whether plans are pruned or not
  pub plans_suffice : (known : List (List Fault)) → HaveMetPlans runs choices settings.fuel known → length known ≤ settings.budget
      → IsCompleted (campaign settings runs all_plans)
  plans_suffice known all enough =
      let found = reached settings runs all_plans in
      let lines = found.progress.lines in
      completes_unless found (λ plan rest parts over not_pruned. (
      let most = no_more_than all_plans known (plans_differ gives runs choices lawful fitting settings.fuel)
      (λ each has. all each (let done = ends each has in planned_met gives runs choices lawful fitting settings.fuel each has done.0 done.1)) in
      let long = ap length parts ∙ length-append found.past (plan ∷ rest) in
      let fewer = filter-fewer (λ (p : Planned). p.is_run) (plan_lines lines) in
      let past = sym (length-map (plan_lines lines) (λ (p : Planned). p.plan)) ∙ ap length found.kept.sound.planned in
      let counted = found.kept.counted in
      omega (arith, enough, over, counted, fewer, past, long, most)))
