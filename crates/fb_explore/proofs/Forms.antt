-- What a turn adds: records, and then the line of its plan.
use Rattle.std.proofs.Common.{◌≡◌, ℕ, Bool, true, false, cond, Option, Some, None, List, [], ◌∷◌, ◌++◌, drop, length, map, refl, sym, ap, ◌∙◌, subst, append_assoc}
use Rattle.std.specs.List.{last_or}
use Rattle.std.proofs.lemmas.List.{map-append}
use Rattle.std.proofs.lemmas.List.Elements.{filter_map-append}
use Rattle.fb_index.specs.declared.fault.Fault.{Fault}
use Rattle.fb_tree.specs.declared.recorded.Record.{Record}
use Rattle.fb_campaign.specs.Campaign.{Progress, Settings, Turn, GoesOn, Stops, turn_of, run, prune, plan_line, within_budget, is_pruned, new_records, new_lines as record_lines_for, with_records as with_records_for, campaign_from, after_turn}
use Rattle.fb_campaign.specs.Reports.{Cause, Completed, BudgetSpent, FuelSpent, Line as CampaignLine, RecordLine, PlanLine, EndLine, Planned, plan_of_line, plan_lines, plans_in, records_in, totals_of}
use Rattle.fb_campaign.specs.Runs.{Went, Runs}
use Rattle.fb_explore.specs.Ends.{EndsBy}
use Rattle.fb_explore.specs.Turns.{added_by}
use Rattle.fb_explore.proofs.Cutting.{last_push}
use Rattle.fb_explore.proofs.Turning.{dropped}

-- lines of records, and then that of the plan
pub record IsLonger (progress : Progress) (plan : List Fault) (next : Progress) : Type 0 where
  pub records : List CampaignLine
  pub line : Planned
  pub lines_are : next.lines ≡ progress.lines ++ (records ++ PlanLine line ∷ [])
  pub no_plans : plan_lines records ≡ []
  pub plan_is : line.plan ≡ plan

no_plans_in : (owner : ℕ) (items : List Record) → plan_lines (map (λ item. RecordLine (record { item = item; owner = owner })) items) ≡ []
no_plans_in owner [] = refl
no_plans_in owner (item ∷ items) = no_plans_in owner items

module _ (settings : Settings) (progress : Progress) (plan : List Fault) where
  pruned_longer : (went : Went) → IsLonger progress plan (prune progress plan went)
  pruned_longer went = record { records = []; line = line_of (plan_line false progress.lines plan went); lines_are = refl; no_plans = refl; plan_is = refl }
    where
      line_of : CampaignLine → Planned
      line_of (RecordLine r) = record { plan = []; parent = None; is_run = false; uses = []; visits = []; records = []; outcome = went.outcome }
      line_of (PlanLine p) = p
      line_of (EndLine why totals) = record { plan = []; parent = None; is_run = false; uses = []; visits = []; records = []; outcome = went.outcome }

  run_longer : (went : Went) → IsLonger progress plan (run settings progress plan went)
  run_longer went = record {
    records = record_lines_for progress.lines went;
    line = line_of (plan_line true (with_records_for progress.lines went) plan went);
    lines_are = append_assoc progress.lines (record_lines_for progress.lines went) (plan_line true (with_records_for progress.lines went) plan went ∷ []);
    no_plans = no_plans_in (length (plan_lines progress.lines)) (new_records (records_in progress.lines) went.records);
    plan_is = refl;
  }
    where
      line_of : CampaignLine → Planned
      line_of (RecordLine r) = record { plan = []; parent = None; is_run = false; uses = []; visits = []; records = []; outcome = went.outcome }
      line_of (PlanLine p) = p
      line_of (EndLine why totals) = record { plan = []; parent = None; is_run = false; uses = []; visits = []; records = []; outcome = went.outcome }

  -- where it goes on
  abbrev Lengthens : Turn → Type 0
  Lengthens (GoesOn next) = IsLonger progress plan next
  Lengthens (Stops why) = Unit {0}

  of_cond : (b : Bool) (one other : Turn) → Lengthens one → Lengthens other → Lengthens (cond b one other)
  of_cond true one other first second = first
  of_cond false one other first second = second

  turn_lengthens : (found : Option Went) → Lengthens (turn_of settings progress plan found)
  turn_lengthens None = of_cond _ (Stops (BudgetSpent plan)) (Stops (FuelSpent plan)) tt tt
  turn_lengthens (Some went) =
      of_cond (is_pruned settings progress went) (GoesOn (prune progress plan went)) (within_budget settings progress plan (GoesOn (run settings progress plan went)))
      (pruned_longer went) (of_cond _ (Stops (BudgetSpent plan)) (GoesOn (run settings progress plan went)) tt (run_longer went))

  pub longer : (found : Option Went) (next : Progress) → turn_of settings progress plan found ≡ GoesOn next → IsLonger progress plan next
  longer found next is = subst Lengthens is (turn_lengthens found)

module _ (progress : Progress) (plan : List Fault) (next : Progress) (is : IsLonger progress plan next) where
  pub added_are : added_by progress (GoesOn next) ≡ is.records ++ PlanLine is.line ∷ []
  added_are = ap (drop (length progress.lines)) is.lines_are ∙ dropped progress.lines (is.records ++ PlanLine is.line ∷ [])

  pub lines_grow : next.lines ≡ progress.lines ++ added_by progress (GoesOn next)
  lines_grow = is.lines_are ∙ ap (λ more. progress.lines ++ more) (sym added_are)

  pub plans_grow : plans_in next.lines ≡ plans_in progress.lines ++ plan ∷ []
  plans_grow =
      ap plans_in is.lines_are
      ∙ ap (map (λ (line : Planned). line.plan)) (filter_map-append plan_of_line progress.lines (is.records ++ PlanLine is.line ∷ [])
      ∙ ap (λ more. plan_lines progress.lines ++ more) (filter_map-append plan_of_line is.records (PlanLine is.line ∷ []) ∙ ap (λ none. none ++ is.line ∷ []) is.no_plans))
      ∙ map-append (λ (line : Planned). line.plan) (plan_lines progress.lines) (is.line ∷ [])
      ∙ ap (λ last. plans_in progress.lines ++ last ∷ []) is.plan_is

  -- so its last line is no end
  pub no_end : (why : Cause) → ¬ (EndsBy (added_by progress (GoesOn next)) why)
  no_end why ends = (let last = sym (last_push None is.records (PlanLine is.line)) ∙ ap (last_or None) (sym added_are) ∙ ends.1 in cc)

-- ---- what is behind

-- these lines, and more
pub record BeginsSo (front whole : List CampaignLine) : Type 0 where
  pub more : List CampaignLine
  pub parts : whole ≡ front ++ more

pub begins_so : (settings : Settings) (runs : Runs) (plans : List (List Fault)) (progress : Progress) → BeginsSo progress.lines (campaign_from settings runs plans progress)
unfolding campaign_from
begins_so settings runs [] progress = record { more = EndLine Completed (totals_of progress.lines) ∷ []; parts = refl }
begins_so settings runs (plan ∷ plans) progress = by (begins_so settings runs plans) (turn_of settings progress plan (runs settings.fuel plan)) refl
  where
    by : ((next : Progress) → BeginsSo next.lines (campaign_from settings runs plans next)) → (turn : Turn) → turn_of settings progress plan (runs settings.fuel plan) ≡ turn → BeginsSo progress.lines (after_turn progress (campaign_from settings runs plans) turn)
    by then_on (GoesOn next) is =
        let later = then_on next in
        let grown = lines_grow progress plan next (longer settings progress plan (runs settings.fuel plan) next is) in
        record {
          more = added_by progress (GoesOn next) ++ later.more;
          parts = later.parts ∙ ap (λ front. front ++ later.more) grown ∙ append_assoc progress.lines (added_by progress (GoesOn next)) later.more;
        }
    by then_on (Stops why) is = record { more = EndLine why (totals_of progress.lines) ∷ []; parts = refl }
