-- What holds of each line of a campaign.
use Rattle.std.proofs.Common.{◌≡◌, ℕ, ◌+◌, ◌&&◌, Bool, true, false, cond, leb, Option, Some, None, List, [], ◌∷◌, ◌++◌, map, length, refl, subst}
use Rattle.std.specs.Prelude.{nat_le}
use Rattle.fb_index.specs.declared.fault.Fault.{Fault}
use Rattle.fb_tree.specs.declared.recorded.Record.{Record}
use Rattle.fb_campaign.specs.Runs.{Went, Runs}
use Rattle.fb_campaign.specs.Reports.{Cause, Completed, FuelSpent, BudgetSpent, Totals, Line, RecordLine, PlanLine, EndLine, plan_lines, records_in, totals_of}
use Rattle.fb_campaign.specs.Campaign.{Settings, Progress, Turn, GoesOn, Stops, is_among, new_records, plan_line, new_lines, with_records, prune, run, is_pruned, within_budget, turn_of, ended, after_turn, campaign_from, campaign}
use Rattle.fb_meaning.specs.Each.{HoldsOfEach}
use Rattle.fb_functest.proofs.Items.{each_joined, each_mapped}

-- what is new is some of it
new_if : (P : Record → Type 0) (known items : List Record) (item : Record) (b : Bool) → P item
    → HoldsOfEach P (new_records known items) → HoldsOfEach P (new_records (known ++ item ∷ []) items)
    → HoldsOfEach P (cond b (new_records known items) (item ∷ new_records (known ++ item ∷ []) items))
new_if P known items item true here without with = without
new_if P known items item false here without with = (here, with)

new_each : (P : Record → Type 0) (known items : List Record) → HoldsOfEach P items → HoldsOfEach P (new_records known items)
new_each P known [] each = tt
new_each P known (item ∷ items) each =
    new_if P known items item (is_among known item) each.0 (new_each P known items each.1) (new_each P (known ++ item ∷ []) items each.1)

-- a property of lines that the lines of each plan's turn have, where the plan has another one
pub record IsGiven (settings : Settings) (runs : Runs) (Q : List Fault → Type 0) (P : Line → Type 0) : Type 0 where
  pub planned : (is_run : Bool) (above : List Line) (plan : List Fault) (went : Went) → Q plan → runs settings.fuel plan ≡ Some went → P (plan_line is_run above plan went)
  pub recorded : (plan : List Fault) (went : Went) (owner : ℕ) → Q plan → runs settings.fuel plan ≡ Some went
      → HoldsOfEach (λ item. P (RecordLine (record { item = item; owner = owner }))) went.records
  pub completed : (totals : Totals) → P (EndLine Completed totals)
  pub fuel_spent : (plan : List Fault) (totals : Totals) → Q plan → P (EndLine (FuelSpent plan) totals)
  pub budget_spent : (plan : List Fault) (totals : Totals) → Q plan → P (EndLine (BudgetSpent plan) totals)

module _ (settings : Settings) (runs : Runs) (Q : List Fault → Type 0) (P : Line → Type 0) (given : IsGiven settings runs Q P) where
  abbrev IsFine : Turn → Type 0
  IsFine (GoesOn next) = HoldsOfEach P next.lines
  IsFine (Stops cause) = (totals : Totals) → P (EndLine cause totals)

  either : (b : Bool) (one other : Turn) → IsFine one → IsFine other → IsFine (cond b one other)
  either true one other h k = h
  either false one other h k = k

  module _ (progress : Progress) (plan : List Fault) (each : HoldsOfEach P progress.lines) (its : Q plan) where
    budget_fine : (turn : Turn) → IsFine turn → IsFine (within_budget settings progress plan turn)
    budget_fine turn h = either (settings.counts plan && leb settings.budget progress.counted) (Stops (BudgetSpent plan)) turn (λ totals. given.budget_spent plan totals its) h

    run_fine : (went : Went) → runs settings.fuel plan ≡ Some went → HoldsOfEach P (run settings progress plan went).lines
    run_fine went is =
        let owner = length (plan_lines progress.lines) in
        let fresh = new_each (λ item. P (RecordLine (record { item = item; owner = owner }))) (records_in progress.lines) went.records (given.recorded plan went owner its is) in
        let added = each_mapped P (λ item. RecordLine (record { item = item; owner = owner })) (new_records (records_in progress.lines) went.records) fresh in
        each_joined P (with_records progress.lines went) (plan_line true (with_records progress.lines went) plan went ∷ [])
        (each_joined P progress.lines (new_lines progress.lines went) each added)
        (given.planned true (with_records progress.lines went) plan went its is, tt)

    turn_fine : (found : Option Went) → runs settings.fuel plan ≡ found → IsFine (turn_of settings progress plan found)
    turn_fine None is = budget_fine (Stops (FuelSpent plan)) (λ totals. given.fuel_spent plan totals its)
    turn_fine (Some went) is =
        either (is_pruned settings progress went) (GoesOn (prune progress plan went)) (within_budget settings progress plan (GoesOn (run settings progress plan went)))
        (each_joined P progress.lines (plan_line false progress.lines plan went ∷ []) each (given.planned false progress.lines plan went its is, tt))
        (budget_fine (GoesOn (run settings progress plan went)) (run_fine went is))

  each_from : (of_plans : List (List Fault)) (progress : Progress) → HoldsOfEach Q of_plans → HoldsOfEach P progress.lines
      → HoldsOfEach P (campaign_from settings runs of_plans progress)
  unfolding campaign_from
  each_from [] progress its each =
      each_joined P progress.lines (EndLine Completed (totals_of progress.lines) ∷ []) each (given.completed (totals_of progress.lines), tt)
  each_from (plan ∷ of_plans) progress its each =
      after (turn_of settings progress plan (runs settings.fuel plan)) (turn_fine progress plan each its.0 (runs settings.fuel plan) refl)
      (λ next fine. each_from of_plans next its.1 fine)
    where
      after : (turn : Turn) → IsFine turn → ((next : Progress) → HoldsOfEach P next.lines → HoldsOfEach P (campaign_from settings runs of_plans next))
          → HoldsOfEach P (after_turn progress (campaign_from settings runs of_plans) turn)
      after (GoesOn next) fine further = further next fine
      after (Stops cause) fine further =
          each_joined P progress.lines (EndLine cause (totals_of progress.lines) ∷ []) each (fine (totals_of progress.lines), tt)

  pub campaign_each : (of_plans : List (List Fault)) → HoldsOfEach Q of_plans → HoldsOfEach P (campaign settings runs of_plans)
  campaign_each of_plans its = each_from of_plans (record { lines = []; counted = 0 }) its tt
