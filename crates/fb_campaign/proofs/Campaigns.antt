-- How a campaign goes, and why it ends.
use Rattle.std.proofs.Common.{◌≡◌, ⊎_elim, ℕ, ◌+◌, ◌<◌, ◌≤◌, ◌&&◌, Bool, true, false, cond, ltb, leb, Option, Some, None, List, [], ◌∷◌, ◌++◌, length, refl, sym, ◌∙◌, subst, arith, append_assoc, append-nil}
use Rattle.std.proofs.lemmas.Bool.{and_parts, and_cases, ltb-true, lt-ltb, leb-true, false≢true}
use Rattle.std.proofs.lemmas.Option.{same_Some}
use Rattle.std.proofs.lemmas.List.{same_from_push}
use Rattle.std.proofs.lemmas.List.Elements.{Contains-append_cases}
use Rattle.fb_index.specs.declared.fault.Fault.{Fault}
use Rattle.fb_campaign.specs.Runs.{Went, Runs}
use Rattle.fb_campaign.specs.Reports.{Planned, Totals, Cause, Completed, FuelSpent, BudgetSpent, Line, PlanLine, EndLine, plan_lines, records_in, run_lines, totals_of}
use Rattle.fb_campaign.specs.Campaign.{Settings, Progress, Turn, GoesOn, Stops, prune, run, is_covered, is_pruned, within_budget, turn_of, plan_line, new_records, ended, after_turn, campaign_from, campaign}
use Rattle.fb_campaign.proofs.Lists.{in_none, in_same}
use Rattle.fb_campaign.proofs.Records.{covered_among, Missing, uncovered_missing, are_new}
use Rattle.fb_campaign.proofs.Progress.{IsSound, IsFresh, sound_next, run_next}

-- ---- one turn

-- a plan isn't pruned where it is covered by no records so far, or is the first one, or nothing is pruned
pub data TurnIs (settings : Settings) (progress : Progress) (plan : List Fault) (found : Option Went) : Turn → Type 0 where
  pruned : (went : Went) → found ≡ Some went → is_pruned settings progress went ≡ true → TurnIs settings progress plan found (GoesOn (prune progress plan went))
  ran : (went : Went) → found ≡ Some went → is_pruned settings progress went ≡ false → TurnIs settings progress plan found (GoesOn (run settings progress plan went))
  spent : found ≡ None → TurnIs settings progress plan found (Stops (FuelSpent plan))
  over : settings.budget ≤ progress.counted → ((went : Went) → found ≡ Some went → is_pruned settings progress went ≡ false)
      → TurnIs settings progress plan found (Stops (BudgetSpent plan))

module _ (settings : Settings) (progress : Progress) (plan : List Fault) where
  over_or : (found : Option Went) (turn : Turn) (b : Bool) → (settings.counts plan && leb settings.budget progress.counted) ≡ b
      → ((went : Went) → found ≡ Some went → is_pruned settings progress went ≡ false)
      → TurnIs settings progress plan found turn → TurnIs settings progress plan found (cond b (Stops (BudgetSpent plan)) turn)
  over_or found turn true is kept otherwise =
      over (leb-true settings.budget progress.counted (and_parts (settings.counts plan) (leb settings.budget progress.counted) is).1) kept
  over_or found turn false is kept otherwise = otherwise

  pruned_or : (went : Went) (b : Bool) → is_pruned settings progress went ≡ b
      → TurnIs settings progress plan (Some went) (cond b (GoesOn (prune progress plan went)) (within_budget settings progress plan (GoesOn (run settings progress plan went))))
  pruned_or went true is = pruned went refl is
  pruned_or went false is =
      over_or (Some went) (GoesOn (run settings progress plan went)) (settings.counts plan && leb settings.budget progress.counted) refl
      (λ other same. subst (λ w. is_pruned settings progress w ≡ false) (same_Some went other same) is) (ran went refl is)

  pub turn_is : (found : Option Went) → TurnIs settings progress plan found (turn_of settings progress plan found)
  turn_is None =
      over_or None (Stops (FuelSpent plan)) (settings.counts plan && leb settings.budget progress.counted) refl (λ went same. absurd (cc)) (spent refl)
  turn_is (Some went) = pruned_or went (is_pruned settings progress went) refl

-- ---- what holds after a turn

pub record IsProgress (settings : Settings) (runs : Runs) (past : List (List Fault)) (progress : Progress) : Type 0 where
  pub sound : IsSound runs settings.fuel settings.reduction past progress.lines
  pub counted : progress.counted ≤ length (run_lines progress.lines)

pruned_fresh : (settings : Settings) (progress : Progress) (went : Went) → is_pruned settings progress went ≡ true
    → IsFresh settings.reduction progress.lines went false []
pruned_fresh settings progress went is =
    let parts = and_parts (settings.reduction && ltb 0 (length (plan_lines progress.lines))) (is_covered (records_in progress.lines) went) is in
    let some = (and_parts settings.reduction (ltb 0 (length (plan_lines progress.lines))) parts.0).1 in
    record {
      differ = tt;
      unknown = λ item has. in_none item has;
      among = λ item has. in_none item has;
      all = λ item has. in_same item _ _ (sym (append-nil (records_in progress.lines))) (covered_among (records_in progress.lines) went parts.1 item has);
      pruned = λ none. (refl, ltb-true 0 (length (plan_lines progress.lines)) some);
      added = λ on run first. absurd (false≢true run);
    }

-- a record that isn't known yet is added
pub uncovered : (settings : Settings) (progress : Progress) (went : Went) → is_pruned settings progress went ≡ false → settings.reduction ≡ true
    → 0 < length (plan_lines progress.lines) → Missing (records_in progress.lines) went.records
uncovered settings progress went is on some =
    ⊎_elim
    (λ early. ⊎_elim (λ off. absurd (false≢true (sym off ∙ on))) (λ none. absurd (false≢true (sym none ∙ lt-ltb 0 (length (plan_lines progress.lines)) some)))
    (and_cases settings.reduction (ltb 0 (length (plan_lines progress.lines))) early))
    (λ not_covered. uncovered_missing (records_in progress.lines) went not_covered)
    (and_cases (settings.reduction && ltb 0 (length (plan_lines progress.lines))) (is_covered (records_in progress.lines) went) is)

ran_fresh : (settings : Settings) (progress : Progress) (went : Went) → is_pruned settings progress went ≡ false
    → IsFresh settings.reduction progress.lines went true (new_records (records_in progress.lines) went.records)
ran_fresh settings progress went is =
    let known = records_in progress.lines in
    let fresh = are_new known went.records in
    record {
      differ = fresh.differ;
      unknown = fresh.unknown;
      among = fresh.among;
      all = fresh.all;
      pruned = λ none. absurd (false≢true (sym none));
      added = λ on run some. (
          let missing = uncovered settings progress went is on some in
          ⊎_elim (λ old. absurd (missing.unknown old)) (λ new. (let within = new.1 in omega (arith, within)))
          (Contains-append_cases known (new_records known went.records) missing.item (fresh.all missing.item missing.there)));
    }

module _ (settings : Settings) (runs : Runs) (past : List (List Fault)) (progress : Progress) (kept : IsProgress settings runs past progress)
    (plan : List Fault) (went : Went) (done : runs settings.fuel plan ≡ Some went) where
  abbrev After : List Line → ℕ → Type 0
  After lines ran_now = IsSound runs settings.fuel settings.reduction (past ++ plan ∷ []) lines × (length (run_lines lines) ≡ length (run_lines progress.lines) + ran_now)

  pruned_kept : is_pruned settings progress went ≡ true → IsProgress settings runs (past ++ plan ∷ []) (prune progress plan went)
  pruned_kept is =
      let fresh = pruned_fresh settings progress went is in
      let after : After ((progress.lines ++ []) ++ plan_line false (progress.lines ++ []) plan went ∷ []) 0 = (
        sound_next runs settings.fuel settings.reduction past progress.lines kept.sound plan went done false [] fresh,
        run_next runs settings.fuel settings.reduction past progress.lines kept.sound plan went done false [] fresh false refl,
      ) in
      let same = subst (λ lines. After (lines ++ plan_line false lines plan went ∷ []) 0) (append-nil progress.lines) after in
      record { sound = same.0; counted = (let counted = kept.counted in let grown = same.1 in omega (arith, counted, grown)) }

  ran_kept : is_pruned settings progress went ≡ false → IsProgress settings runs (past ++ plan ∷ []) (run settings progress plan went)
  ran_kept is =
      let fresh = ran_fresh settings progress went is in
      let new = new_records (records_in progress.lines) went.records in
      let grown = run_next runs settings.fuel settings.reduction past progress.lines kept.sound plan went done true new fresh true refl in
      record {
        sound = sound_next runs settings.fuel settings.reduction past progress.lines kept.sound plan went done true new fresh;
        counted = more (settings.counts plan) kept.counted grown;
      }
    where
      more : (b : Bool) → progress.counted ≤ length (run_lines progress.lines) → length (run_lines (run settings progress plan went).lines) ≡ length (run_lines progress.lines) + 1
          → progress.counted + cond b 1 0 ≤ length (run_lines (run settings progress plan went).lines)
      more true counted grown = omega (arith, counted, grown)
      more false counted grown = omega (arith, counted, grown)

-- ---- all turns

-- why a campaign ends, with the plans that are left
pub data IsCause (settings : Settings) (runs : Runs) (progress : Progress) : List (List Fault) → Cause → Type 0 where
  all_done : IsCause settings runs progress [] Completed
  fuel_spent : {plan : List Fault} {rest : List (List Fault)} → runs settings.fuel plan ≡ None → IsCause settings runs progress (plan ∷ rest) (FuelSpent plan)
  budget_spent : {plan : List Fault} {rest : List (List Fault)} → settings.budget ≤ progress.counted
      → ((went : Went) → runs settings.fuel plan ≡ Some went → is_pruned settings progress went ≡ false)
      → IsCause settings runs progress (plan ∷ rest) (BudgetSpent plan)

pub record Reached (settings : Settings) (runs : Runs) (of_plans : List (List Fault)) (lines : List Line) : Type 0 where
  pub past : List (List Fault)
  pub rest : List (List Fault)
  pub progress : Progress
  pub cause : Cause
  pub parts : of_plans ≡ past ++ rest
  pub is : lines ≡ ended progress cause
  pub kept : IsProgress settings runs past progress
  pub why : IsCause settings runs progress rest cause

module _ (settings : Settings) (runs : Runs) where
  reached_from : (past left : List (List Fault)) (progress : Progress) → IsProgress settings runs past progress
      → Reached settings runs (past ++ left) (campaign_from settings runs left progress)
  unfolding campaign_from
  reached_from past [] progress kept = record {
    past = past;
    rest = [];
    progress = progress;
    cause = Completed;
    parts = refl;
    is = refl;
    kept = kept;
    why = all_done;
  }
  reached_from past (plan ∷ left) progress kept =
      after (turn_of settings progress plan (runs settings.fuel plan)) (turn_is settings progress plan (runs settings.fuel plan))
      (λ next further. subst (λ of_plans. Reached settings runs of_plans (campaign_from settings runs left next)) (append_assoc past (plan ∷ []) left)
      (reached_from (past ++ plan ∷ []) left next further))
    where
      after : (turn : Turn) → TurnIs settings progress plan (runs settings.fuel plan) turn
          → ((next : Progress) → IsProgress settings runs (past ++ plan ∷ []) next → Reached settings runs (past ++ plan ∷ left) (campaign_from settings runs left next))
          → Reached settings runs (past ++ plan ∷ left) (after_turn progress (campaign_from settings runs left) turn)
      after _ (pruned went done is) further = further (prune progress plan went) (pruned_kept settings runs past progress kept plan went done is)
      after _ (ran went done is) further = further (run settings progress plan went) (ran_kept settings runs past progress kept plan went done is)
      after _ (spent done) further = record {
        past = past;
        rest = plan ∷ left;
        progress = progress;
        cause = FuelSpent plan;
        parts = refl;
        is = refl;
        kept = kept;
        why = fuel_spent done;
      }
      after _ (over budget not_pruned) further = record {
        past = past;
        rest = plan ∷ left;
        progress = progress;
        cause = BudgetSpent plan;
        parts = refl;
        is = refl;
        kept = kept;
        why = budget_spent budget not_pruned;
      }

  nothing_yet : IsProgress settings runs [] (record { lines = []; counted = 0 })
  nothing_yet = record {
    sound = record {
      planned = refl;
      records = tt;
      written = λ above line below is. absurd (no_lines above line below is);
      owners = record { owned = λ place line is. absurd (cc); earlier = λ number line is. absurd (cc) };
      reduced = λ on number line is. absurd (cc);
      no_end = λ cause totals has. in_none (EndLine cause totals) has;
      root = λ line is. absurd (cc);
    };
    counted = omega arith;
  }
    where
      no_lines : (above : List Line) (line : Planned) (below : List Line) → [] ≡ above ++ PlanLine line ∷ below → ⊥
      no_lines [] line below is = absurd (cc)
      no_lines (first ∷ above) line below is = absurd (cc)

  pub reached : (of_plans : List (List Fault)) → Reached settings runs of_plans (campaign settings runs of_plans)
  reached of_plans = reached_from [] of_plans (record { lines = []; counted = 0 }) nothing_yet

-- a completed campaign went through all its plans
pub all_reached : (settings : Settings) (runs : Runs) (of_plans : List (List Fault)) (lines : List Line) (body : List Line) (totals : Totals)
    → (found : Reached settings runs of_plans lines) → lines ≡ body ++ EndLine Completed totals ∷ [] → (found.rest ≡ []) × (found.cause ≡ Completed)
all_reached settings runs of_plans lines body totals found is =
    let last = (same_from_push found.progress.lines body (EndLine found.cause (totals_of found.progress.lines)) (EndLine Completed totals) (sym found.is ∙ is)).1 in
    by_cause found.rest found.cause found.why (cause_same found.cause Completed last)
  where
    cause_same : (a b : Cause) → EndLine a (totals_of found.progress.lines) ≡ EndLine b totals → a ≡ b
    cause_same a b same = cc

    by_cause : (rest : List (List Fault)) (cause : Cause) → IsCause settings runs found.progress rest cause → cause ≡ Completed → (rest ≡ []) × (cause ≡ Completed)
    by_cause _ _ all_done same = (refl, same)
    by_cause _ _ (fuel_spent none) same = absurd (cc)
    by_cause _ _ (budget_spent spent_all not_pruned) same = absurd (cc)
