-- Turns, by the way that they take.
use Rattle.std.proofs.Common.{◌≡◌, inl, inr, ℕ, ◌+◌, ◌<◌, ◌≤◌, Bool, true, false, cond, leb, ltb, Option, Some, None, Result, Ok, Err, List, [], ◌∷◌, ◌++◌, drop, length, refl, sym, ap, ◌∙◌, subst, arith, append_assoc}
use Rattle.std.specs.Prelude.{◌&&◌}
use Rattle.std.specs.Result.{IsErrAnd}
use Rattle.std.proofs.lemmas.Bool.Decides.{nat_tests}
use Rattle.std.proofs.lemmas.Option.{same_Some}
use Rattle.fb_index.specs.declared.fault.Fault.{Fault}
use Rattle.fb_syntax.specs.Trees.{ServicesTree}
use Rattle.fb_tree.specs.declared.visit.Visit.{Visit}
use Rattle.fb_campaign.specs.Campaign.{Progress, Settings, Turn, GoesOn, Stops, turn_of, run, prune, plan_line, within_budget, is_pruned, is_covered, new_lines as record_lines_for, with_records as with_records_for}
use Rattle.fb_campaign.specs.Reports.{Cause, FuelSpent, BudgetSpent, Line as CampaignLine, EndLine, records_in, plan_lines, totals_of}
use Rattle.fb_campaign.specs.Runs.{Went}
use Rattle.fb_meaning.specs.Evaluations.{Spent}
use Rattle.fb_meaning.specs.Runs.{run_of, IsCovered}
use Rattle.fb_functest.specs.ReportLaws.{CoveredIsFound}
use Rattle.fb_functest.specs.ReportLines.{end_line, lines_below, cause_told, stopped_at}
use Rattle.fb_functest.specs.Runs.{runs_of, went_if_done}
use Rattle.fb_report.specs.declared.line.Line.{Line}
use Rattle.fb_explore.specs.declared.end.ExploreEnd.{ExploreEnd}
use Rattle.fb_explore.specs.declared.end.ExploreEnd.TheVariants as end
use Rattle.fb_explore.specs.declared.error.PutError.{PutError}
use Rattle.fb_explore.specs.declared.error.PutError.TheVariants as put
use Rattle.fb_explore.specs.declared.explorer.Explorer.{Explorer}
use Rattle.fb_explore.specs.declared.known.Known.{Known}
use Rattle.fb_explore.specs.Ends.{end_of, stop_before_end, TicksAtMost, uses_in}
use Rattle.fb_explore.specs.Puts.{HavePutLines}
use Rattle.fb_explore.specs.Turns.{AnswersTurn, GoesOnWith, IsKnownOf, IsTurn, StopsBy, added_by, added_if_pruned, added_if_run, end_line_by, ran_or_spent, settings_by, turn_by, turn_if_run}
use Rattle.fb_explore.specs.Tallies.{tallied_of, totals_by}
use Rattle.fb_explore.proofs.Puts.{exits, put_whole}
use Rattle.fb_explore.proofs.TallyLines.{totals_told}

-- ---- what is added

pub dropped : {A : Type 0} (front rest : List A) → drop (length front) (front ++ rest) ≡ rest
dropped [] rest = refl
dropped (x ∷ front) rest = dropped front rest

pub pruned_adds : (progress : Progress) (plan : List Fault) (went : Went) → added_by progress (GoesOn (prune progress plan went)) ≡ added_if_pruned progress plan went
pruned_adds progress plan went = dropped progress.lines (added_if_pruned progress plan went)

pub run_lines_are : (settings : Settings) (progress : Progress) (plan : List Fault) (went : Went) → (run settings progress plan went).lines ≡ progress.lines ++ added_if_run progress plan went
run_lines_are settings progress plan went =
    append_assoc progress.lines (record_lines_for progress.lines went) (plan_line true (with_records_for progress.lines went) plan went ∷ [])

pub run_adds : (settings : Settings) (progress : Progress) (plan : List Fault) (went : Went) → added_by progress (GoesOn (run settings progress plan went)) ≡ added_if_run progress plan went
run_adds settings progress plan went = ap (drop (length progress.lines)) (run_lines_are settings progress plan went) ∙ dropped progress.lines (added_if_run progress plan went)

-- ---- is it pruned

module _ (explorer : Explorer) (progress : Progress) (plan : List Fault) where
  abbrev runs_here : Option Went
  runs_here = runs_of explorer.program.now.tree explorer.test.now.tree explorer.fuel plan

  abbrev settings_here : Settings
  settings_here = settings_by explorer

  pub not_pruned : ((went : Went) → runs_here ≡ Some went → is_pruned settings_here progress went ≡ false) → turn_by explorer progress plan ≡ turn_if_run explorer progress plan
  not_pruned other = by runs_here refl
    where
      by : (o : Option Went) → runs_here ≡ o → turn_by explorer progress plan ≡ turn_if_run explorer progress plan
      by None is =
          ap (turn_of settings_here progress plan) is ∙ sym (ap (λ found. within_budget settings_here progress plan (ran_or_spent settings_here progress plan found)) is)
      by (Some went) is =
          ap (turn_of settings_here progress plan) is
          ∙ ap (λ b. cond b (GoesOn (prune progress plan went)) (within_budget settings_here progress plan (GoesOn (run settings_here progress plan went)))) (other went is)
          ∙ sym (ap (λ found. within_budget settings_here progress plan (ran_or_spent settings_here progress plan found)) is)

  pub pruned : (went : Went) → runs_here ≡ Some went → is_pruned settings_here progress went ≡ true → turn_by explorer progress plan ≡ GoesOn (prune progress plan went)
  pruned went is covered =
      ap (turn_of settings_here progress plan) is
      ∙ ap (λ b. cond b (GoesOn (prune progress plan went)) (within_budget settings_here progress plan (GoesOn (run settings_here progress plan went)))) covered

  -- no plan is pruned without reduction, and the first never is
  pub not_without : explorer.reduction ≡ false → turn_by explorer progress plan ≡ turn_if_run explorer progress plan
  not_without off = not_pruned (λ went is. ap (λ b. b && ltb 0 (length (plan_lines progress.lines)) && is_covered (records_in progress.lines) went) off)

  and_false : (b c : Bool) → (b && false && c) ≡ false
  and_false true c = refl
  and_false false c = refl

  pub not_first : (known : Known) → IsKnownOf progress known → ltb 0 known.tally.plans ≡ false → turn_by explorer progress plan ≡ turn_if_run explorer progress plan
  not_first known knows first =
      not_pruned (λ went is.
      ap (λ b. explorer.reduction && b && is_covered (records_in progress.lines) went) (ap (λ tally. ltb 0 tally.plans) knows.plans ∙ first)
      ∙ and_false explorer.reduction (is_covered (records_in progress.lines) went))

  -- ---- covered plans

  module _ (known : Known) (knows : IsKnownOf progress known) (law : CoveredIsFound) where
    abbrev covers : Type 0
    covers = IsCovered explorer.program.now.tree explorer.test.now.tree explorer.fuel known.store plan

    pub not_covered : ¬ covers → turn_by explorer progress plan ≡ turn_if_run explorer progress plan
    not_covered none = not_pruned (λ went is. by went is (is_covered (records_in progress.lines) went) refl)
      where
        off : (a b : Bool) → (a && b && false) ≡ false
        off true true = refl
        off true false = refl
        off false b = refl

        by : (went : Went) → runs_here ≡ Some went → (b : Bool) → is_covered (records_in progress.lines) went ≡ b → is_pruned settings_here progress went ≡ false
        by went is true covered =
            absurd (none ((law explorer.program.now.tree explorer.test.now.tree explorer.fuel known.store plan).1
            (went, is, ap (λ records. is_covered records went) (sym knows.records) ∙ covered)))
        by went is false covered =
            ap (λ b. explorer.reduction && ltb 0 (length (plan_lines progress.lines)) && b) covered ∙ off explorer.reduction (ltb 0 (length (plan_lines progress.lines)))

    module _ (on : explorer.reduction ≡ true) (later : 0 < known.tally.plans) where
      later_is : ltb 0 (length (plan_lines progress.lines)) ≡ true
      later_is = ap (λ tally. ltb 0 tally.plans) knows.plans ∙ (grind (arith, nat_tests))

      pub covered : (went : Went) → runs_here ≡ Some went → covers → turn_by explorer progress plan ≡ GoesOn (prune progress plan went)
      covered went is cover =
          let found = (law explorer.program.now.tree explorer.test.now.tree explorer.fuel known.store plan).0 cover in
          let same : found.0 ≡ went = same_Some found.0 went (sym found.1 ∙ is) in
          pruned went is
          ((λ i. (on i) && (later_is i) && (ap (λ records. is_covered records went) knows.records ∙ ap (is_covered known.store) (sym same) ∙ found.2) i) ∙ refl)

-- ---- the campaign stops

module _ (explorer : Explorer) (progress : Progress) (plan : List Fault) where
  abbrev found_here : Option Went
  found_here = runs_of explorer.program.now.tree explorer.test.now.tree explorer.fuel plan

  abbrev turn_within : Turn
  turn_within = ran_or_spent (settings_by explorer) progress plan found_here

  module _ (known : Known) (knows : IsKnownOf progress known) where
    budget_is : (b : Bool) → leb explorer.budget known.tally.run ≡ b → turn_if_run explorer progress plan ≡ cond b (Stops (BudgetSpent plan)) turn_within
    budget_is b is = ap (λ c. cond c (Stops (BudgetSpent plan)) turn_within) (ap (leb explorer.budget) knows.counted ∙ is)

    pub out_of_budget : explorer.budget ≤ known.tally.run → turn_if_run explorer progress plan ≡ Stops (BudgetSpent plan)
    out_of_budget all = budget_is true (let n = all in grind (arith, nat_tests))

    pub in_budget : known.tally.run < explorer.budget → turn_if_run explorer progress plan ≡ turn_within
    in_budget some = budget_is false (let n = some in grind (arith, nat_tests))

  pub spent_stops : turn_if_run explorer progress plan ≡ turn_within → run_of explorer.program.now.tree explorer.test.now.tree explorer.fuel plan ≡ Spent
      → turn_if_run explorer progress plan ≡ Stops (FuelSpent plan)
  spent_stops same is = same ∙ ap (ran_or_spent (settings_by explorer) progress plan) (ap went_if_done is)

  pub ran_goes_on : turn_if_run explorer progress plan ≡ turn_within → (went : Went) → found_here ≡ Some went
      → turn_if_run explorer progress plan ≡ GoesOn (run (settings_by explorer) progress plan went)
  ran_goes_on same went is = same ∙ ap (ran_or_spent (settings_by explorer) progress plan) is

-- the report's line of the end, by what is known
end_is_told : (services : ServicesTree) (version : ℕ) (progress : Progress) (known : Known) (why : Cause) (told : List Line) → IsKnownOf progress known
    → lines_below services version progress.lines (EndLine why (totals_of progress.lines) ∷ []) ≡ Some told
    → end_line_by (cause_told why) (totals_by known.tally (length known.store)) (stopped_at why) ∷ [] ≡ told
end_is_told services version progress known why told knows is =
    let named : end_line_by (cause_told why) (totals_by (tallied_of progress.lines) (length (records_in progress.lines))) (stopped_at why)
    ≡ end_line_by (cause_told why) (totals_by known.tally (length known.store)) (stopped_at why) =
    λ i. end_line_by (cause_told why) (totals_by (knows.plans i) (length (knows.records i))) (stopped_at why) in
    ap (λ line. line ∷ []) (sym (totals_told progress.lines why ∙ named)) ∙ same_Some (end_line why (totals_of progress.lines) ∷ []) told is

module _ {A : Type 0} (Going : A → Type 0) (explorer : Explorer) (progress : Progress) (plan : List Fault) (told : List Line) (known : Known) (knows : IsKnownOf progress known)
    (is_told : lines_below explorer.program.now.tree explorer.faults.now.version progress.lines (added_by progress (turn_by explorer progress plan)) ≡ Some told)
    (u v : Option (List ℕ)) (f g t n : ℕ) where
  told_of : (why : Cause) → turn_by explorer progress plan ≡ Stops why
      → end_line_by (cause_told why) (totals_by known.tally (length known.store)) (stopped_at why) ∷ [] ≡ told
  told_of why stops =
      end_is_told explorer.program.now.tree explorer.faults.now.version progress known why told knows
      (ap (λ turn. lines_below explorer.program.now.tree explorer.faults.now.version progress.lines (added_by progress turn)) (sym stops) ∙ is_told)

  ends_by : (why : Cause) (result : Result A ExploreEnd) → turn_by explorer progress plan ≡ Stops why
      → HavePutLines (end_line_by (cause_told why) (totals_by known.tally (length known.store)) (stopped_at why) ∷ []) (stop_before_end result) u f v g
      → AnswersTurn Going explorer progress plan result → TicksAtMost (EndLine why (totals_of progress.lines) ∷ []) explorer.fuel result t n
      → IsTurn Going explorer progress plan told result u f v g t n
  ends_by why result stops put answer ticks = record {
    put = subst (λ lines. HavePutLines lines (stop_before_end result) u f v g) (told_of why stops) put;
    answer = answer;
    ticks = subst (λ turn. TicksAtMost (added_by progress turn) explorer.fuel result t n) (sym stops) ticks;
  }

  pub budget_turn : turn_by explorer progress plan ≡ Stops (BudgetSpent plan) → (result : Result A ExploreEnd) → n ≤ t
      → HavePutLines (end_line_by (cause_told (BudgetSpent plan)) (totals_by known.tally (length known.store)) (Some plan) ∷ []) (stop_before_end result) u f v g
      → StopsBy (end.BudgetSpent plan) result → IsTurn Going explorer progress plan told result u f v g t n
  budget_turn stops (Ok x) few put by_this = absurd by_this
  budget_turn stops (Err (end.FuelSpent p)) few put by_this = absurd (cc)
  budget_turn stops (Err (end.BudgetSpent p)) few put by_this =
      ends_by (BudgetSpent plan) (Err (end.BudgetSpent p)) stops put (stops ∙ ap (λ (e : ExploreEnd). Stops (cause_in e)) (sym by_this)) (omega (arith, few))
    where
      cause_in : ExploreEnd → Cause
      cause_in (end.FuelSpent p) = FuelSpent p
      cause_in (end.BudgetSpent p) = BudgetSpent p
      cause_in end.LineFault = BudgetSpent []
      cause_in end.Memory = BudgetSpent []
  budget_turn stops (Err end.LineFault) few put by_this = ends_by (BudgetSpent plan) (Err end.LineFault) stops put tt (inl (omega (arith, few)))
  budget_turn stops (Err end.Memory) few put by_this = ends_by (BudgetSpent plan) (Err end.Memory) stops put tt (omega (arith, few))

  pub fuel_turn : turn_by explorer progress plan ≡ Stops (FuelSpent plan) → (result : Result A ExploreEnd) → n ≤ t + explorer.fuel
      → HavePutLines (end_line_by (cause_told (FuelSpent plan)) (totals_by known.tally (length known.store)) (Some plan) ∷ []) (stop_before_end result) u f v g
      → StopsBy (end.FuelSpent plan) result → IsTurn Going explorer progress plan told result u f v g t n
  fuel_turn stops (Ok x) few put by_this = absurd by_this
  fuel_turn stops (Err (end.BudgetSpent p)) few put by_this = absurd (cc)
  fuel_turn stops (Err (end.FuelSpent p)) few put by_this =
      ends_by (FuelSpent plan) (Err (end.FuelSpent p)) stops put (stops ∙ ap (λ (e : ExploreEnd). Stops (cause_in e)) (sym by_this)) (omega (arith, few))
    where
      cause_in : ExploreEnd → Cause
      cause_in (end.FuelSpent p) = FuelSpent p
      cause_in (end.BudgetSpent p) = BudgetSpent p
      cause_in end.LineFault = BudgetSpent []
      cause_in end.Memory = BudgetSpent []
  fuel_turn stops (Err end.LineFault) few put by_this =
      ends_by (FuelSpent plan) (Err end.LineFault) stops put tt (inr (plan, (totals_of progress.lines, refl), omega (arith, few)))
  fuel_turn stops (Err end.Memory) few put by_this = ends_by (FuelSpent plan) (Err end.Memory) stops put tt (omega (arith, few))

  -- memory is wanting in the run
  pub wanting_turn : HavePutLines told (Some put.Memory) u f v g → n ≤ t + explorer.fuel → IsTurn Going explorer progress plan told (Err end.Memory) u f v g t n
  wanting_turn put few = record { put = put; answer = tt; ticks = omega (arith, few) }

-- ---- the campaign goes on

module _ (explorer : Explorer) (progress : Progress) (plan : List Fault) (went : Went) (done : runs_of explorer.program.now.tree explorer.test.now.tree explorer.fuel plan ≡ Some went)
    (next : Progress) (turn : turn_by explorer progress plan ≡ GoesOn next) (more : List CampaignLine) (longer : next.lines ≡ progress.lines ++ more)
    (told : List Line) (u v : Option (List ℕ)) (f g t n : ℕ) where
  added_is : added_by progress (GoesOn next) ≡ more
  added_is = ap (drop (length progress.lines)) longer ∙ dropped progress.lines more

  pub goes_on_with : (known : Known) (calls : List Visit) → IsKnownOf next known → calls ≡ went.visits → GoesOnWith explorer progress plan known calls
  goes_on_with known calls knows same = record {
    went = went;
    done = done;
    next = next;
    turn = turn;
    longer = longer ∙ ap (λ rest. progress.lines ++ rest) (sym added_is);
    knows = knows;
    calls_are = same;
  }

  module _ {A : Type 0} (Going : A → Type 0) (few : n ≤ t + uses_in more) (most : n ≤ t + explorer.fuel) where
    at_most : (result : Result A ExploreEnd) → TicksAtMost more explorer.fuel result t n → TicksAtMost (added_by progress (turn_by explorer progress plan)) explorer.fuel result t n
    at_most result = subst (λ lines. TicksAtMost lines explorer.fuel result t n) (sym (ap (added_by progress) turn ∙ added_is))

    pub on_turn : (done : A) → Going done → HavePutLines told None u f v g → IsTurn Going explorer progress plan told (Ok done) u f v g t n
    on_turn done going put = record { put = put; answer = going; ticks = at_most (Ok done) few }

    pub on_error : (error : PutError) → HavePutLines told (Some error) u f v g → IsTurn Going explorer progress plan told (Err (end_of error)) u f v g t n
    on_error put.Failed have = record { put = have; answer = tt; ticks = at_most (Err end.LineFault) (inl few) }
    on_error put.Memory have = record { put = have; answer = tt; ticks = at_most (Err end.Memory) (omega (arith, few)) }

-- ---- what follows a turn

module _ {A B : Type 0} (Going : A → Type 0) (Later : B → Type 0) (explorer : Explorer) (progress : Progress) (plan : List Fault) (told : List Line) (u v : Option (List ℕ)) (f g t n : ℕ) where
  -- what ended a turn ends what follows it
  pub still_ended : (why : ExploreEnd) → IsTurn Going explorer progress plan told (Err why) u f v g t n → IsTurn Later explorer progress plan told (Err why) u f v g t n
  still_ended (end.FuelSpent stopped) is = record { put = is.put; answer = is.answer; ticks = is.ticks }
  still_ended (end.BudgetSpent stopped) is = record { put = is.put; answer = is.answer; ticks = is.ticks }
  still_ended end.LineFault is = record { put = is.put; answer = is.answer; ticks = is.ticks }
  still_ended end.Memory is = record { put = is.put; answer = is.answer; ticks = is.ticks }

  -- memory is wanting behind it
  pub then_wanting : (done : A) → IsTurn Going explorer progress plan told (Ok done) u f v g t n → IsTurn Later explorer progress plan told (Err end.Memory) u f v g t n
  then_wanting done is = record { put = put_whole told u v f g is.put; answer = tt; ticks = (let few = is.ticks in omega (arith, few)) }

  pub then_on : (done : A) (later : B) → IsTurn Going explorer progress plan told (Ok done) u f v g t n → Later later → IsTurn Later explorer progress plan told (Ok later) u f v g t n
  then_on done later is goes = record { put = is.put; answer = goes; ticks = is.ticks }

-- the exit of a `?`
pub turn_exits : {A : Type 0} (Going : A → Type 0) (explorer : Explorer) (progress : Progress) (plan : List Fault) (told : List Line) (u v : Option (List ℕ)) (f g t n : ℕ)
    (r : Result A ExploreEnd) (error : ExploreEnd) → IsErrAnd r (λ e. e ≡ error) → IsTurn Going explorer progress plan told (Err error) u f v g t n
    → IsTurn Going explorer progress plan told r u f v g t n
turn_exits Going explorer progress plan told u v f g t n r error is turn = exits (λ r. IsTurn Going explorer progress plan told r u f v g t n) r error is turn
