-- A campaign under way: some plans have had their turns, and others wait.
use Rattle.std.proofs.Common.{◌≡◌, ◌⊎◌, inl, inr, ℕ, suc, ◌+◌, ◌-◌, ◌<◌, ◌≤◌, Option, Some, None, Result, Ok, Err, List, [], ◌∷◌, ◌++◌, length, map, flat_map, refl, sym, ap, ◌∙◌, subst, arith, append_assoc, append-nil}
use Rattle.std.specs.Prelude.{slice_get, IsNone, MatchOption}
use Rattle.std.specs.List.{All, last_or}
use Rattle.std.specs.Option.{option_map_or, option_to_list}
use Rattle.std.proofs.lemmas.Grind.{flat_map-append}
use Rattle.std.proofs.lemmas.List.{map-append, length-append}
use Rattle.std.proofs.lemmas.List.Elements.{All-append, All-cons, All-head, All-map, All-nil, All-tail, All-weaker}
use Rattle.std.proofs.lemmas.Option.{same_Some}
use Rattle.fb_base.specs.declared.reply.Reply.{Reply}
use Rattle.fb_syntax.specs.Trees.{ServicesTree}
use Rattle.fb_index.specs.declared.fault.Fault.{Fault}
use Rattle.fb_tree.specs.declared.visit.Visit.{Visit}
use Rattle.fb_campaign.specs.Campaign.{Progress, Turn, GoesOn, Stops, campaign_from, after_turn, ended}
use Rattle.fb_campaign.specs.Plans.{extensions_of, extensions, plans}
use Rattle.fb_campaign.specs.Reports.{Cause, Planned, Completed, FuelSpent, BudgetSpent, Line as CampaignLine, EndLine, plans_in, plan_lines, totals_of}
use Rattle.fb_campaign.specs.Runs.{Went, Runs, Gives, Choices, AreDistinct, AreLawful, AreChoices}
use Rattle.fb_campaign.specs.Waiting.{Wait, ComeNext, ParentsAreNumbered, WaitingPlansComeNext}
use Rattle.fb_check.specs.FirstRefusal.{first_refusal, first_refusal_of_test}
use Rattle.fb_check.specs.Programs.{kinds_given}
use Rattle.fb_config.specs.Choices.{choices_for, kind_given}
use Rattle.fb_functest.specs.ReportLaws.{CampaignsHaveLines}
use Rattle.fb_functest.specs.ReportLines.{lines_below}
use Rattle.fb_functest.specs.Runs.{gives_of, runs_of}
use Rattle.fb_report.specs.declared.line.Line.{Line}
use Rattle.fb_worklist.specs.Worklists.{pending_of}
use Rattle.fb_worklist.specs.declared.pending.Pending.{Pending}
use Rattle.fb_explore.specs.declared.end.ExploreEnd.{ExploreEnd}
use Rattle.fb_explore.specs.declared.end.ExploreEnd.TheVariants as end
use Rattle.fb_explore.specs.declared.error.PutError.{PutError}
use Rattle.fb_explore.specs.declared.error.PutError.TheVariants as put
use Rattle.fb_explore.specs.declared.explorer.Explorer.{Explorer}
use Rattle.fb_explore.specs.declared.known.Known.{Known}
use Rattle.fb_explore.specs.Below.{report_by, IsExploredBelow, HaveAllHadTurns}
use Rattle.fb_explore.specs.Ends.{EndsBy, HasCutOff, uses_in}
use Rattle.fb_explore.specs.Puts.{HavePutLines}
use Rattle.fb_explore.specs.Tallies.{Tallied, no_plans}
use Rattle.fb_explore.specs.Turns.{GoesOnWith, GoesOnWaiting, IsKnownOf, IsTurn, StandsBefore, added_by, settings_by, turn_by}
use Rattle.fb_explore.proofs.Cutting.{AreLinesOf, cut_lines, join_lines, last_push, uses_join}
use Rattle.fb_explore.proofs.Forms.{IsLonger, longer, lines_grow, plans_grow, no_end, begins_so}
use Rattle.fb_explore.proofs.Finishing.{below_there}
use Rattle.fb_explore.proofs.Puts.{put_nothing, put_then, put_short}
use Rattle.fb_explore.proofs.Extending.{HasParent, all_extensions, distinct_front, parent_is, still_there}

-- ---- a campaign that goes on

-- the plans that wait, the next one first
abbrev pub waiting_plans : List Pending → List (List Fault)
waiting_plans waiting = map (λ (pending : Pending). pending.plan) waiting

module _ (explorer : Explorer) where
  abbrev pub runs_by : Runs
  runs_by = runs_of explorer.program.now.tree explorer.test.now.tree

  abbrev pub choices_by : Choices
  choices_by = choices_for explorer.faults.now

  abbrev pub plans_by : List (List Fault)
  plans_by = plans runs_by choices_by explorer.fuel

  abbrev pub told_by : List CampaignLine → Option (List Line)
  told_by = lines_below explorer.program.now.tree explorer.faults.now.version []

  pub record IsUnderWay (waiting : List Pending) (known : Known) (written : Option (List ℕ)) (faults : ℕ) (after : Option (List ℕ)) (faults_after ticked ticked_after : ℕ) : Type 0 where
    pub past : List (List Fault)
    pub rest : List (List Fault)
    pub progress : Progress
    pub lines : List Line
    pub plans_are : plans_by ≡ past ++ rest
    pub wait : Wait runs_by choices_by explorer.fuel past (waiting_plans waiting)
    pub whole : report_by explorer ≡ campaign_from (settings_by explorer) runs_by rest progress
    pub had : plans_in progress.lines ≡ past
    pub knows : IsKnownOf progress known
    pub told : told_by progress.lines ≡ Some lines
    pub put : HavePutLines lines None written faults after faults_after
    pub parents : All (HasParent past) waiting
    pub ticks : ticked_after ≤ ticked + uses_in progress.lines

  length_plans : (planned : List Planned) → length planned ≡ length (map (λ (line : Planned). line.plan) planned)
  length_plans [] = refl
  length_plans (one ∷ planned) = ap suc (length_plans planned)

  -- as many plan lines as plans have had their turns
  plans_had : (waiting : List Pending) (known : Known) (u v : Option (List ℕ)) (f g t n : ℕ) (here : IsUnderWay waiting known u f v g t n) → known.tally.plans ≡ length here.past
  plans_had waiting known u v f g t n here =
      sym (ap (λ (tally : Tallied). tally.plans) here.knows.plans) ∙ length_plans (plan_lines here.progress.lines) ∙ ap length here.had

  -- what the laws give
  pub record AreGiven : Type 0 where
    pub come_next : (past waiting rest : List (List Fault)) → plans_by ≡ past ++ rest → Wait runs_by choices_by explorer.fuel past waiting → ComeNext waiting rest
    pub numbered : ParentsAreNumbered
    pub distinct : AreDistinct plans_by
    pub there : (out : List Line) × (told_by (report_by explorer) ≡ Some out)

  module _ (laws : AreGiven) where
    module _ (pending : Pending) (waiting : List Pending) (known : Known) (u v : Option (List ℕ)) (f g t n : ℕ)
        (here : IsUnderWay (pending ∷ waiting) known u f v g t n) where
      abbrev pub plan : List Fault
      plan = pending.plan

      abbrev pub turn : Turn
      turn = turn_by explorer here.progress plan

      pub nexts : ComeNext (waiting_plans (pending ∷ waiting)) here.rest
      nexts = laws.come_next here.past (waiting_plans (pending ∷ waiting)) here.rest here.plans_are here.wait

      abbrev pub left : List (List Fault)
      left = waiting_plans waiting ++ nexts.behind

      rest_is : here.rest ≡ plan ∷ left
      rest_is = nexts.first

      report_is : report_by explorer ≡ after_turn here.progress (campaign_from (settings_by explorer) runs_by left) turn
      unfolding campaign_from
      report_is = here.whole ∙ ap (λ plans. campaign_from (settings_by explorer) runs_by plans here.progress) rest_is

      -- the turn's lines come next in the report
      pub record AddsNext : Type 0 where
        pub more : List CampaignLine
        pub parts : report_by explorer ≡ (here.progress.lines ++ added_by here.progress turn) ++ more

      longer_by : (next : Progress) → turn ≡ GoesOn next → IsLonger here.progress plan next
      longer_by next is = longer (settings_by explorer) here.progress plan (runs_by explorer.fuel plan) next is

      pub adds_next : AddsNext
      adds_next = by turn refl
        where
          by : (taken : Turn) → turn ≡ taken → AddsNext
          by (GoesOn next) is =
              let later = begins_so (settings_by explorer) runs_by left next in
              record {
                more = later.more;
                parts = report_is ∙ ap (after_turn here.progress (campaign_from (settings_by explorer) runs_by left)) is ∙ later.parts
                    ∙ ap (λ front. front ++ later.more) (lines_grow here.progress plan next (longer_by next is) ∙ ap (λ one. here.progress.lines ++ added_by here.progress one) (sym is));
              }
          by (Stops why) is = record {
            more = [];
            parts = report_is ∙ ap (after_turn here.progress (campaign_from (settings_by explorer) runs_by left)) is
                ∙ ap (λ one. here.progress.lines ++ added_by here.progress one) (sym is) ∙ sym (append-nil (here.progress.lines ++ added_by here.progress turn));
          }

      -- the lines of the whole report: those so far, those of the turn, and the others
      pub cut_all : AreLinesOf explorer.program.now.tree explorer.faults.now.version [] (here.progress.lines ++ added_by here.progress turn) adds_next.more laws.there.0
      cut_all =
          cut_lines explorer.program.now.tree explorer.faults.now.version [] (here.progress.lines ++ added_by here.progress turn) adds_next.more laws.there.0
          (ap told_by (sym adds_next.parts) ∙ laws.there.1)

      pub cut_turn : AreLinesOf explorer.program.now.tree explorer.faults.now.version [] here.progress.lines (added_by here.progress turn) cut_all.first
      cut_turn = cut_lines explorer.program.now.tree explorer.faults.now.version [] here.progress.lines (added_by here.progress turn) cut_all.first cut_all.first_are

      abbrev pub told_next : List Line
      told_next = cut_turn.others

      pub stands : StandsBefore explorer.program.now.tree explorer.faults.now.version here.progress pending known (added_by here.progress turn) told_next
      stands = record {
        knows = here.knows;
        parent = parent_is laws.numbered here.progress.lines pending (subst AreDistinct (sym here.had) (distinct_front here.past here.rest (subst AreDistinct here.plans_are laws.distinct)))
            (subst (λ past. HasParent past pending) (sym here.had) (All-head (HasParent here.past) pending waiting here.parents));
        told = cut_turn.others_are;
      }

      lines_first : here.lines ≡ cut_turn.first
      lines_first = same_Some here.lines cut_turn.first (sym here.told ∙ cut_turn.first_are)

      whole_out : laws.there.0 ≡ (here.lines ++ told_next) ++ cut_all.others
      whole_out = cut_all.out_is ∙ ap (λ front. front ++ cut_all.others) (cut_turn.out_is ∙ ap (λ front. front ++ told_next) (sym lines_first))

      uses_so_far : uses_in (here.progress.lines ++ added_by here.progress turn) ≡ uses_in here.progress.lines + uses_in (added_by here.progress turn)
      uses_so_far = uses_join here.progress.lines (added_by here.progress turn)

      uses_of_all : uses_in (report_by explorer) ≡ (uses_in here.progress.lines + uses_in (added_by here.progress turn)) + uses_in adds_next.more
      uses_of_all =
          ap uses_in adds_next.parts ∙ uses_join (here.progress.lines ++ added_by here.progress turn) adds_next.more ∙ ap (λ m. m + uses_in adds_next.more) uses_so_far

      -- ---- the campaign ends at the turn

      module _ {A : Type 0} (Going : A → Type 0) (w : Option (List ℕ)) (h m : ℕ) where
        stops_report : (why : Cause) → turn ≡ Stops why → report_by explorer ≡ ended here.progress why
        stops_report why is = report_is ∙ ap (after_turn here.progress (campaign_from (settings_by explorer) runs_by left)) is

        last_is : (why : Cause) → turn ≡ Stops why → last_or None (report_by explorer) ≡ Some (EndLine why (totals_of here.progress.lines))
        last_is why is = ap (last_or None) (stops_report why is) ∙ last_push None here.progress.lines (EndLine why (totals_of here.progress.lines))

        ends_report : (why : Cause) → turn ≡ Stops why → EndsBy (report_by explorer) why
        ends_report why is = (totals_of here.progress.lines, last_is why is)

        put_both : (stop : Option PutError) → HavePutLines told_next stop v g w h → HavePutLines (here.lines ++ told_next) stop u f w h
        put_both stop more = put_then here.lines told_next stop u v w f g h here.put more

        -- where the campaign stops, nothing follows
        all_told : (why : Cause) → turn ≡ Stops why → told_by (report_by explorer) ≡ Some (here.lines ++ told_next)
        all_told why is =
            ap told_by (stops_report why is ∙ ap (λ one. here.progress.lines ++ added_by here.progress one) (sym is))
            ∙ join_lines explorer.program.now.tree explorer.faults.now.version [] here.progress.lines (added_by here.progress turn) here.lines told_next here.told cut_turn.others_are

        cut_off : HasCutOff (added_by here.progress turn) explorer.fuel n m → HasCutOff (report_by explorer) explorer.fuel t m
        cut_off cut = by turn refl
          where
            ends_added : (taken : Turn) → turn ≡ taken → EndsBy (added_by here.progress taken) (FuelSpent cut.0)
            ends_added taken is = subst (λ one. EndsBy (added_by here.progress one) (FuelSpent cut.0)) is cut.1

            few : m ≤ t + uses_in (report_by explorer) + explorer.fuel
            few = let all = uses_of_all in let before = here.ticks in let later = cut.2 in omega (arith, all, before, later)

            sym_last : (why : Cause) → turn ≡ Stops why → (last : EndsBy (added_by here.progress (Stops why)) (FuelSpent cut.0)) → last_or None (report_by explorer) ≡ Some (EndLine (FuelSpent cut.0) last.0)
            sym_last why is last = last_is why is ∙ last.1

            by : (taken : Turn) → turn ≡ taken → HasCutOff (report_by explorer) explorer.fuel t m
            by (GoesOn next) is = absurd (no_end here.progress plan next (longer_by next is) (FuelSpent cut.0) (ends_added (GoesOn next) is))
            by (Stops why) is =
                let last = ends_added (Stops why) is in
                (cut.0, (last.0, sym_last why is last), few)

        within : (extra : ℕ) → m ≤ n + uses_in (added_by here.progress turn) + extra → m ≤ t + uses_in (report_by explorer) + extra
        within extra later = (let all = uses_of_all in let before = here.ticks in omega (arith, all, before, later))

        -- the report where its lines end short
        short_of : (error : PutError) → HavePutLines told_next (Some error) v g w h → HavePutLines laws.there.0 (Some error) u f w h
        short_of error more =
            subst (λ lines. HavePutLines lines (Some error) u f w h) (sym whole_out)
            (put_short (here.lines ++ told_next) cut_all.others error u w f h (put_both (Some error) more))

        abbrev result_is : Result A ExploreEnd → Type 0
        result_is result = IsTurn Going explorer here.progress plan told_next result v g w h n m

        pub fuel_ends : (stopped : List Fault) → result_is (Err (end.FuelSpent stopped)) → IsExploredBelow explorer (Err (end.FuelSpent stopped)) u f w h t m
        fuel_ends stopped is = record {
          lines = here.lines ++ told_next;
          told = all_told (FuelSpent stopped) is.answer;
          put = put_both None is.put;
          answer = ends_report (FuelSpent stopped) is.answer;
          ticks = within explorer.fuel is.ticks;
        }

        pub budget_ends : (stopped : List Fault) → result_is (Err (end.BudgetSpent stopped)) → IsExploredBelow explorer (Err (end.BudgetSpent stopped)) u f w h t m
        budget_ends stopped is = record {
          lines = here.lines ++ told_next;
          told = all_told (BudgetSpent stopped) is.answer;
          put = put_both None is.put;
          answer = ends_report (BudgetSpent stopped) is.answer;
          ticks = (let few = within 0 (let more = is.ticks in omega (arith, more)) in omega (arith, few));
        }

        fault_ticks : (m ≤ n + uses_in (added_by here.progress turn)) ⊎ HasCutOff (added_by here.progress turn) explorer.fuel n m
            → (m ≤ t + uses_in (report_by explorer)) ⊎ HasCutOff (report_by explorer) explorer.fuel t m
        fault_ticks (inl few) = inl (let all = within 0 (omega (arith, few)) in omega (arith, all))
        fault_ticks (inr cut) = inr (cut_off cut)

        pub fault_ends : result_is (Err end.LineFault) → IsExploredBelow explorer (Err end.LineFault) u f w h t m
        fault_ends is = record { lines = laws.there.0; told = laws.there.1; put = short_of put.Failed is.put; answer = tt; ticks = fault_ticks is.ticks }

        pub memory_ends : result_is (Err end.Memory) → IsExploredBelow explorer (Err end.Memory) u f w h t m
        memory_ends is = record { lines = laws.there.0; told = laws.there.1; put = short_of put.Memory is.put; answer = tt; ticks = within explorer.fuel is.ticks }

        -- whatever the error
        pub error_ends : (why : ExploreEnd) → result_is (Err why) → IsExploredBelow explorer (Err why) u f w h t m
        error_ends (end.FuelSpent stopped) is = fuel_ends stopped is
        error_ends (end.BudgetSpent stopped) is = budget_ends stopped is
        error_ends end.LineFault is = fault_ends is
        error_ends end.Memory is = memory_ends is

      -- ---- the campaign goes on behind the turn

      module _ (after : List Pending) (knows : Known) (w : Option (List ℕ)) (h m : ℕ) (done : Unit {0})
          (is : IsTurn (λ (done : Unit {0}). GoesOnWaiting explorer here.progress pending waiting after known.tally.plans knows) explorer here.progress plan told_next (Ok done) v g w h n m) where
        abbrev goes : GoesOnWith explorer here.progress plan knows is.answer.calls
        goes = is.answer.goes_on

        form : IsLonger here.progress plan goes.next
        form = longer_by goes.next goes.turn

        abbrev pub past_then : List (List Fault)
        past_then = here.past ++ plan ∷ []

        extended : extensions_of choices_by is.answer.calls plan ≡ extensions runs_by choices_by explorer.fuel plan
        extended =
            ap (λ visits. extensions_of choices_by visits plan) goes.calls_are
            ∙ sym (ap (λ found. option_map_or (λ (went : Went). extensions_of choices_by went.visits plan) found []) goes.done)

        plans_back : (longer : List (List Fault)) (number : ℕ) → waiting_plans (map (λ plan. record { plan = plan; parent = number }) longer) ≡ longer
        plans_back [] number = refl
        plans_back (one ∷ longer) number = ap (λ rest. one ∷ rest) (plans_back longer number)

        waiting_are : waiting_plans after ≡ waiting_plans waiting ++ extensions runs_by choices_by explorer.fuel plan
        waiting_are =
            ap waiting_plans is.answer.wait
            ∙ map-append (λ (pending : Pending). pending.plan) waiting (pending_of explorer.faults.now plan known.tally.plans is.answer.calls)
            ∙ ap (λ more. waiting_plans waiting ++ more) (plans_back (extensions_of choices_by is.answer.calls plan) known.tally.plans ∙ extended)

        extend : List (List Fault) → List (List Fault)
        extend = flat_map (extensions runs_by choices_by explorer.fuel)

        wait_then : Wait runs_by choices_by explorer.fuel past_then (waiting_plans after)
        wait_then =
            ap (λ more. past_then ++ more) waiting_are
            ∙ append_assoc here.past (plan ∷ []) (waiting_plans waiting ++ extensions runs_by choices_by explorer.fuel plan)
            ∙ sym (append_assoc here.past (plan ∷ waiting_plans waiting) (extensions runs_by choices_by explorer.fuel plan))
            ∙ ap (λ front. front ++ extensions runs_by choices_by explorer.fuel plan) here.wait
            ∙ ap (λ more. [] ∷ (flat_map (extensions runs_by choices_by explorer.fuel) here.past ++ more)) (sym (append-nil (extensions runs_by choices_by explorer.fuel plan)))
            ∙ ap (λ more. [] ∷ more) (sym (flat_map-append (extensions runs_by choices_by explorer.fuel) here.past (plan ∷ [])))

        number_is : known.tally.plans ≡ length here.past
        number_is = plans_had (pending ∷ waiting) known u v f g t n here

        at_end : {A : Type 0} (xs : List A) (x : A) → slice_get (xs ++ x ∷ []) (length xs) ≡ Some x
        at_end [] x = refl
        at_end (y ∷ xs) x = at_end xs x

        extension : (shorter : List Fault) (visit : Visit) (given : Reply) → shorter ≡ plan
            → HasParent past_then (record { plan = shorter ++ record { index = visit.index; reply = given } ∷ []; parent = known.tally.plans })
        extension shorter visit given same = inr (record {
          shorter = shorter;
          fault = record { index = visit.index; reply = given };
          plan_is = refl;
          there = ap (slice_get past_then) number_is ∙ at_end here.past plan ∙ ap Some (sym same);
        })

        parents_then : All (HasParent past_then) after
        parents_then =
            subst (All (HasParent past_then)) (sym is.answer.wait)
            (All-append (HasParent past_then) waiting (pending_of explorer.faults.now plan known.tally.plans is.answer.calls)
            (All-weaker (HasParent here.past) (HasParent past_then) (still_there here.past (plan ∷ [])) waiting (All-tail (HasParent here.past) pending waiting here.parents))
            (All-map (HasParent past_then) (λ plan. record { plan = plan; parent = known.tally.plans }) (extensions_of choices_by is.answer.calls plan)
            (all_extensions choices_by plan (λ longer. HasParent past_then (record { plan = longer; parent = known.tally.plans })) (λ visit given between has. extension plan visit given refl) is.answer.calls)))

        pub goes_on : IsUnderWay after knows u f w h t m
        goes_on = record {
          past = past_then;
          rest = left;
          progress = goes.next;
          lines = here.lines ++ told_next;
          plans_are = here.plans_are ∙ ap (λ rest. here.past ++ rest) rest_is ∙ sym (append_assoc here.past (plan ∷ []) left);
          wait = wait_then;
          whole = report_is ∙ ap (after_turn here.progress (campaign_from (settings_by explorer) runs_by left)) goes.turn;
          had = plans_grow here.progress plan goes.next form ∙ ap (λ past. past ++ plan ∷ []) here.had;
          knows = goes.knows;
          told = ap told_by (goes.longer ∙ ap (λ one. here.progress.lines ++ added_by here.progress one) (sym goes.turn))
              ∙ join_lines explorer.program.now.tree explorer.faults.now.version [] here.progress.lines (added_by here.progress turn) here.lines told_next here.told cut_turn.others_are;
          put = put_then here.lines told_next None u v w f g h here.put is.put;
          parents = parents_then;
          ticks = (let more = is.ticks in let before = here.ticks in
              let all = ap uses_in (goes.longer ∙ ap (λ one. here.progress.lines ++ added_by here.progress one) (sym goes.turn)) ∙ uses_so_far in
              omega (arith, more, before, all));
        }

        all_plans : length plans_by ≡ length past_then + length left
        all_plans = ap length (here.plans_are ∙ ap (λ rest. here.past ++ rest) rest_is ∙ sym (append_assoc here.past (plan ∷ []) left)) ∙ length-append past_then left

        -- one plan less is left
        pub fewer : length plans_by - knows.tally.plans < length plans_by - known.tally.plans
        fewer =
            let all = all_plans in
            let one : length past_then ≡ length here.past + 1 = length-append here.past (plan ∷ []) in
            let before = number_is in
            let now : knows.tally.plans ≡ length past_then =
            sym (ap (λ (tally : Tallied). tally.plans) goes.knows.plans) ∙ length_plans (plan_lines goes.next.lines)
            ∙ ap length (plans_grow here.progress plan goes.next form ∙ ap (λ past. past ++ plan ∷ []) here.had) in
            omega (arith, all, one, before, now)

    -- ---- nothing waits

    pub all_taken : (known : Known) (u v : Option (List ℕ)) (f g t n : ℕ) → IsUnderWay [] known u f v g t n → HaveAllHadTurns explorer known u f v g t n
    unfolding campaign_from
    all_taken known u v f g t n here = record {
      progress = here.progress;
      report = here.whole ∙ ap (λ plans. campaign_from (settings_by explorer) runs_by plans here.progress) none_left ∙ no_more;
      knows = here.knows;
      lines = here.lines;
      told = here.told;
      put = here.put;
      ticks = here.ticks;
    }
      where
        none_left : here.rest ≡ []
        none_left = (laws.come_next here.past [] here.rest here.plans_are here.wait).last refl

        no_more : campaign_from (settings_by explorer) runs_by [] here.progress ≡ ended here.progress Completed
        no_more = refl

-- ---- the laws, and the beginning

module _ (explorer : Explorer) where
  abbrev services_by : ServicesTree
  services_by = explorer.program.now.tree

  pub given : (AreLawful (gives_of services_by) (runs_by explorer)) → AreChoices (kind_given explorer.faults.now) (choices_by explorer)
      → explorer.faults.now.kinds ≡ kinds_given services_by → WaitingPlansComeNext → ParentsAreNumbered
      → ((gives : Gives) (runs : Runs) (choices : Choices) → AreLawful gives runs → AreChoices gives choices → (fuel : ℕ) → AreDistinct (plans runs choices fuel))
      → CampaignsHaveLines → IsNone (first_refusal services_by) → IsNone (first_refusal_of_test services_by explorer.test.now.tree)
      → AreGiven explorer
  given lawful choices kinds next numbered once law accepted accepted_test =
      let fitting : AreChoices (gives_of services_by) (choices_by explorer) = subst (λ known. AreChoices (slice_get known) (choices_by explorer)) kinds choices in
      record {
        come_next = next (gives_of services_by) (runs_by explorer) (choices_by explorer) lawful fitting explorer.fuel;
        numbered = numbered;
        distinct = once (gives_of services_by) (runs_by explorer) (choices_by explorer) lawful fitting explorer.fuel;
        there = below_there law services_by explorer.test.now.tree accepted accepted_test explorer.faults.now (settings_by explorer);
      }

  pub begins : (first : Pending) (known : Known) (u : Option (List ℕ)) (f t : ℕ) → first.plan ≡ [] → known.store ≡ [] → known.tally ≡ no_plans
      → IsUnderWay explorer (first ∷ []) known u f u f t t
  begins first known u f t empty store tally = record {
    past = [];
    rest = plans_by explorer;
    progress = record { lines = []; counted = 0 };
    lines = [];
    plans_are = refl;
    wait = ap (λ plan. plan ∷ []) empty;
    whole = refl;
    had = refl;
    knows = record { records = sym store; plans = sym tally; counted = sym (ap (λ (known : Tallied). known.run) tally) };
    told = refl;
    put = put_nothing u f;
    parents = All-cons (HasParent []) first [] (inl empty) (All-nil (HasParent []));
    ticks = omega arith;
  }

-- ---- the queue

-- the next one, and those behind it
pub queue_is : (next : Option Pending) (before after : List Pending) → MatchOption next ((before ≡ []) × (after ≡ [])) (λ first. before ≡ first ∷ after)
    → option_to_list next ++ after ≡ before
queue_is None before after is = is.1 ∙ sym is.0
queue_is (Some first) before after is = sym is

pub last_one : (next : Option Pending) (before after : List Pending) → MatchOption next ((before ≡ []) × (after ≡ [])) (λ first. before ≡ first ∷ after)
    → next ≡ None → after ≡ []
last_one None before after is none = is.1
last_one (Some first) before after is none = absurd (cc)

pub none_if : (next : Option Pending) → ((first : Pending) → ¬ (next ≡ Some first)) → next ≡ None
none_if None never = refl
none_if (Some first) never = absurd (never first refl)
