-- The lines of a plan that was run, and what is known after them.
use Rattle.std.proofs.Common.{◌≡◌, ℕ, ◌+◌, true, Option, Some, None, List, [], ◌∷◌, ◌++◌, filter, length, position, refl, sym, ap, ◌∙◌, subst, arith, append-nil}
use Rattle.std.specs.Prelude.{IsNone}
use Rattle.std.specs.List.{sum_by}
use Rattle.std.proofs.lemmas.List.Elements.{filter_map-append}
use Rattle.std.proofs.lemmas.Option.{same_Some}
use Rattle.fb_syntax.specs.Trees.{ServicesTree, TestTree}
use Rattle.fb_check.specs.FirstRefusal.{first_refusal, first_refusal_of_test}
use Rattle.fb_index.specs.declared.fault.Fault.{Fault}
use Rattle.fb_tree.specs.Records.{records_in as records_of_calls}
use Rattle.fb_tree.specs.Views.{view_run}
use Rattle.fb_tree.specs.declared.outcome.Outcome.{Outcome}
use Rattle.fb_tree.specs.declared.recorded.Record.{Record}
use Rattle.fb_campaign.specs.Campaign.{Progress, new_records, parent_in, plan_line, run, same_plan, shorter, uses_of, new_lines as record_lines_for, with_records as with_records_for}
use Rattle.fb_campaign.specs.Reports.{Line as CampaignLine, Planned, has_passed, plan_lines, records_in}
use Rattle.fb_campaign.specs.Runs.{Went}
use Rattle.fb_meaning.specs.Each.{HoldsOfEach}
use Rattle.fb_meaning.specs.Kinds.{RecordsOfRunsAreTrue}
use Rattle.fb_meaning.specs.Records.{IsTrueRecord}
use Rattle.fb_meaning.specs.Runs.{run_of}
use Rattle.fb_functest.specs.ReportLaws.{OutcomesAreCounted}
use Rattle.fb_functest.specs.ReportLines.{last_fault}
use Rattle.fb_functest.specs.Running.{IsRan}
use Rattle.fb_functest.specs.Runs.{went_if_done, went_of}
use Rattle.fb_functest.specs.declared.run.Ran.{Ran}
use Rattle.fb_stitch.specs.Sources.{AreTrueOf}
use Rattle.fb_report.specs.Ranges.{IsCounted}
use Rattle.fb_report.specs.declared.line.Line.{Line}
use Rattle.fb_report.specs.declared.line.Line.TheVariants.{Plan}
use Rattle.fb_worklist.specs.declared.pending.Pending.{Pending}
use Rattle.fb_explore.specs.declared.error.PutError.{PutError}
use Rattle.fb_explore.specs.declared.explorer.Explorer.{Explorer}
use Rattle.fb_explore.specs.declared.known.Known.{Known}
use Rattle.fb_explore.specs.Ends.{uses_in}
use Rattle.fb_explore.specs.Puts.{HavePutLines}
use Rattle.fb_explore.specs.Recording.{new_lines, numbers, with_records}
use Rattle.fb_explore.specs.Tallies.{Tallied, with_line}
use Rattle.fb_explore.specs.Turns.{IsKnownOf, StandsBefore, added_if_run, plan_line_of, settings_by}
use Rattle.fb_explore.proofs.Numbers.{grown, length-numbers, uses_are_numbers}
use Rattle.fb_explore.proofs.Puts.{put_short, put_then}
use Rattle.fb_explore.proofs.RecordLines.{all_records, below_recorded, count_records, records_joined}
use Rattle.fb_explore.proofs.TallyLines.{plans_records, records_push, tallied_push, tallied_with}

-- ---- behind the record lines

module _ (lines : List CampaignLine) (went : Went) where
  abbrev fresh : List Record
  fresh = new_records (records_in lines) went.records

  same_plans : plan_lines (with_records_for lines went) ≡ plan_lines lines
  same_plans = plans_records (λ item. record { item = item; owner = length (plan_lines lines) }) lines fresh

  records_behind : records_in (with_records_for lines went) ≡ with_records (records_in lines) went.records
  records_behind =
      records_joined lines (record_lines_for lines went) ∙ ap (λ more. records_in lines ++ more) (all_records (length (plan_lines lines)) fresh)
      ∙ grown (records_in lines) went.records

  uses_are : uses_of (records_in (with_records_for lines went)) went.records ≡ numbers (records_in lines) went.records
  uses_are =
      ap (λ known. uses_of known went.records) (records_behind ∙ sym (append-nil (with_records (records_in lines) went.records)))
      ∙ uses_are_numbers (records_in lines) went.records []

-- a plan's parent is that of the plan lines
same_parent : (above lines : List CampaignLine) (plan : List Fault) → plan_lines above ≡ plan_lines lines → parent_in above plan ≡ parent_in lines plan
same_parent above lines [] same = refl
same_parent above lines (fault ∷ faults) same = ap (position (λ (line : Planned). same_plan line.plan (shorter (fault ∷ faults)))) same

-- ---- what a report has for them

-- the lines of new records where these are known, and that of the plan
abbrev pub ran_lines : ServicesTree → ℕ → Pending → Known → Went → List Line
ran_lines services version pending known went =
    new_lines services known.tally.plans known.store went.records
    ++ plan_line_of version known.tally.plans pending true (numbers known.store went.records) went.outcome ∷ []

module _ (services : ServicesTree) (version : ℕ) (progress : Progress) (pending : Pending) (known : Known) (went : Went) (told : List Line)
    (stands : StandsBefore services version progress pending known (added_if_run progress pending.plan went) told) where
  abbrev above : List CampaignLine
  above = with_records_for progress.lines went

  owner_is : length (plan_lines progress.lines) ≡ known.tally.plans
  owner_is = ap (λ (tally : Tallied). tally.plans) stands.knows.plans

  told_is : told ≡ ran_lines services version pending known went
  told_is =
      let behind = below_recorded services version (length (plan_lines progress.lines)) (plan_line true above pending.plan went ∷ []) progress.lines (records_in progress.lines) went.records told
      (count_records progress.lines) stands.told in
      let line : behind.others ≡ plan_line_of version known.tally.plans pending true (numbers known.store went.records) went.outcome ∷ [] =
      sym (same_Some _ behind.others behind.others_are)
      ∙ (λ i. Plan version ((ap length (same_plans progress.lines went) ∙ owner_is) i) ((same_parent above progress.lines pending.plan (same_plans progress.lines went) ∙ stands.parent) i)
      (last_fault pending.plan) true ((uses_are progress.lines went ∙ ap (λ records. numbers records went.records) stands.knows.records) i) went.outcome ∷ []) in
      behind.all_are ∙ ap (λ last. new_lines services (length (plan_lines progress.lines)) (records_in progress.lines) went.records ++ last) line
      ∙ (λ i. new_lines services (owner_is i) (stands.knows.records i) went.records
      ++ plan_line_of version known.tally.plans pending true (numbers known.store went.records) went.outcome ∷ [])

  -- the record lines are put by a number and by records that are these
  module _ (u v : Option (List ℕ)) (f g : ℕ) (owner : ℕ) (items : List Record) (owner_is_this : owner ≡ known.tally.plans) (items_are : items ≡ went.records) where
    records_put : (why : Option PutError) → HavePutLines (new_lines services owner known.store items) why u f v g
        → HavePutLines (new_lines services known.tally.plans known.store went.records) why u f v g
    records_put why put = subst (λ lines. HavePutLines lines why u f v g) (λ i. new_lines services (owner_is_this i) known.store (items_are i)) put

    pub stops_in_records : (error : PutError) → HavePutLines (new_lines services owner known.store items) (Some error) u f v g → HavePutLines told (Some error) u f v g
    stops_in_records error put =
        subst (λ lines. HavePutLines lines (Some error) u f v g) (sym told_is)
        (put_short (new_lines services known.tally.plans known.store went.records)
        (plan_line_of version known.tally.plans pending true (numbers known.store went.records) went.outcome ∷ []) error u v f g (records_put (Some error) put))

    pub puts_plan : (why : Option PutError) (w : Option (List ℕ)) (h : ℕ) (uses : List ℕ) (outcome : Outcome) → uses ≡ numbers known.store items → outcome ≡ went.outcome
        → HavePutLines (new_lines services owner known.store items) None u f v g
        → HavePutLines (plan_line_of version known.tally.plans pending true uses outcome ∷ []) why v g w h
        → HavePutLines told why u f w h
    puts_plan why w h uses outcome numbered ends one other =
        subst (λ lines. HavePutLines lines why u f w h) (sym told_is)
        (put_then (new_lines services known.tally.plans known.store went.records)
        (plan_line_of version known.tally.plans pending true (numbers known.store went.records) went.outcome ∷ []) why u v w f g h (records_put None one)
        (subst (λ lines. HavePutLines lines why v g w h)
        (λ i. plan_line_of version known.tally.plans pending true ((numbered ∙ ap (numbers known.store) items_are) i) (ends i) ∷ []) other))

-- ---- what is known after them

pub known_after : (explorer : Explorer) (plan : List Fault) (went : Went) (known after : Known) (items : List Record) (outcome : Outcome) → items ≡ went.records → outcome ≡ went.outcome
    → after.store ≡ with_records known.store items → after.tally ≡ with_line known.tally true (has_passed outcome)
    → (progress : Progress) → IsKnownOf progress known → IsKnownOf (run (settings_by explorer) progress plan went) after
unfolding with_line
known_after explorer plan went known after items outcome items_are ends store_is tally_is progress knows =
    let above = with_records_for progress.lines went in
    record {
      records = records_push above _ ∙ records_behind progress.lines went
          ∙ (λ i. with_records (knows.records i) (sym items_are i)) ∙ sym store_is;
      plans = tallied_push above _
          ∙ ap (λ tally. with_line tally true (has_passed went.outcome)) (tallied_with progress.lines went)
          ∙ ap (λ tally. with_line tally true (has_passed went.outcome)) knows.plans
          ∙ ap (λ how. with_line known.tally true (has_passed how)) (sym ends)
          ∙ sym tally_is;
      counted = ap (λ n. n + 1) knows.counted ∙ sym (ap (λ (tally : Tallied). tally.run) tally_is);
    }

-- ---- what it uses

-- a number for each record of the run
pub uses_of_run : (progress : Progress) (plan : List Fault) (went : Went) → uses_in (added_if_run progress plan went) ≡ length went.records
uses_of_run progress plan went =
    ap (λ planned. sum_by (λ (line : Planned). length line.uses) (filter (λ (line : Planned). line.is_run) planned)) plans_are
    ∙ zero_and (length (uses_of (records_in above) went.records))
    ∙ ap length (uses_are progress.lines went) ∙ length-numbers (records_in progress.lines) went.records
  where
    above : List CampaignLine
    above = with_records_for progress.lines went

    last : CampaignLine
    last = plan_line true above plan went

    plans_are : plan_lines (added_if_run progress plan went) ≡ plan_lines (last ∷ [])
    plans_are =
        filter_map-append _ (record_lines_for progress.lines went) (last ∷ [])
        ∙ ap (λ front. front ++ plan_lines (last ∷ []))
        (plans_records (λ item. record { item = item; owner = length (plan_lines progress.lines) }) [] (fresh progress.lines went))

    zero_and : (n : ℕ) → 0 + n ≡ n
    zero_and n = omega arith

-- ---- the run

once_each : (services : ServicesTree) (fuel : ℕ) (items : List Record) → HoldsOfEach (IsTrueRecord services fuel) items → AreTrueOf services items
once_each services fuel [] each = tt
once_each services fuel (item ∷ items) each = ((fuel, each.0), once_each services fuel items each.1)

module _ (services : ServicesTree) (test : TestTree) (fuel : ℕ) (plan : List Fault) (ran : Ran) (is_ran : IsRan (run_of services test fuel plan) ran) where
  pub outcome_counted : OutcomesAreCounted → IsCounted ran.outcome
  outcome_counted law = subst IsCounted (sym is_ran.outcome) (law services test fuel plan (went_of (view_run ran.tree)) (ap went_if_done is_ran.done))

  pub records_true : RecordsOfRunsAreTrue → IsNone (first_refusal services) → IsNone (first_refusal_of_test services test) → AreTrueOf services (records_of_calls (view_run ran.tree).calls)
  records_true law accepted accepted_test =
      once_each services fuel (records_of_calls (view_run ran.tree).calls)
      (law services test accepted accepted_test fuel fuel plan (view_run ran.tree) is_ran.left is_ran.done (omega arith))
