-- The lines of a valid campaign tell it.
use Rattle.std.proofs.Common.{◌≡◌, ◌↔◌, ℕ, Bool, Option, Some, None, List, [], ◌∷◌, ◌++◌, map, length, slice_get, refl, sym, ap, ◌∙◌, subst, append_assoc}
use Rattle.std.specs.Prelude.{option_map}
use Rattle.std.proofs.lemmas.List.Elements.{filter_map-append}
use Rattle.std.proofs.lemmas.Option.{same_Some}
use Rattle.fb_base.specs.declared.method.MethodName.{MethodName}
use Rattle.fb_syntax.specs.Trees.{ServicesTree, TestTree}
use Rattle.fb_check.specs.Declarations.{declarations_of, number_in}
use Rattle.fb_check.specs.Programs.{signature_at}
use Rattle.fb_tree.specs.Calls.{visits_of, injections_of}
use Rattle.fb_tree.specs.Records.{records_in}
use Rattle.fb_tree.specs.Runs.{TestRun}
use Rattle.fb_campaign.specs.Plans.{injections_in}
use Rattle.fb_campaign.specs.Reports.{Recorded, Planned, Line as CampaignLine, RecordLine, PlanLine as PlannedLine, EndLine, plan_of_line as planned_of, record_lines, plan_lines as planned_in}
use Rattle.fb_campaign.specs.Runs.{Went, Choices}
use Rattle.fb_campaign.specs.Valid as campaign
use Rattle.fb_meaning.specs.Evaluations.{Evaluation, Spent, Missing, Done}
use Rattle.fb_meaning.specs.Runs.{run_of}
use Rattle.fb_meaning.specs.Spelling.{AreAt, SpellsRun, RunsAreSpelled}
use Rattle.fb_report.specs.declared.line.Line.{Line}
use Rattle.fb_report.specs.declared.line.Line.TheVariants.{Inv}
use Rattle.fb_report.specs.declared.named.NamedRecord.{NamedRecord}
use Rattle.fb_report.specs.Names.{named_record}
use Rattle.fb_functest.specs.PlanLines.{plans_of, next_plan}
use Rattle.fb_functest.specs.ReportLines.{plan_line, end_line, line_of, with_above, lines_below}
use Rattle.fb_functest.specs.Runs.{went_of, went_if_done, runs_of}
use Rattle.fb_functest.specs.Told.{told, PlansAreTold}
use Rattle.fb_valid.specs.Lines.{records_told}
use Rattle.fb_valid.proofs.Names.{each_pair, record_back}
use Rattle.fb_valid.proofs.Told.{IsToldPlan, IsTold, told_record, told_plan, told_end, AreTold, records_tell, plans_tell, owners_long, plans_long, told_push}

-- ---- a run that came to its end

pub record Ended (evaluated : Evaluation TestRun ℕ) (went : Went) : Type 0 where
  pub run : TestRun
  pub left : ℕ
  pub done : evaluated ≡ Done run left
  pub same : went_of run ≡ went

pub ended : (evaluated : Evaluation TestRun ℕ) (went : Went) → went_if_done evaluated ≡ Some went → Ended evaluated went
ended Spent went is = absurd (cc)
ended Missing went is = absurd (cc)
ended (Done run left) went is = record { run = run; left = left; done = refl; same = same_Some (went_of run) went is }

module _ (services : ServicesTree) (test : TestTree) (version fuel : ℕ) (spelled : RunsAreSpelled) where
  -- the tree of a plan's run, by the places of its records
  tree_of : (above : List Line) (before : List CampaignLine) (planned : Planned) → AreTold services test version fuel [] above before
      → campaign.IsSpelled (runs_of services test) fuel before planned → next_plan (plans_of (map told (planned_in before))) (told planned) ≡ Some planned.plan
      → IsToldPlan services test version fuel above planned
  tree_of above before planned tells its plan =
      let e = ended (run_of services test fuel planned.plan) its.went its.done in
      let visits : planned.visits ≡ visits_of e.run = its.visits ∙ ap (λ (w : Went). w.visits) (sym e.same) in
      let records : planned.records ≡ records_in e.run.calls = its.records ∙ ap (λ (w : Went). w.records) (sym e.same) in
      let injected : injections_of e.run ≡ planned.plan = ap injections_in (sym visits) ∙ its.injected in
      let at : AreAt (records_told services above) planned.uses (records_in e.run.calls) =
      ap (λ items. map (slice_get items) planned.uses) (records_tell services test version fuel [] above before tells) ∙ its.used ∙ ap (map Some) records in
      record {
        tree = record {
          plan = planned.plan;
          has_plan = ap (λ lines. next_plan (plans_of lines) (told planned)) (plans_tell services test version fuel [] above before tells) ∙ plan;
          run = e.run;
          spells = subst (λ plan. SpellsRun services test fuel (records_told services above) plan planned.uses e.run) injected
              (spelled services test fuel (records_told services above) planned.plan planned.uses e.run e.left e.done at);
        };
        plan = refl;
        visits = visits;
        records = records;
      }

module _ (services : ServicesTree) (test : TestTree) (choices : Choices) (version fuel : ℕ) (reduction : Bool) (report : List CampaignLine)
    (spelled : RunsAreSpelled) (plans_law : PlansAreTold) (names : (method : ℕ) (name : MethodName) →
    (option_map (λ s. s.name) (signature_at services method) ≡ Some name) ↔ (number_in (declarations_of services) name.service name.method ≡ Some method))
    (valid : campaign.IsValid (runs_of services test) choices fuel reduction report) where
  record_told : (above : List Line) (before : List CampaignLine) (recorded : Recorded) (line : Line) (o : Option NamedRecord) → named_record services recorded.item ≡ o
      → AreTold services test version fuel [] above before → option_map (Inv (length (record_lines before)) recorded.owner) o ≡ Some line
      → IsTold services test version fuel above line (RecordLine recorded)
  record_told above before recorded line None is tells found = absurd (cc)
  record_told above before recorded line (Some name) is tells found =
      told_record name recorded refl
      (sym (same_Some (Inv (length (record_lines before)) recorded.owner name) line found)
      ∙ ap (λ n. Inv n recorded.owner name) (sym (owners_long services test version fuel [] above before tells)))
      (record_back services names recorded.item name is)

  line_told : (above : List Line) (before : List CampaignLine) (made : CampaignLine) (after : List CampaignLine) (line : Line) → report ≡ before ++ made ∷ after
      → AreTold services test version fuel [] above before → line_of services version before made ≡ Some line → IsTold services test version fuel above line made
  line_told above before (RecordLine recorded) after line is tells found =
      record_told above before recorded line (named_record services recorded.item) refl tells found
  line_told above before (PlannedLine planned) after line is tells found =
      let planned_is = ap planned_in is ∙ filter_map-append planned_of before (PlannedLine planned ∷ after) in
      told_plan planned refl
      (sym (same_Some (plan_line version (length (planned_in before)) planned) line found)
      ∙ ap (λ n. plan_line version n planned) (sym (plans_long services test version fuel [] above before tells)))
      (tree_of services test version fuel spelled above before planned tells (valid.trees before planned after is)
      (plans_law choices report valid.parents (planned_in before) planned (planned_in after) planned_is))
  line_told above before (EndLine why totals) after line is tells found =
      told_end why totals refl (sym (same_Some (end_line why totals) line found))

  told_from : (above rest : List Line) (before after : List CampaignLine) → report ≡ before ++ after → AreTold services test version fuel [] above before
      → lines_below services version before after ≡ Some rest → AreTold services test version fuel above rest after
  told_from above rest before [] is tells found = subst (λ lines. AreTold services test version fuel above lines []) (same_Some [] rest found) tt
  told_from above rest before (made ∷ after) is tells found =
      let parts = each_pair (λ placed. line_of services version placed.0 placed.1) (before, made) (with_above (before ++ made ∷ []) after) rest found in
      let here = line_told above before made after parts.first is tells parts.first_is in
      let later = told_from (above ++ parts.first ∷ []) parts.others (before ++ made ∷ []) after (is ∙ sym (append_assoc before (made ∷ []) after))
      (told_push services test version fuel [] above before parts.first made tells here) parts.others_are in
      subst (λ lines. AreTold services test version fuel above lines (made ∷ after)) (sym parts.out_is) (here, later)

  pub lines_tell : (lines : List Line) → lines_below services version [] report ≡ Some lines → AreTold services test version fuel [] lines report
  lines_tell lines found = told_from [] lines [] report refl tt found
