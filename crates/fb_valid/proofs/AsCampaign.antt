-- The lines of a valid report tell those of a campaign.
use Rattle.std.proofs.Common.{◌≡◌, ℕ, ◌<◌, List, [], ◌∷◌, ◌++◌, length, refl, sym, ap, ◌∙◌, subst, arith, append_assoc}
use Rattle.std.proofs.lemmas.Option.{same_Some}
use Rattle.fb_syntax.specs.Trees.{ServicesTree, TestTree}
use Rattle.fb_tree.specs.Calls.{visits_of}
use Rattle.fb_tree.specs.Records.{records_in}
use Rattle.fb_campaign.specs.Reports.{Recorded, Planned, Completed, Totals, Line as CampaignLine, RecordLine, PlanLine as PlannedLine, EndLine}
use Rattle.fb_campaign.specs.Runs.{Choices}
use Rattle.fb_report.specs.declared.line.Line.{Line}
use Rattle.fb_report.specs.declared.line.Line.TheVariants.{Header, Inv, Plan, End}
use Rattle.fb_functest.specs.PlanLines.{PlanLine, plan_lines}
use Rattle.fb_functest.specs.ReportLines.{last_fault}
use Rattle.fb_valid.specs.Lines.{owners_told, run_lines, pruned_lines, failed_lines}
use Rattle.fb_valid.specs.Trees.{plan_below, IsSpelled}
use Rattle.fb_valid.specs.Rules.{HasParent}
use Rattle.fb_valid.specs.Valid.{IsValid}
use Rattle.fb_valid.proofs.Childhood.{child_plan, last_added, first_plan}
use Rattle.fb_valid.proofs.Told.{IsTold, told_record, told_plan, told_end, AreTold}

module _ (services : ServicesTree) (test : TestTree) (choices : Choices) (bytes : List ℕ) (valid : IsValid services test choices bytes) where
  -- ---- line by line

  fault_is : (above : List Line) (line : PlanLine) → HasParent services test choices valid.fuel above line → (tree : IsSpelled services test valid.fuel above line)
      → line.fault ≡ last_fault tree.plan
  fault_is above line parents tree = by (plan_lines above) refl
    where
      by : (lines : List PlanLine) → plan_lines above ≡ lines → line.fault ≡ last_fault tree.plan
      by [] none = (parents.root none).no_fault ∙ ap last_fault (same_Some [] tree.plan (sym (first_plan above line none) ∙ tree.has_plan))
      by (first ∷ lines) some =
          let child = parents.child (subst (λ (ls : List PlanLine). 0 < length ls) (sym some) (omega arith)) in
          let plan = child_plan above child.before child.stands child.between child.parent line child.tree.plan child.fault child.cut child.is_parent child.named child.tree.has_plan child.has_fault in
          child.has_fault ∙ sym (last_added child.tree.plan child.fault) ∙ ap last_fault (same_Some _ tree.plan (sym plan ∙ tree.has_plan))

  line_made : (above : List Line) (line : Line) (rest : List Line) → valid.lines ≡ above ++ line ∷ rest → (made : CampaignLine) × IsTold services test valid.version valid.fuel above line made
  line_made above (Header version fuel reduction) rest is = absurd (valid.structure.in_place above (Header version fuel reduction) rest is).numbered
  line_made above (Inv id owner made) rest is =
      let numbered = (valid.structure.in_place above (Inv id owner made) rest is).numbered in
      let new = valid.records above (Inv id owner made) rest is made refl in
      let recorded : Recorded = record { item = new.item; owner = owner } in
      (RecordLine recorded, told_record made recorded refl (ap (λ n. Inv n owner made) numbered) new.by_numbers)
  line_made above (Plan version id parent fault run uses outcome) rest is =
      let numbered = (valid.structure.in_place above (Plan version id parent fault run uses outcome) rest is).numbered in
      let line : PlanLine = record { parent = parent; fault = fault; run = run; uses = uses; outcome = outcome } in
      let tree = valid.trees above (Plan version id parent fault run uses outcome) rest is line refl in
      let last = fault_is above line (valid.parents above (Plan version id parent fault run uses outcome) rest is line refl) tree in
      let planned : Planned = record {
        plan = tree.plan;
        parent = parent;
        is_run = run;
        uses = uses;
        visits = visits_of tree.run;
        records = records_in tree.run.calls;
        outcome = outcome;
      } in
      let same : IsSpelled services test valid.fuel above (record { parent = parent; fault = last_fault tree.plan; run = run; uses = uses; outcome = outcome }) = record {
        plan = tree.plan;
        has_plan = ap (λ f. plan_below above (record { parent = parent; fault = f; run = run; uses = uses; outcome = outcome })) (sym last) ∙ tree.has_plan;
        run = tree.run;
        spells = tree.spells;
      } in (
        PlannedLine planned,
        told_plan planned refl (λ i. Plan (numbered.0 i) (numbered.1 i) parent (last i) run uses outcome)
            (record { tree = same; plan = refl; visits = refl; records = refl }),
      )
  line_made above (End cause plans run pruned failed invs stopped) rest is =
      let numbered = (valid.structure.in_place above (End cause plans run pruned failed invs stopped) rest is).numbered in
      let totals : Totals = record {
        plans = length (plan_lines above);
        run = length (run_lines above);
        pruned = length (pruned_lines above);
        failed = length (failed_lines above);
        records = length (owners_told above);
      } in
      (EndLine Completed totals, told_end Completed totals refl numbered.1)

  pub record IsCampaign (above rest : List Line) : Type 0 where
    pub report : List CampaignLine
    pub tells : AreTold services test valid.version valid.fuel above rest report

  lines_made : (above rest : List Line) → valid.lines ≡ above ++ rest → IsCampaign above rest
  lines_made above [] is = record { report = []; tells = tt }
  lines_made above (line ∷ rest) is =
      let here = line_made above line rest is in
      let later = lines_made (above ++ line ∷ []) rest (is ∙ sym (append_assoc above (line ∷ []) rest)) in
      record { report = here.0 ∷ later.report; tells = (here.1, later.tells) }

  pub as_campaign : IsCampaign [] valid.lines
  as_campaign = lines_made [] valid.lines refl
