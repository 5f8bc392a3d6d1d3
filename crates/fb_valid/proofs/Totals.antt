-- The totals of end lines.
use Rattle.std.proofs.Common.{◌≡◌, ℕ, ◌<◌, Bool, true, not, None, List, [], ◌∷◌, ◌++◌, filter, length, append-nil, refl, sym, ap, ◌∙◌}
use Rattle.std.proofs.lemmas.List.{length-map}
use Rattle.std.proofs.lemmas.List.Elements.{filter_map-append}
use Rattle.fb_syntax.specs.Trees.{ServicesTree, TestTree}
use Rattle.fb_campaign.specs.Reports.{Cause, Completed, FuelSpent, BudgetSpent, Totals, Line as CampaignLine, EndLine, has_passed, plan_lines as planned_in, totals_of}
use Rattle.fb_report.specs.declared.line.Cause.TheVariants as cause
use Rattle.fb_report.specs.declared.line.Line.{Line}
use Rattle.fb_report.specs.declared.line.Line.TheVariants.{Header, Inv, Plan, End}
use Rattle.fb_functest.specs.PlanLines.{PlanLine, plan_line_in, plan_lines}
use Rattle.fb_functest.specs.ReportLines.{end_line}
use Rattle.fb_functest.specs.Told.{told}
use Rattle.fb_valid.specs.Lines.{owner_in, owners_told, is_end, end_below}
use Rattle.fb_valid.specs.Rules.{IsNumbered}
use Rattle.fb_valid.proofs.Lists.{made_none, filter-map}
use Rattle.fb_valid.proofs.Told.{plan_lines_skip, IsTold, told_record, told_plan, told_end, AreTold, plans_tell, owners_long, plans_long}

module _ (services : ServicesTree) (test : TestTree) (version fuel : ℕ) where
  module _ (above : List Line) (before : List CampaignLine) (tells : AreTold services test version fuel [] above before) where
    kept_long : (p : PlanLine → Bool) → length (filter p (plan_lines above)) ≡ length (filter (λ planned. p (told planned)) (planned_in before))
    kept_long p =
        ap (λ lines. length (filter p lines)) (plans_tell services test version fuel [] above before tells)
        ∙ ap length (filter-map told p (planned_in before)) ∙ length-map (filter (λ planned. p (told planned)) (planned_in before)) told

    -- an end line with the totals of the campaign's lines is that of the lines above it
    pub totals_same : end_line Completed (totals_of before) ≡ end_below above
    totals_same = sym (λ i.
        end_line Completed (record {
          plans = plans_long services test version fuel [] above before tells i;
          run = kept_long (λ line. line.run) i;
          pruned = kept_long (λ line. not line.run) i;
          failed = kept_long (λ line. not (has_passed line.outcome)) i;
          records = owners_long services test version fuel [] above before tells i;
        }))

  pub numbered_end : (above : List Line) (line : Line) → is_end line ≡ true → IsNumbered version above line → (line ≡ end_below above) × (0 < length (plan_lines above))
  numbered_end above (Header other fuel reduction) ends numbered = absurd numbered
  numbered_end above (Inv id owner made) ends numbered = absurd (cc)
  numbered_end above (Plan other id parent fault run uses outcome) ends numbered = absurd (cc)
  numbered_end above (End cause plans run pruned failed invs stopped) ends numbered = (numbered.1, numbered.0)

  told_so : (why : Cause) (totals whole : Totals) → end_line why totals ≡ end_line Completed whole → EndLine why totals ≡ EndLine Completed whole
  told_so Completed totals whole is = λ i. EndLine Completed (record {
    plans = (let same : totals.plans ≡ whole.plans = cc in same) i;
    run = (let same : totals.run ≡ whole.run = cc in same) i;
    pruned = (let same : totals.pruned ≡ whole.pruned = cc in same) i;
    failed = (let same : totals.failed ≡ whole.failed = cc in same) i;
    records = (let same : totals.records ≡ whole.records = cc in same) i;
  })
  told_so (FuelSpent plan) totals whole is = absurd (cc)
  told_so (BudgetSpent plan) totals whole is = absurd (cc)

  -- an end line in its place tells that of the campaign
  pub end_is : (above : List Line) (line : Line) (before : List CampaignLine) (made : CampaignLine) → AreTold services test version fuel [] above before → IsTold services test version fuel above line made
      → is_end line ≡ true → IsNumbered version above line → (made ≡ EndLine Completed (totals_of before)) × (0 < length (plan_lines above))
  end_is above line before made tells (told_record name recorded is line_is named) ends numbered = (let other = ap is_end line_is in absurd (cc))
  end_is above line before made tells (told_plan planned is line_is its) ends numbered = (let other = ap is_end line_is in absurd (cc))
  end_is above line before made tells (told_end why totals is line_is) ends numbered =
      let both = numbered_end above line ends numbered in
      (is ∙ told_so why totals (totals_of before) (sym line_is ∙ both.0 ∙ sym (totals_same above before tells)), both.1)

-- the totals of all lines are those of the lines above the last one, where that is an end line
pub end_of_all : (body : List Line) (last : Line) → is_end last ≡ true → end_below (body ++ last ∷ []) ≡ end_below body
end_of_all body last ends =
    let plans = plan_lines_skip body last (no_plan last ends) in
    let owners : owners_told (body ++ last ∷ []) ≡ owners_told body =
    filter_map-append owner_in body (last ∷ []) ∙ ap (λ rest. owners_told body ++ rest) (made_none owner_in last [] (no_owner last ends)) ∙ append-nil (owners_told body) in
    λ i. End cause.Completed (length (plans i)) (length (filter (λ line. line.run) (plans i))) (length (filter (λ line. not line.run) (plans i)))
    (length (filter (λ line. not (has_passed line.outcome)) (plans i))) (length (owners i)) None
  where
    no_plan : (line : Line) → is_end line ≡ true → plan_line_in line ≡ None
    no_plan (Header version fuel reduction) is = refl
    no_plan (Inv id owner made) is = refl
    no_plan (Plan version id parent fault run uses outcome) is = absurd (cc)
    no_plan (End cause plans run pruned failed invs stopped) is = refl

    no_owner : (line : Line) → is_end line ≡ true → owner_in line ≡ None
    no_owner (Header version fuel reduction) is = refl
    no_owner (Inv id owner made) is = absurd (cc)
    no_owner (Plan version id parent fault run uses outcome) is = refl
    no_owner (End cause plans run pruned failed invs stopped) is = refl
