-- Lines that tell a valid campaign keep the rules.
use Rattle.std.proofs.Common.{◌≡◌, ⊎_elim, ℕ, ◌<◌, Bool, true, false, Some, List, [], ◌∷◌, ◌++◌, map, length, slice_get, Contains, refl, sym, ap, ◌∙◌, subst, arith}
use Rattle.std.specs.Prelude.{IsNone}
use Rattle.std.proofs.lemmas.Bool.{cases_Bool}
use Rattle.std.proofs.lemmas.List.{map-append}
use Rattle.std.proofs.lemmas.List.Elements.{Contains-append_left, filter_map-append}
use Rattle.std.proofs.lemmas.Option.{same_Some}
use Rattle.fb_syntax.specs.Trees.{ServicesTree, TestTree}
use Rattle.fb_check.specs.FirstRefusal.{first_refusal, first_refusal_of_test}
use Rattle.fb_tree.specs.Records.{records_in}
use Rattle.fb_tree.specs.declared.recorded.Record.{Record}
use Rattle.fb_campaign.specs.Reports.{Recorded, Planned, Cause, Completed, Totals, Line as CampaignLine, RecordLine, PlanLine as PlannedLine, EndLine, record_of_line, plan_of_line as planned_of, record_lines, plan_lines as planned_in, records_in as recorded_in, totals_of}
use Rattle.fb_campaign.specs.Runs.{Went, Choices, AreDistinct}
use Rattle.fb_campaign.specs.Valid as campaign
use Rattle.fb_meaning.specs.Each.{HoldsOfEach}
use Rattle.fb_meaning.specs.Kinds.{RecordsOfRunsAreTrue}
use Rattle.fb_meaning.specs.Records.{IsTrueRecord}
use Rattle.fb_meaning.specs.Runs.{run_of}
use Rattle.fb_meaning.specs.Spelling.{SpelledIsRun, OneIsSpelled}
use Rattle.fb_report.specs.declared.line.Line.{Line}
use Rattle.fb_report.specs.Names.{record_named}
use Rattle.fb_functest.specs.PlanLines.{PlanLine, plan_line_in, plan_lines}
use Rattle.fb_functest.specs.ReportLines.{end_line}
use Rattle.fb_functest.specs.Runs.{runs_of}
use Rattle.fb_functest.specs.Told.{told}
use Rattle.fb_valid.specs.Lines.{owner_in, made_in, record_in, owners_told, records_told, is_end, end_below}
use Rattle.fb_valid.specs.Trees.{IsSpelled}
use Rattle.fb_valid.specs.Rules.{OfInv, OfPlan, IsNumbered, IsInPlace, IsNewRecord, HasParent, EndsAsItsTree, IsExtended, UsesEarlier, IsOwned, HasOwner, OwnsSome}
use Rattle.fb_valid.specs.Valid.{OfEachLine, IsEnded, AreOwned}
use Rattle.fb_valid.proofs.Distinct.{distinct_apart}
use Rattle.fb_valid.proofs.FromCampaign.{ended}
use Rattle.fb_valid.proofs.Lists.{in_map, map_has, in_same, get_in, get_left, get_next, get_map, map_get, in_middle, made_some, split, last_or_front, made_number}
use Rattle.fb_valid.proofs.PlanRules as rules
use Rattle.fb_valid.proofs.Told.{each_member, each_at, IsTold, told_record, told_plan, told_end, AreTold, owners_tell, records_tell, plans_tell, plans_long, ReportCut, line_of_made, made_of_line, IsPlanned, is_planned, line_of_planned}
use Rattle.fb_valid.proofs.Totals.{totals_same}

module _ (spelled : SpelledIsRun) (one : OneIsSpelled) (truth : RecordsOfRunsAreTrue) (services : ServicesTree) (test : TestTree)
    (accepted : IsNone (first_refusal services)) (accepted_test : IsNone (first_refusal_of_test services test)) (choices : Choices) (version fuel : ℕ) (reduction : Bool)
    (report : List CampaignLine) (valid : campaign.IsValid (runs_of services test) choices fuel reduction report)
    (lines : List Line) (tells : AreTold services test version fuel [] lines report) where
  abbrev Told : List Line → List CampaignLine → Type 0
  Told above before = AreTold services test version fuel [] above before

  -- ---- true records

  -- a record that is used is one of a run
  used_true : (before : List CampaignLine) (planned : Planned) (place : ℕ) (item : Record) → campaign.IsSpelled (runs_of services test) fuel before planned
      → Contains planned.uses place → slice_get (recorded_in before) place ≡ Some item → IsTrueRecord services fuel item
  used_true before planned place item its uses there =
      let e = ended (run_of services test fuel planned.plan) its.went its.done in
      let found = map_has Some (slice_get (recorded_in before) place) planned.records (in_same _ _ _ its.used (in_map (slice_get (recorded_in before)) place planned.uses uses)) in
      let same = same_Some found.0 item (found.2 ∙ there) in
      let has : Contains (records_in e.run.calls) item =
      in_same item _ _ (its.records ∙ ap (λ (w : Went). w.records) (sym e.same)) (subst (Contains planned.records) same found.1) in
      each_at (IsTrueRecord services fuel) (records_in e.run.calls) (truth services test accepted accepted_test fuel fuel planned.plan e.run e.left e.done (omega arith)) item has

  record_true : (place : ℕ) (item : Record) → slice_get (recorded_in report) place ≡ Some item → IsTrueRecord services fuel item
  record_true place item there =
      let recorded = map_get (λ (r : Recorded). r.item) (record_lines report) place item there in
      let own = valid.owners.owned place recorded.0 recorded.1 in
      let cut = (made_number planned_of report recorded.0.owner own.line own.there).2 in
      let is : report ≡ cut.above ++ PlannedLine own.line ∷ cut.below = cut.is ∙ ap (λ made. cut.above ++ made ∷ cut.below) (line_of_planned cut.item own.line cut.makes) in
      let its = valid.trees cut.above own.line cut.below is in
      let found = map_has Some (slice_get (recorded_in cut.above) place) own.line.records
      (in_same _ _ _ its.used (in_map (slice_get (recorded_in cut.above)) place own.line.uses own.uses)) in
      let whole : recorded_in report ≡ recorded_in cut.above ++ recorded_in (PlannedLine own.line ∷ cut.below) =
      ap recorded_in is ∙ ap (map (λ (r : Recorded). r.item)) (filter_map-append record_of_line cut.above (PlannedLine own.line ∷ cut.below))
      ∙ map-append (λ (r : Recorded). r.item) (record_lines cut.above) (record_lines (PlannedLine own.line ∷ cut.below)) in
      let all = ap (λ items. slice_get items place) whole ∙ get_left (recorded_in cut.above) (recorded_in (PlannedLine own.line ∷ cut.below)) place found.0 (sym found.2) in
      let same = same_Some found.0 item (sym all ∙ there) in
      used_true cut.above own.line place item its own.uses (sym found.2 ∙ ap Some same)

  true_above : (above rest : List Line) → lines ≡ above ++ rest → HoldsOfEach (IsTrueRecord services fuel) (records_told services above)
  true_above above rest is = each_member (IsTrueRecord services fuel) (records_told services above) (λ item has. (
      let at = get_in (records_told services above) item has in
      record_true at.0 item
      (ap (λ items. slice_get items at.0) (sym (records_tell services test version fuel [] lines report tells) ∙ ap (records_told services) is ∙ filter_map-append (record_in services) above rest)
      ∙ get_left (records_told services above) (records_told services rest) at.0 item at.1)))

  -- ---- a line among the lines

  module _ (above : List Line) (line : Line) (below : List Line) (is : lines ≡ above ++ line ∷ below) (before : List CampaignLine) (made : CampaignLine) (after : List CampaignLine)
      (report_is : report ≡ before ++ made ∷ after) (tells_above : Told above before) (told_here : IsTold services test version fuel above line made) where
    -- no end line stands above it
    end_later : (other : CampaignLine) (why : Cause) (totals : Totals) → other ≡ EndLine why totals → ¬ (Contains before other)
    end_later other why totals end has =
        let ended_so = valid.structure.ended in
        ⊎_elim (λ at_end. valid.structure.no_earlier_end why totals (subst (Contains valid.structure.body) end (in_same other _ _ (sym at_end.0) has)))
        (λ early. valid.structure.no_earlier_end why totals
        (subst (Contains valid.structure.body) end (in_same other _ _ (sym early.1) (Contains-append_left before (made ∷ early.0) other has))))
        (last_or_front valid.structure.body before after (EndLine Completed (totals_of valid.structure.body)) made (sym ended_so ∙ report_is))

    not_behind_end : (other : Line) → Contains above other → is_end other ≡ false
    not_behind_end other has = ⊎_elim (λ ends. absurd (ends_there ends)) (λ not_end. not_end) (cases_Bool (is_end other))
      where
        ends_there : is_end other ≡ true → ⊥
        ends_there ends =
            let cut = split above other has in
            let up = made_of_line services test version fuel above before tells_above cut.before other cut.after cut.is in
            by up.made up.cut.tells (in_same up.made _ _ (sym up.is) (in_middle up.before up.after up.made))
          where
            by : (one_made : CampaignLine) → IsTold services test version fuel (split above other has).before other one_made → Contains before one_made → ⊥
            by one_made (told_record name recorded made_is line_is named) there = (let no_end = ap is_end line_is in absurd (cc))
            by one_made (told_plan planned made_is line_is its) there = (let no_end = ap is_end line_is in absurd (cc))
            by one_made (told_end why totals made_is line_is) there = end_later one_made why totals made_is there

    end_numbered : (why : Cause) (totals : Totals) → made ≡ EndLine why totals → line ≡ end_line why totals → IsNumbered version above line
    end_numbered why totals made_is line_is =
        ⊎_elim (λ at_end. last_one at_end.0 at_end.1)
        (λ early. absurd (valid.structure.no_earlier_end why totals
        (subst (Contains valid.structure.body) made_is (in_same made _ _ (sym early.1) (in_middle before early.0 made)))))
        (last_or_front valid.structure.body before after (EndLine Completed (totals_of valid.structure.body)) made (sym valid.structure.ended ∙ report_is))
      where
        last_one : valid.structure.body ≡ before → EndLine Completed (totals_of valid.structure.body) ≡ made → IsNumbered version above line
        last_one body_is end_is =
            let told_so : EndLine why totals ≡ EndLine Completed (totals_of before) = sym made_is ∙ sym end_is ∙ ap (λ body. EndLine Completed (totals_of body)) body_is in
            let why_is : why ≡ Completed = cc in
            let totals_are : totals ≡ totals_of before = cc in
            let so : line ≡ end_below above = line_is ∙ (λ i. end_line (why_is i) (totals_are i)) ∙ totals_same services test version fuel above before tells_above in
            let long = plans_long services test version fuel [] above before tells_above in
            subst (IsNumbered version above) (sym so)
            (subst (λ n. 0 < n) (ap (λ body. length (planned_in body)) body_is ∙ sym long) valid.structure.some_plan, refl)

    numbered : IsNumbered version above line
    numbered = by told_here
      where
        by : IsTold services test version fuel above line made → IsNumbered version above line
        by (told_record name recorded made_is line_is named) = subst (IsNumbered version above) (sym line_is) refl
        by (told_plan planned made_is line_is its) = subst (IsNumbered version above) (sym line_is) (refl, refl)
        by (told_end why totals made_is line_is) = end_numbered why totals made_is line_is

    in_place : IsInPlace version above line
    in_place = record { not_behind_end = not_behind_end; numbered = numbered }

    new_record : OfInv (IsNewRecord services fuel) above line
    new_record name is_made = by told_here
      where
        by : IsTold services test version fuel above line made → IsNewRecord services fuel above name
        by (told_plan planned made_is line_is its) = (let no_record = ap made_in line_is in absurd (cc))
        by (told_end why totals made_is line_is) = (let no_record = ap made_in line_is in absurd (cc))
        by (told_record other recorded made_is line_is named) =
            let same : other ≡ name = same_Some other name (sym (ap made_in line_is) ∙ is_made) in
            let whole : recorded_in report ≡ recorded_in before ++ recorded.item ∷ recorded_in after =
            ap recorded_in (report_is ∙ ap (λ m. before ++ m ∷ after) made_is)
            ∙ ap (map (λ (r : Recorded). r.item)) (filter_map-append record_of_line before (RecordLine recorded ∷ after))
            ∙ map-append (λ (r : Recorded). r.item) (record_lines before) (recorded ∷ record_lines after) in
            record {
              item = recorded.item;
              by_numbers = ap (record_named services) (sym same) ∙ named;
              is_true = record_true (length (recorded_in before)) recorded.item
                  (ap (λ items. slice_get items (length (recorded_in before))) whole ∙ get_next (recorded_in before) (recorded_in after) recorded.item);
              is_new = λ has. distinct_apart (recorded_in before) (recorded_in after) recorded.item (subst AreDistinct whole valid.records)
                  (in_same recorded.item _ _ (records_tell services test version fuel [] above before tells_above) has);
            }

    module _ (line_planned : PlanLine) (is_plan : plan_line_in line ≡ Some line_planned) where
      abbrev its_plan : IsPlanned services test version fuel above line_planned made
      its_plan = is_planned services test version fuel above line made line_planned told_here is_plan

      plan_there : report ≡ before ++ PlannedLine its_plan.planned ∷ after
      plan_there = report_is ∙ ap (λ m. before ++ m ∷ after) its_plan.made_is

      all_true : HoldsOfEach (IsTrueRecord services fuel) (records_told services above)
      all_true = true_above above (line ∷ below) is

      has_parent : HasParent services test choices fuel above line_planned
      has_parent = subst (HasParent services test choices fuel above) its_plan.told_is
          (rules.has_parent spelled one services test choices version fuel reduction report valid lines tells above all_true before after its_plan.planned plan_there tells_above its_plan.its)

      has_tree : IsSpelled services test fuel above line_planned
      has_tree = subst (IsSpelled services test fuel above) its_plan.told_is its_plan.its.tree

      ends_as_its_tree : EndsAsItsTree services test fuel above line_planned
      ends_as_its_tree = subst (EndsAsItsTree services test fuel above) its_plan.told_is
          (rules.ends_as_its_tree spelled one services test choices version fuel reduction report valid lines tells above all_true before after its_plan.planned plan_there tells_above its_plan.its)

      is_extended : IsExtended services test choices fuel lines above line_planned
      is_extended = subst (IsExtended services test choices fuel lines above) its_plan.told_is
          (rules.is_extended spelled one services test choices version fuel reduction report valid lines tells above all_true before after its_plan.planned plan_there tells_above its_plan.its)

      uses_earlier : UsesEarlier above line_planned
      uses_earlier = subst (UsesEarlier above) its_plan.told_is
          (rules.uses_earlier spelled one services test choices version fuel reduction report valid lines tells above all_true before after its_plan.planned plan_there tells_above its_plan.its)

      owns_some : reduction ≡ true → OwnsSome lines above line_planned
      owns_some on = subst (OwnsSome lines above) its_plan.told_is
          (rules.owns_some spelled one services test choices version fuel reduction report valid lines tells above all_true before after its_plan.planned plan_there tells_above its_plan.its on)

  -- ---- all lines

  abbrev made_there : (above : List Line) (line : Line) (below : List Line) → lines ≡ above ++ line ∷ below → ReportCut services test version fuel [] above line below report
  made_there above line below is = made_of_line services test version fuel lines report tells above line below is

  pub all_in_place : OfEachLine (IsInPlace version) lines
  all_in_place above line below is = (let at = made_there above line below is in in_place above line below is at.before at.made at.after at.is at.cut.tells_above at.cut.tells)

  pub all_new : OfEachLine (OfInv (IsNewRecord services fuel)) lines
  all_new above line below is = (let at = made_there above line below is in new_record above line below is at.before at.made at.after at.is at.cut.tells_above at.cut.tells)

  pub all_parents : OfEachLine (OfPlan (HasParent services test choices fuel)) lines
  all_parents above line below is = (let at = made_there above line below is in has_parent above line below is at.before at.made at.after at.is at.cut.tells_above at.cut.tells)

  pub all_trees : OfEachLine (OfPlan (IsSpelled services test fuel)) lines
  all_trees above line below is = (let at = made_there above line below is in has_tree above line below is at.before at.made at.after at.is at.cut.tells_above at.cut.tells)

  pub all_outcomes : OfEachLine (OfPlan (EndsAsItsTree services test fuel)) lines
  all_outcomes above line below is = (let at = made_there above line below is in ends_as_its_tree above line below is at.before at.made at.after at.is at.cut.tells_above at.cut.tells)

  pub all_complete : OfEachLine (OfPlan (IsExtended services test choices fuel lines)) lines
  all_complete above line below is = (let at = made_there above line below is in is_extended above line below is at.before at.made at.after at.is at.cut.tells_above at.cut.tells)

  all_earlier : OfEachLine (OfPlan UsesEarlier) lines
  all_earlier above line below is = (let at = made_there above line below is in uses_earlier above line below is at.before at.made at.after at.is at.cut.tells_above at.cut.tells)

  pub all_ended : IsEnded lines
  all_ended =
      let cut = line_of_made services test version fuel lines report tells valid.structure.body (EndLine Completed (totals_of valid.structure.body)) [] valid.structure.ended in
      record {
        body = cut.above;
        last = cut.line;
        cut = cut.is ∙ ap (λ rest. cut.above ++ cut.line ∷ rest) (none_below cut.cut.next cut.below cut.cut.tells_below);
        ends = by cut.above cut.line cut.cut.tells;
      }
    where
      none_below : (next below : List Line) → AreTold services test version fuel next below [] → below ≡ []
      none_below next [] told_none = refl
      none_below next (line ∷ below) told_none = absurd told_none

      by : (above : List Line) (line : Line) → IsTold services test version fuel above line (EndLine Completed (totals_of valid.structure.body)) → is_end line ≡ true
      by above line (told_record name recorded made_is line_is named) = absurd (cc)
      by above line (told_plan planned made_is line_is its) = absurd (cc)
      by above line (told_end why totals made_is line_is) = ap is_end line_is

  -- ---- owners

  told_there : (number : ℕ) (planned : Planned) → slice_get (planned_in report) number ≡ Some planned → slice_get (plan_lines lines) number ≡ Some (told planned)
  told_there number planned there =
      ap (λ ls. slice_get ls number) (plans_tell services test version fuel [] lines report tells) ∙ get_map told (planned_in report) number planned there

  owned : (place owner : ℕ) → slice_get (owners_told lines) place ≡ Some owner → IsOwned lines place owner
  owned place owner there =
      let recorded = map_get (λ (r : Recorded). r.owner) (record_lines report) place owner
      (ap (λ owners. slice_get owners place) (sym (owners_tell services test version fuel [] lines report tells)) ∙ there) in
      let own = valid.owners.owned place recorded.0 recorded.1 in
      subst (IsOwned lines place) recorded.2
      (record { line = told own.line; there = told_there recorded.0.owner own.line own.there; is_run = own.is_run; uses = own.uses })

  has_owner : OfEachLine (HasOwner lines) lines
  has_owner above line below is owner names =
      owned (length (owners_told above)) owner
      (ap (λ owners. slice_get owners (length (owners_told above))) (ap owners_told is ∙ filter_map-append owner_in above (line ∷ below)
      ∙ ap (λ rest. owners_told above ++ rest) (made_some owner_in line below owner names))
      ∙ get_next (owners_told above) (owners_told below) owner)

  pub all_owned : AreOwned lines
  all_owned = record { owned = has_owner; earlier = all_earlier }

  pub all_reduced : reduction ≡ true → OfEachLine (OfPlan (OwnsSome lines)) lines
  all_reduced on above line below is = (let at = made_there above line below is in λ tells_plan is_plan. owns_some above line below is at.before at.made at.after at.is at.cut.tells_above at.cut.tells tells_plan is_plan on)
