-- Plan lines that tell a valid campaign keep the rules.
use Rattle.std.proofs.Common.{◌≡◌, ℕ, zero, suc, ◌<◌, Bool, true, Some, List, [], ◌∷◌, ◌++◌, map, length, slice_get, Contains, refl, sym, ap, ◌∙◌, subst, arith}
use Rattle.std.proofs.lemmas.List.{map-append}
use Rattle.std.proofs.lemmas.List.Elements.{filter_map-append}
use Rattle.std.proofs.lemmas.Option.{same_Some}
use Rattle.fb_base.specs.declared.reply.Reply.{Reply}
use Rattle.fb_index.specs.Entry.{Occurrence}
use Rattle.fb_index.specs.declared.fault.Fault.{Fault}
use Rattle.fb_syntax.specs.Trees.{ServicesTree, TestTree}
use Rattle.fb_tree.specs.Calls.{visits_of}
use Rattle.fb_tree.specs.declared.visit.Visit.{Visit}
use Rattle.fb_campaign.specs.Plans.{begun_after_plan, between_services, extensions_at, extensions_of}
use Rattle.fb_campaign.specs.Reports.{Recorded, Planned, Line as CampaignLine, PlanLine as PlannedLine, record_of_line, plan_of_line as planned_of, record_lines, plan_lines as planned_in, plans_in}
use Rattle.fb_campaign.specs.Runs.{Choices, AreDistinct}
use Rattle.fb_campaign.specs.Valid as campaign
use Rattle.fb_meaning.specs.Each.{HoldsOfEach}
use Rattle.fb_meaning.specs.Records.{IsTrueRecord}
use Rattle.fb_meaning.specs.Spelling.{SpelledIsRun, OneIsSpelled}
use Rattle.fb_report.specs.declared.line.Line.{Line}
use Rattle.fb_functest.specs.PlanLines.{plan_line_in, plan_lines, with_fault}
use Rattle.fb_functest.specs.ReportLines.{last_fault}
use Rattle.fb_functest.specs.Runs.{went_of, went_if_done, runs_of}
use Rattle.fb_functest.specs.Told.{told}
use Rattle.fb_valid.specs.Lines.{owners_told, records_told}
use Rattle.fb_valid.specs.Rules.{IsRoot, IsChild, HasParent, EndsAsItsTree, IsExtended, UsesEarlier, OwnsSome}
use Rattle.fb_valid.proofs.Childhood.{last_added}
use Rattle.fb_valid.proofs.Distinct.{distinct_apart}
use Rattle.fb_valid.proofs.Lists.{in_map, map_has, flat_map_has, in_same, get_left, get_front, get_next, map_get, in_middle, made_number}
use Rattle.fb_valid.proofs.Told.{IsToldPlan, AreTold, owners_tell, plans_long, line_in, in_line, line_of_made, same_tree, plan_told, line_of_planned}

-- a plan that extends another one has one fault more
pub one_more : (choices : Choices) (visits : List Visit) (plan longer : List Fault) → Contains (extensions_of choices visits plan) longer
    → (fault : List Occurrence × Reply) × (longer ≡ with_fault plan fault)
one_more choices visits plan longer has =
    let at = flat_map_has (extensions_at choices plan) longer (between_services (begun_after_plan plan visits)) has in
    let given = map_has (λ given. plan ++ record { index = at.0.index; reply = given } ∷ []) longer (choices at.0.callee) at.2 in
    ((at.0.index, given.0), sym given.2)

module _ (spelled : SpelledIsRun) (one : OneIsSpelled) (services : ServicesTree) (test : TestTree) (choices : Choices) (version fuel : ℕ) (reduction : Bool)
    (report : List CampaignLine) (valid : campaign.IsValid (runs_of services test) choices fuel reduction report)
    (lines : List Line) (tells : AreTold services test version fuel [] lines report)
    (above : List Line) (true_above : HoldsOfEach (IsTrueRecord services fuel) (records_told services above)) (before after : List CampaignLine) (planned : Planned)
    (is : report ≡ before ++ PlannedLine planned ∷ after) (tells_above : AreTold services test version fuel [] above before) (its : IsToldPlan services test version fuel above planned) where
  planned_is : planned_in report ≡ planned_in before ++ planned ∷ planned_in after
  planned_is = ap planned_in is ∙ filter_map-append planned_of before (PlannedLine planned ∷ after)

  long : length (plan_lines above) ≡ length (planned_in before)
  long = plans_long services test version fuel [] above before tells_above

  there : slice_get (planned_in report) (length (planned_in before)) ≡ Some planned
  there = ap (λ ps. slice_get ps (length (planned_in before))) planned_is ∙ get_next (planned_in before) (planned_in after) planned

  has_planned : Contains (planned_in report) planned
  has_planned = in_same planned _ _ (sym planned_is) (in_middle (planned_in before) (planned_in after) planned)

  -- ---- its parent

  root : plan_lines above ≡ [] → IsRoot (told planned)
  root none =
      let first : length (planned_in before) ≡ 0 = sym long ∙ ap length none in
      let rule = valid.parents.root planned (ap (slice_get (planned_in report)) (sym first) ∙ there) in
      record { no_parent = rule.no_parent; no_fault = ap last_fault rule.no_fault; is_run = rule.is_run }

  child_of : (number : ℕ) → length (planned_in before) ≡ suc number → campaign.IsChild choices report (suc number) planned → IsChild services test choices fuel above (told planned)
  child_of number so rule =
      let parent = rule.parent in
      let early = rule.earlier in
      let parent_there : slice_get (planned_in before) rule.place ≡ Some parent =
      get_front (planned_in before) (planned ∷ planned_in after) rule.place parent (omega (arith, early, so)) (ap (λ ps. slice_get ps rule.place) (sym planned_is) ∙ rule.there) in
      let made = made_number planned_of before rule.place parent parent_there in
      let place_is : length (planned_in made.2.above) ≡ rule.place = ap length made.2.made ∙ made.1 in
      let cut_is : before ≡ made.2.above ++ PlannedLine parent ∷ made.2.below =
      made.2.is ∙ ap (λ m. made.2.above ++ m ∷ made.2.below) (line_of_planned made.2.item parent made.2.makes) in
      let cut = line_of_made services test version fuel above before tells_above made.2.above (PlannedLine parent) made.2.below cut_is in
      let up = plan_told services test version fuel cut.above cut.line parent cut.cut.tells in
      let fault = one_more choices parent.visits parent.plan planned.plan rule.extended in
      record {
        before = cut.above;
        stands = cut.line;
        between = cut.below;
        cut = cut.is;
        parent = told parent;
        is_parent = ap plan_line_in up.0;
        named = rule.named ∙ ap Some (sym place_is ∙ sym (plans_long services test version fuel [] cut.above made.2.above cut.cut.tells_above));
        tree = up.1.tree;
        fault = fault.0;
        has_fault = ap last_fault fault.1 ∙ last_added parent.plan fault.0;
        extends = subst (Contains (extensions_of choices (visits_of up.1.tree.run) up.1.tree.plan)) (fault.1 ∙ ap (λ plan. with_fault plan fault.0) up.1.plan)
            (in_same planned.plan _ _ (λ i. extensions_of choices (up.1.visits i) (up.1.plan i)) rule.extended);
      }

  child : 0 < length (plan_lines above) → IsChild services test choices fuel above (told planned)
  child some = by (length (planned_in before)) refl
    where
      by : (n : ℕ) → length (planned_in before) ≡ n → IsChild services test choices fuel above (told planned)
      by zero none = absurd (omega (arith, some, long, none))
      by (suc number) so = child_of number so (valid.parents.child number planned (ap (slice_get (planned_in report)) (sym so) ∙ there))

  pub has_parent : HasParent services test choices fuel above (told planned)
  has_parent = record {
    root = root;
    child = child;
    is_new = λ plan has_plan old. (
        let same : plan ≡ planned.plan = same_Some plan planned.plan (sym has_plan ∙ its.tree.has_plan ∙ ap Some (sym its.plan)) in
        let whole : plans_in report ≡ plans_in before ++ planned.plan ∷ map (λ (p : Planned). p.plan) (planned_in after) =
        ap (map (λ (p : Planned). p.plan)) planned_is ∙ map-append (λ (p : Planned). p.plan) (planned_in before) (planned ∷ planned_in after) in
        distinct_apart (plans_in before) (map (λ (p : Planned). p.plan) (planned_in after)) planned.plan (subst AreDistinct whole valid.parents.once)
        (subst (Contains (plans_in before)) same (line_in services test version fuel above before tells_above plan old)));
  }

  -- ---- its outcome and its extensions

  pub ends_as_its_tree : EndsAsItsTree services test fuel above (told planned)
  ends_as_its_tree tree =
      let plan : planned.plan ≡ tree.plan = same_Some planned.plan tree.plan (sym (its.tree.has_plan ∙ ap Some (sym its.plan)) ∙ tree.has_plan) in
      let done = ap (runs_of services test fuel) plan ∙ ap went_if_done (spelled services test fuel (records_told services above) tree.plan planned.uses tree.run true_above tree.spells) in
      valid.outcomes planned (went_of tree.run) has_planned done

  pub is_extended : IsExtended services test choices fuel lines above (told planned)
  is_extended tree longer extends =
      let same = same_tree services test version fuel one above (told planned) (told planned) refl true_above its.tree tree in
      let visits : visits_of tree.run ≡ planned.visits = sym (its.visits ∙ ap visits_of same.1) in
      let plan : tree.plan ≡ planned.plan = sym (its.plan ∙ same.0) in
      in_line services test version fuel lines report tells longer
      (valid.complete planned longer has_planned (in_same longer _ _ (λ i. extensions_of choices (visits i) (plan i)) extends))

  -- ---- the records that it uses

  pub uses_earlier : UsesEarlier above (told planned)
  uses_earlier pruned place owner uses owner_there =
      let recorded = map_get (λ (r : Recorded). r.owner) (record_lines before) place owner
      (ap (λ owners. slice_get owners place) (sym (owners_tell services test version fuel [] above before tells_above)) ∙ owner_there) in
      let all : slice_get (record_lines report) place ≡ Some recorded.0 =
      ap (λ rs. slice_get rs place) (ap record_lines is ∙ filter_map-append record_of_line before (PlannedLine planned ∷ after))
      ∙ get_left (record_lines before) (record_lines (PlannedLine planned ∷ after)) place recorded.0 recorded.1 in
      let less = valid.owners.earlier (length (planned_in before)) planned there pruned place recorded.0 uses all in
      let same = recorded.2 in
      let count = long in
      omega (arith, less, same, count)

  -- ---- the records that it owns

  pub owns_some : reduction ≡ true → OwnsSome lines above (told planned)
  owns_some on some is_run = by (length (planned_in before)) refl
    where
      by : (n : ℕ) → length (planned_in before) ≡ n → Contains (owners_told lines) (length (plan_lines above))
      by zero none = absurd (omega (arith, some, long, none))
      by (suc number) so =
          let own = valid.reduced on number planned (ap (slice_get (planned_in report)) (sym so) ∙ there) is_run in
          let owner_is : own.0.owner ≡ length (plan_lines above) = own.2 ∙ sym so ∙ sym long in
          in_same (length (plan_lines above)) _ _ (sym (owners_tell services test version fuel [] lines report tells))
          (subst (Contains (map (λ (r : Recorded). r.owner) (record_lines report))) owner_is (in_map (λ (r : Recorded). r.owner) own.0 (record_lines report) own.1))
