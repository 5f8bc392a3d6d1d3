-- The campaign's lines that the lines of a valid report tell are valid.
use Rattle.std.proofs.Common.{◌≡◌, ℕ, suc, ◌<◌, true, false, Option, Some, None, List, [], ◌∷◌, ◌++◌, map, length, slice_get, Contains, refl, sym, ap, ◌∙◌, subst, arith, append_assoc, length-append}
use Rattle.std.specs.Prelude.{option_and_then}
use Rattle.std.proofs.lemmas.List.{length-map}
use Rattle.std.proofs.lemmas.List.Elements.{filter_map-append}
use Rattle.std.proofs.lemmas.Option.{same_Some}
use Rattle.fb_index.specs.declared.fault.Fault.{Fault}
use Rattle.fb_syntax.specs.Trees.{ServicesTree, TestTree}
use Rattle.fb_tree.specs.Calls.{visits_of}
use Rattle.fb_tree.specs.Records.{records_in}
use Rattle.fb_tree.specs.declared.recorded.Record.{Record}
use Rattle.fb_campaign.specs.Plans.{injections_in, extensions_of}
use Rattle.fb_campaign.specs.Reports.{Recorded, Planned, Cause, Totals, Line as CampaignLine, PlanLine as PlannedLine, EndLine, plan_of_line as planned_of, record_lines, plan_lines as planned_in, records_in as recorded_in, plans_in}
use Rattle.fb_campaign.specs.Runs.{Went, Choices, AreDistinct}
use Rattle.fb_campaign.specs.Valid as campaign
use Rattle.fb_meaning.specs.Each.{HoldsOfEach}
use Rattle.fb_meaning.specs.Records.{IsTrueRecord}
use Rattle.fb_meaning.specs.Spelling.{SpelledIsRun, OneIsSpelled}
use Rattle.fb_report.specs.declared.line.Line.{Line}
use Rattle.fb_report.specs.declared.named.NamedRecord.{NamedRecord}
use Rattle.fb_report.specs.Names.{record_named}
use Rattle.fb_functest.specs.PlanLines.{PlanLine, plan_line_in, plan_lines, with_fault}
use Rattle.fb_functest.specs.Runs.{went_of, went_if_done, runs_of}
use Rattle.fb_functest.specs.Told.{told}
use Rattle.fb_valid.specs.Lines.{owner_in, made_in, record_in, owners_told, records_told, is_end}
use Rattle.fb_valid.specs.Trees.{HasLine}
use Rattle.fb_valid.specs.Rules.{IsNewRecord, IsChild, IsOwned}
use Rattle.fb_valid.specs.Valid.{IsValid}
use Rattle.fb_valid.proofs.TrueAbove.{each_true}
use Rattle.fb_valid.proofs.Childhood.{child_plan, first_plan}
use Rattle.fb_valid.proofs.Distinct.{distinct_items}
use Rattle.fb_valid.proofs.Lists.{in_map, map_has, in_same, get_in, get_left, get_within, get_some, get_next, get_map, map_get, in_middle, split, map_cut, none_long, made_some, made_at, made_number, MadeAt}
use Rattle.fb_valid.proofs.Told.{IsToldPlan, IsTold, told_record, told_plan, told_end, AreTold, owners_tell, records_tell, plans_tell, owners_long, plans_long, line_in, in_line, line_of_made, made_of_line, same_tree, plan_told, is_planned, line_of_planned}
use Rattle.fb_valid.proofs.Totals.{end_is}

module _ (spelled : SpelledIsRun) (one : OneIsSpelled) (services : ServicesTree) (test : TestTree) (choices : Choices) (bytes : List ℕ)
    (valid : IsValid services test choices bytes) (report : List CampaignLine) (tells : AreTold services test valid.version valid.fuel [] valid.lines report) where
  -- ---- a plan line of the campaign, with the line that tells it

  pub record Placed (before : List CampaignLine) (planned : Planned) : Type 0 where
    pub after : List CampaignLine
    pub is : report ≡ before ++ PlannedLine planned ∷ after
    pub above : List Line
    pub line : Line
    pub below : List Line
    pub line_is : valid.lines ≡ above ++ line ∷ below
    pub tells_above : AreTold services test valid.version valid.fuel [] above before
    pub plan_line_is : plan_line_in line ≡ Some (told planned)
    pub its : IsToldPlan services test valid.version valid.fuel above planned

  placed : (before : List CampaignLine) (planned : Planned) (after : List CampaignLine) → report ≡ before ++ PlannedLine planned ∷ after → Placed before planned
  placed before planned after is =
      let cut = line_of_made services test valid.version valid.fuel valid.lines report tells before (PlannedLine planned) after is in
      let its = plan_told services test valid.version valid.fuel cut.above cut.line planned cut.cut.tells in
      record {
        after = after;
        is = is;
        above = cut.above;
        line = cut.line;
        below = cut.below;
        line_is = cut.is;
        tells_above = cut.cut.tells_above;
        plan_line_is = ap plan_line_in its.0;
        its = its.1;
      }

  -- the one with this number, behind so many
  pub record Numbered (number : ℕ) (planned : Planned) : Type 0 where
    pub before : List CampaignLine
    pub long : length (planned_in before) ≡ number
    pub place : Placed before planned

  numbered : (number : ℕ) (planned : Planned) → slice_get (planned_in report) number ≡ Some planned → Numbered number planned
  numbered number planned there =
      let found = made_number planned_of report number planned there in
      let cut = found.2 in
      record {
        before = cut.above;
        long = ap length cut.made ∙ found.1;
        place = placed cut.above planned cut.below
            (cut.is ∙ ap (λ made. cut.above ++ made ∷ cut.below) (line_of_planned cut.item planned cut.makes));
      }

  some_place : (planned : Planned) → Contains (planned_in report) planned → (before : List CampaignLine) × Placed before planned
  some_place planned has =
      let at = get_in (planned_in report) planned has in
      let found = numbered at.0 planned at.1 in
      (found.before, found.place)

  module _ (before : List CampaignLine) (planned : Planned) (at : Placed before planned) where
    true_above : HoldsOfEach (IsTrueRecord services valid.fuel) (records_told services at.above)
    true_above = each_true services valid.fuel valid.lines at.above (at.line ∷ at.below) valid.records at.line_is

    -- the run that its uses spell is that of its plan
    ran : runs_of services test valid.fuel planned.plan ≡ Some (went_of at.its.tree.run)
    ran =
        ap (runs_of services test valid.fuel) at.its.plan
        ∙ ap went_if_done (spelled services test valid.fuel (records_told services at.above) at.its.tree.plan (told planned).uses at.its.tree.run true_above at.its.tree.spells)

    number_is : length (plan_lines at.above) ≡ length (planned_in before)
    number_is = plans_long services test valid.version valid.fuel [] at.above before at.tells_above

  -- ---- the structure

  structure : campaign.IsWhole report
  structure =
      let ended = valid.structure.ended in
      let cut = made_of_line services test valid.version valid.fuel valid.lines report tells ended.body ended.last [] ended.cut in
      let last = valid.structure.in_place ended.body ended.last [] ended.cut in
      let is = end_is services test valid.version valid.fuel ended.body ended.last cut.before cut.made cut.cut.tells_above cut.cut.tells ended.ends last.numbered in
      record {
        body = cut.before;
        ended = cut.is ∙ (λ i. cut.before ++ is.0 i ∷ no_more cut.cut.next cut.after cut.cut.tells_below i);
        no_earlier_end = λ cause totals has. not_above cut.before cut.cut.tells_above cause totals has last.not_behind_end;
        some_plan = subst (λ n. 0 < n) (plans_long services test valid.version valid.fuel [] ended.body cut.before cut.cut.tells_above) is.1;
      }
    where
      no_more : (next : List Line) (after : List CampaignLine) → AreTold services test valid.version valid.fuel next [] after → after ≡ []
      no_more next [] told = refl
      no_more next (made ∷ after) told = absurd told

      not_above : (before : List CampaignLine) → AreTold services test valid.version valid.fuel [] valid.structure.ended.body before → (cause : Cause) (totals : Totals)
          → Contains before (EndLine cause totals) → ((other : Line) → Contains valid.structure.ended.body other → is_end other ≡ false) → ⊥
      not_above before told cause totals has none =
          let parts = split before (EndLine cause totals) has in
          let cut = line_of_made services test valid.version valid.fuel valid.structure.ended.body before told parts.before (EndLine cause totals) parts.after parts.is in
          let other = none cut.line (in_same cut.line _ _ (sym cut.is) (in_middle cut.above cut.below cut.line)) in
          is_no_end cut.above cut.line cut.cut.tells other
        where
          is_no_end : (above : List Line) (line : Line) → IsTold services test valid.version valid.fuel above line (EndLine cause totals) → is_end line ≡ false → ⊥
          is_no_end above line (told_record name recorded is line_is named) other = absurd (cc)
          is_no_end above line (told_plan planned is line_is its) other = absurd (cc)
          is_no_end above line (told_end why others is line_is) other =
              let true_too : is_end line ≡ true = ap is_end line_is in
              absurd (cc)

  -- ---- records

  records : AreDistinct (recorded_in report)
  records =
      subst AreDistinct (records_tell services test valid.version valid.fuel [] valid.lines report tells)
      (distinct_items (records_told services valid.lines) new)
    where
      new : (before : List Record) (item : Record) (after : List Record) → records_told services valid.lines ≡ before ++ item ∷ after → ¬ (Contains before item)
      new before item after is has =
          let cut = made_at (record_in services) valid.lines before after item is in
          unlike cut (made_in cut.item) refl cut.makes (valid.records cut.above cut.item cut.below cut.is)
        where
          unlike : (cut : MadeAt (record_in services) valid.lines before item) (o : Option NamedRecord) → made_in cut.item ≡ o → record_in services cut.item ≡ Some item
              → ((made : NamedRecord) → made_in cut.item ≡ Some made → IsNewRecord services valid.fuel cut.above made) → ⊥
          unlike cut None none makes rule =
              let gone : record_in services cut.item ≡ None = ap (option_and_then (record_named services)) none in
              absurd (cc)
          unlike cut (Some made) some makes rule =
              let found : record_in services cut.item ≡ record_named services made = ap (option_and_then (record_named services)) some in
              let here = rule made some in
              let same = same_Some here.item item (sym here.by_numbers ∙ sym found ∙ makes) in
              here.is_new (in_same here.item _ _ (sym cut.made) (subst (Contains before) (sym same) has))

  -- ---- parents

  once : AreDistinct (plans_in report)
  once = distinct_items (plans_in report) new
    where
      new : (before : List (List Fault)) (plan : List Fault) (after : List (List Fault)) → plans_in report ≡ before ++ plan ∷ after → ¬ (Contains before plan)
      new before plan after is has =
          let plans = map_cut (λ (p : Planned). p.plan) (planned_in report) before after plan is in
          let cut = made_at planned_of report plans.above plans.below plans.item plans.is in
          let at = placed cut.above plans.item cut.below (cut.is ∙ ap (λ made. cut.above ++ made ∷ cut.below) (line_of_planned cut.item plans.item cut.makes)) in
          let same : plan ≡ at.its.tree.plan = sym plans.image ∙ at.its.plan in
          let there : Contains (plans_in cut.above) plan = in_same plan _ _ (sym (ap (map (λ (p : Planned). p.plan)) cut.made ∙ plans.images)) has in
          (valid.parents at.above at.line at.below at.line_is (told plans.item) at.plan_line_is).is_new at.its.tree.plan at.its.tree.has_plan
          (subst (HasLine at.above) same (in_line services test valid.version valid.fuel at.above cut.above at.tells_above plan there))

  root : (planned : Planned) → slice_get (planned_in report) 0 ≡ Some planned → campaign.IsRoot planned
  root planned there =
      let at = numbered 0 planned there in
      let none : plan_lines at.place.above ≡ [] = none_long (plan_lines at.place.above) (number_is at.before planned at.place ∙ at.long) in
      let rule = (valid.parents at.place.above at.place.line at.place.below at.place.line_is (told planned) at.place.plan_line_is).root none in
      record {
        no_parent = rule.no_parent;
        no_fault = at.place.its.plan ∙ same_Some at.place.its.tree.plan [] (sym at.place.its.tree.has_plan ∙ first_plan at.place.above (told planned) none);
        is_run = rule.is_run;
      }

  child : (number : ℕ) (planned : Planned) → slice_get (planned_in report) (suc number) ≡ Some planned → campaign.IsChild choices report (suc number) planned
  child number planned there =
      let at = numbered (suc number) planned there in
      let long = number_is at.before planned at.place ∙ at.long in
      let some : 0 < length (plan_lines at.place.above) = omega (arith, long) in
      of_child at long ((valid.parents at.place.above at.place.line at.place.below at.place.line_is (told planned) at.place.plan_line_is).child some)
    where
      lower : (before : List Line) (stands : Line) (between : List Line) (parent : PlanLine) (above : List Line) → above ≡ before ++ stands ∷ between → plan_line_in stands ≡ Some parent
          → length (plan_lines above) ≡ suc number → length (plan_lines before) < suc number
      lower before stands between parent above cut is long =
          let lines = ap length (ap plan_lines cut ∙ filter_map-append plan_line_in before (stands ∷ between)
          ∙ ap (λ rest. plan_lines before ++ rest) (made_some plan_line_in stands between parent is)) in
          let parts = length-append (plan_lines before) (parent ∷ plan_lines between) in
          omega (arith, lines, parts, long)

      of_child : (at : Numbered (suc number) planned) → length (plan_lines at.place.above) ≡ suc number
          → IsChild services test choices valid.fuel at.place.above (told planned) → campaign.IsChild choices report (suc number) planned
      of_child at long child =
          let cut = made_of_line services test valid.version valid.fuel at.place.above at.before at.place.tells_above child.before child.stands child.between child.cut in
          let parent = is_planned services test valid.version valid.fuel child.before child.stands cut.made child.parent cut.cut.tells child.is_parent in
          let report_is : report ≡ cut.before ++ PlannedLine parent.planned ∷ (cut.after ++ PlannedLine planned ∷ at.place.after) =
          at.place.is ∙ ap (λ lines. lines ++ PlannedLine planned ∷ at.place.after) (cut.is ∙ ap (λ made. cut.before ++ made ∷ cut.after) parent.made_is)
          ∙ append_assoc cut.before (PlannedLine parent.planned ∷ cut.after) (PlannedLine planned ∷ at.place.after) in
          let number_of_parent : length (planned_in cut.before) ≡ length (plan_lines child.before) =
          sym (plans_long services test valid.version valid.fuel [] child.before cut.before cut.cut.tells_above) in
          let front : valid.lines ≡ child.before ++ child.stands ∷ (child.between ++ at.place.line ∷ at.place.below) =
          at.place.line_is ∙ ap (λ lines. lines ++ at.place.line ∷ at.place.below) child.cut
          ∙ append_assoc child.before (child.stands ∷ child.between) (at.place.line ∷ at.place.below) in
          let same = same_tree services test valid.version valid.fuel one child.before (told parent.planned) child.parent parent.told_is
          (each_true services valid.fuel valid.lines child.before _ valid.records front) parent.its.tree child.tree in
          let visits : parent.planned.visits ≡ visits_of child.tree.run = parent.its.visits ∙ ap visits_of same.1 in
          let plan : parent.planned.plan ≡ child.tree.plan = parent.its.plan ∙ same.0 in
          let longer : planned.plan ≡ with_fault child.tree.plan child.fault =
          at.place.its.plan ∙ same_Some at.place.its.tree.plan _
          (sym at.place.its.tree.has_plan ∙ child_plan at.place.above child.before child.stands child.between child.parent (told planned) child.tree.plan child.fault
          child.cut child.is_parent child.named child.tree.has_plan child.has_fault) in
          let before_it = length-append (plan_lines child.before) (plan_lines (child.stands ∷ child.between)) in
          record {
            place = length (plan_lines child.before);
            parent = parent.planned;
            named = child.named;
            earlier = lower child.before child.stands child.between child.parent at.place.above child.cut child.is_parent long;
            there = ap (slice_get (planned_in report)) (sym number_of_parent) ∙ ap (λ lines. slice_get lines (length (planned_in cut.before)))
                (ap planned_in report_is ∙ filter_map-append planned_of cut.before (PlannedLine parent.planned ∷ (cut.after ++ PlannedLine planned ∷ at.place.after)))
                ∙ get_next (planned_in cut.before) (planned_in (cut.after ++ PlannedLine planned ∷ at.place.after)) parent.planned;
            extended = subst (λ plan. Contains (extensions_of choices parent.planned.visits parent.planned.plan) plan) (sym longer)
                (in_same (with_fault child.tree.plan child.fault) _ _ (λ i. extensions_of choices (sym visits i) (sym plan i)) child.extends);
          }

  -- ---- trees and outcomes

  trees : (before : List CampaignLine) (planned : Planned) (after : List CampaignLine) → report ≡ before ++ PlannedLine planned ∷ after
      → campaign.IsSpelled (runs_of services test) valid.fuel before planned
  trees before planned after is =
      let at = placed before planned after is in
      record {
        went = went_of at.its.tree.run;
        done = ran before planned at;
        visits = at.its.visits;
        records = at.its.records;
        injected = ap injections_in at.its.visits ∙ at.its.tree.spells.injected ∙ sym at.its.plan;
        used = ap (λ items. map (slice_get items) planned.uses) (sym (records_tell services test valid.version valid.fuel [] at.above before at.tells_above))
            ∙ at.its.tree.spells.recorded ∙ ap (map Some) (sym at.its.records);
      }

  outcomes : (planned : Planned) (went : Went) → Contains (planned_in report) planned → runs_of services test valid.fuel planned.plan ≡ Some went → planned.outcome ≡ went.outcome
  outcomes planned went has done =
      let at = some_place planned has in
      let same = same_Some (went_of at.1.its.tree.run) went (sym (ran at.0 planned at.1) ∙ done) in
      valid.outcomes at.1.above at.1.line at.1.below at.1.line_is (told planned) at.1.plan_line_is at.1.its.tree ∙ ap (λ (w : Went). w.outcome) same

  complete : (planned : Planned) (longer : List Fault) → Contains (planned_in report) planned → Contains (extensions_of choices planned.visits planned.plan) longer
      → Contains (plans_in report) longer
  complete planned longer has extends =
      let at = some_place planned has in
      line_in services test valid.version valid.fuel valid.lines report tells longer
      (valid.complete at.1.above at.1.line at.1.below at.1.line_is (told planned) at.1.plan_line_is at.1.its.tree longer
      (in_same longer _ _ (λ i. extensions_of choices (at.1.its.visits i) (at.1.its.plan i)) extends))

  -- ---- owners

  owner_there : (place : ℕ) (recorded : Recorded) → slice_get (record_lines report) place ≡ Some recorded → slice_get (owners_told valid.lines) place ≡ Some recorded.owner
  owner_there place recorded there =
      ap (λ owners. slice_get owners place) (owners_tell services test valid.version valid.fuel [] valid.lines report tells)
      ∙ get_map (λ (r : Recorded). r.owner) (record_lines report) place recorded there

  planned_there : (number : ℕ) (line : PlanLine) → slice_get (plan_lines valid.lines) number ≡ Some line
      → (planned : Planned) × (slice_get (planned_in report) number ≡ Some planned) × (told planned ≡ line)
  planned_there number line there =
      map_get told (planned_in report) number line (ap (λ lines. slice_get lines number) (sym (plans_tell services test valid.version valid.fuel [] valid.lines report tells)) ∙ there)

  owned : (place : ℕ) (recorded : Recorded) → slice_get (record_lines report) place ≡ Some recorded → campaign.IsOwned report place recorded.owner
  owned place recorded there =
      let found = made_number owner_in valid.lines place recorded.owner (owner_there place recorded there) in
      let rule = subst (λ k. IsOwned valid.lines k recorded.owner) (ap length found.2.made ∙ found.1)
      (valid.owners.owned found.2.above found.2.item found.2.below found.2.is recorded.owner found.2.makes) in
      let planned = planned_there recorded.owner rule.line rule.there in
      record {
        line = planned.0;
        there = planned.1;
        is_run = ap (λ (line : PlanLine). line.run) planned.2 ∙ rule.is_run;
        uses = in_same place _ _ (ap (λ (line : PlanLine). line.uses) (sym planned.2)) rule.uses;
      }

  earlier : (number : ℕ) (planned : Planned) → slice_get (planned_in report) number ≡ Some planned → planned.is_run ≡ false →
      (place : ℕ) (used : Recorded) → Contains planned.uses place → slice_get (record_lines report) place ≡ Some used → used.owner < number
  earlier number planned there pruned place used uses used_there =
      let at = numbered number planned there in
      let spells = at.place.its.tree.spells.recorded in
      let here = map_has Some (slice_get (records_told services at.place.above) place) (records_in at.place.its.tree.run.calls)
      (in_same _ _ _ spells (in_map (slice_get (records_told services at.place.above)) place planned.uses uses)) in
      let within = get_within (records_told services at.place.above) place here.0 (sym here.2) in
      let same = ap length (records_tell services test valid.version valid.fuel [] at.place.above at.before at.place.tells_above)
      ∙ length-map (record_lines at.before) (λ (r : Recorded). r.item) in
      let owners = owners_long services test valid.version valid.fuel [] at.place.above at.before at.place.tells_above in
      let owner = get_some (owners_told at.place.above) place (omega (arith, within, same, owners)) in
      let all : slice_get (owners_told valid.lines) place ≡ Some owner.0 =
      ap (λ lines. slice_get (owners_told lines) place) at.place.line_is
      ∙ ap (λ owners. slice_get owners place) (filter_map-append owner_in at.place.above (at.place.line ∷ at.place.below))
      ∙ get_left (owners_told at.place.above) (owners_told (at.place.line ∷ at.place.below)) place owner.0 owner.1 in
      let owner_is = same_Some owner.0 used.owner (sym all ∙ owner_there place used used_there) in
      let less = valid.owners.earlier at.place.above at.place.line at.place.below at.place.line_is (told planned) at.place.plan_line_is pruned place owner.0 uses owner.1 in
      let long = number_is at.before planned at.place ∙ at.long in
      omega (arith, less, owner_is, long)

  reduced : valid.reduction ≡ true → (number : ℕ) (planned : Planned) → slice_get (planned_in report) (suc number) ≡ Some planned → planned.is_run ≡ true
      → campaign.OwnsSome report (suc number)
  reduced on number planned there is_run =
      let at = numbered (suc number) planned there in
      let long = number_is at.before planned at.place ∙ at.long in
      let owns = subst (Contains (owners_told valid.lines)) long
      (valid.reduced on at.place.above at.place.line at.place.below at.place.line_is (told planned) at.place.plan_line_is (omega (arith, long)) is_run) in
      let found = map_has (λ (r : Recorded). r.owner) (suc number) (record_lines report)
      (in_same _ _ _ (owners_tell services test valid.version valid.fuel [] valid.lines report tells) owns) in
      (found.0, found.1, found.2)

  pub campaign_valid : campaign.IsValid (runs_of services test) choices valid.fuel valid.reduction report
  campaign_valid = record {
    structure = structure;
    records = records;
    parents = record { root = root; child = child; once = once };
    trees = trees;
    outcomes = outcomes;
    complete = complete;
    owners = record { owned = owned; earlier = earlier };
    reduced = reduced;
  }

  pub plan_lines_told : plan_lines valid.lines ≡ map told (planned_in report)
  plan_lines_told = plans_tell services test valid.version valid.fuel [] valid.lines report tells
