-- Lines of a report beside the lines of a campaign that they tell, each plan line with its tree.
use Rattle.std.proofs.Common.{◌≡◌, ℕ, zero, suc, Option, Some, None, List, [], ◌∷◌, ◌++◌, map, filter_map, length, slice_get, Contains, refl, sym, ap, ◌∙◌, subst, arith, append_assoc, append-nil}
use Rattle.std.specs.Prelude.{⊤, option_map, option_and_then, fold}
use Rattle.std.proofs.lemmas.List.{length-map}
use Rattle.std.proofs.lemmas.List.Elements.{filter_map-append}
use Rattle.std.proofs.lemmas.List.Sums.{fold-append}
use Rattle.std.proofs.lemmas.Option.{same_Some, slice_get-map}
use Rattle.fb_index.specs.declared.fault.Fault.{Fault}
use Rattle.fb_syntax.specs.Trees.{ServicesTree, TestTree}
use Rattle.fb_tree.specs.Calls.{visits_of}
use Rattle.fb_tree.specs.Records.{records_in}
use Rattle.fb_tree.specs.declared.recorded.Record.{Record}
use Rattle.fb_campaign.specs.Reports.{Recorded, Planned, Cause, Totals, Line as CampaignLine, RecordLine, PlanLine as PlannedLine, EndLine, record_of_line, plan_of_line as planned_of, record_lines, plan_lines as planned_in, records_in as recorded_in, plans_in}
use Rattle.fb_meaning.specs.Each.{HoldsOfEach}
use Rattle.fb_meaning.specs.Records.{IsTrueRecord}
use Rattle.fb_meaning.specs.Spelling.{SpellsRun, OneIsSpelled}
use Rattle.fb_report.specs.declared.line.Line.{Line}
use Rattle.fb_report.specs.declared.line.Line.TheVariants.{Inv}
use Rattle.fb_report.specs.declared.named.NamedRecord.{NamedRecord}
use Rattle.fb_report.specs.Names.{record_named}
use Rattle.fb_functest.specs.PlanLines.{PlanLine, plan_line_in, plan_lines, earlier_plan, next_plan, with_next_plan, plans_of, plan_of_line}
use Rattle.fb_functest.specs.ReportLines.{plan_line, end_line}
use Rattle.fb_functest.specs.Told.{told}
use Rattle.fb_valid.specs.Lines.{owner_in, owners_told, record_in, records_told}
use Rattle.fb_valid.specs.Trees.{plan_below, IsSpelled, HasLine}
use Rattle.fb_valid.proofs.Lists.{in_head, in_tail, in_get, get_in, made_none, made_some, made_then}

-- ---- what holds of each item

pub each_member : {A : Type 0} (P : A → Type 0) (xs : List A) → ((x : A) → Contains xs x → P x) → HoldsOfEach P xs
each_member P [] member = tt
each_member P (x ∷ xs) member = (member x (in_head x xs), each_member P xs (λ y has. member y (in_tail y x xs has)))

pub each_at : {A : Type 0} (P : A → Type 0) (xs : List A) → HoldsOfEach P xs → (x : A) → Contains xs x → P x
each_at P [] each x (k, within, is) = absurd (omega (arith, within))
each_at P (y ∷ xs) each x (zero, within, is) = subst P is each.0
each_at P (y ∷ xs) each x (suc k, within, is) = each_at P xs each.1 x (k, omega (arith, within), is)

-- ---- plans by the lines above

pub plans_push : (lines : List PlanLine) (line : PlanLine) → plans_of (lines ++ line ∷ []) ≡ plans_of lines ++ next_plan (plans_of lines) line ∷ []
plans_push lines line = fold-append with_next_plan [] lines (line ∷ [])

pub plan_lines_skip : (above : List Line) (line : Line) → plan_line_in line ≡ None → plan_lines (above ++ line ∷ []) ≡ plan_lines above
plan_lines_skip above line none =
    filter_map-append plan_line_in above (line ∷ []) ∙ ap (λ rest. plan_lines above ++ rest) (made_none plan_line_in line [] none) ∙ append-nil (plan_lines above)

pub plan_lines_push : (above : List Line) (line : Line) (tells : PlanLine) → plan_line_in line ≡ Some tells → plan_lines (above ++ line ∷ []) ≡ plan_lines above ++ tells ∷ []
plan_lines_push above line tells some =
    filter_map-append plan_line_in above (line ∷ []) ∙ ap (λ rest. plan_lines above ++ rest) (made_some plan_line_in line [] tells some)

abbrev pub planned_so : Planned → Option (List Fault)
planned_so planned = Some planned.plan

module _ (services : ServicesTree) (test : TestTree) (version fuel : ℕ) where
  -- ---- a line that tells a line of a campaign

  pub record IsToldPlan (above : List Line) (planned : Planned) : Type 0 where
    pub tree : IsSpelled services test fuel above (told planned)
    pub plan : planned.plan ≡ tree.plan
    pub visits : planned.visits ≡ visits_of tree.run
    pub records : planned.records ≡ records_in tree.run.calls

  pub data IsTold (above : List Line) (line : Line) (made : CampaignLine) : Type 0 where
    told_record : (name : NamedRecord) (recorded : Recorded) → made ≡ RecordLine recorded → line ≡ Inv (length (owners_told above)) recorded.owner name
        → record_named services name ≡ Some recorded.item → IsTold above line made
    told_plan : (planned : Planned) → made ≡ PlannedLine planned → line ≡ plan_line version (length (plan_lines above)) planned → IsToldPlan above planned → IsTold above line made
    told_end : (why : Cause) (totals : Totals) → made ≡ EndLine why totals → line ≡ end_line why totals → IsTold above line made

  abbrev pub AreTold : List Line → List Line → List CampaignLine → Type 0
  AreTold above [] [] = ⊤
  AreTold above (line ∷ lines) (made ∷ report) = IsTold above line made × AreTold (above ++ line ∷ []) lines report
  AreTold above _ _ = ⊥

  -- ---- what lines tell, in both words

  tell_same : {B : Type 0} (f : Line → Option B) (g : CampaignLine → Option B) → ((above : List Line) (line : Line) (made : CampaignLine) → IsTold above line made → f line ≡ g made)
      → (above lines : List Line) (report : List CampaignLine) → AreTold above lines report → filter_map f lines ≡ filter_map g report
  tell_same f g agree above [] [] tells = refl
  tell_same f g agree above [] (made ∷ report) tells = absurd tells
  tell_same f g agree above (line ∷ lines) [] tells = absurd tells
  tell_same {B = B} f g agree above (line ∷ lines) (made ∷ report) tells =
      by (g made) (agree above line made tells.0) refl (tell_same f g agree (above ++ line ∷ []) lines report tells.1)
    where
      by : (o : Option B) → f line ≡ o → g made ≡ o → filter_map f lines ≡ filter_map g report → filter_map f (line ∷ lines) ≡ filter_map g (made ∷ report)
      by None one other rest = made_none f line lines one ∙ rest ∙ sym (made_none g made report other)
      by (Some y) one other rest = made_some f line lines y one ∙ ap (λ ys. y ∷ ys) rest ∙ sym (made_some g made report y other)

  abbrev owner_of : CampaignLine → Option ℕ
  owner_of made = option_map (λ (r : Recorded). r.owner) (record_of_line made)

  abbrev item_of : CampaignLine → Option Record
  item_of made = option_map (λ (r : Recorded). r.item) (record_of_line made)

  abbrev tells_of : CampaignLine → Option PlanLine
  tells_of made = option_map told (planned_of made)

  owner_same : (above : List Line) (line : Line) (made : CampaignLine) → IsTold above line made → owner_in line ≡ owner_of made
  owner_same above line made (told_record name recorded is line_is named) = ap owner_in line_is ∙ sym (ap owner_of is)
  owner_same above line made (told_plan planned is line_is tells) = ap owner_in line_is ∙ sym (ap owner_of is)
  owner_same above line made (told_end why totals is line_is) = ap owner_in line_is ∙ sym (ap owner_of is)

  item_same : (above : List Line) (line : Line) (made : CampaignLine) → IsTold above line made → record_in services line ≡ item_of made
  item_same above line made (told_record name recorded is line_is named) = ap (record_in services) line_is ∙ named ∙ sym (ap item_of is)
  item_same above line made (told_plan planned is line_is tells) = ap (record_in services) line_is ∙ sym (ap item_of is)
  item_same above line made (told_end why totals is line_is) = ap (record_in services) line_is ∙ sym (ap item_of is)

  plan_same : (above : List Line) (line : Line) (made : CampaignLine) → IsTold above line made → plan_line_in line ≡ tells_of made
  plan_same above line made (told_record name recorded is line_is named) = ap plan_line_in line_is ∙ sym (ap tells_of is)
  plan_same above line made (told_plan planned is line_is tells) = ap plan_line_in line_is ∙ sym (ap tells_of is)
  plan_same above line made (told_end why totals is line_is) = ap plan_line_in line_is ∙ sym (ap tells_of is)

  module _ (above lines : List Line) (report : List CampaignLine) (tells : AreTold above lines report) where
    pub owners_tell : owners_told lines ≡ map (λ (r : Recorded). r.owner) (record_lines report)
    owners_tell = tell_same owner_in owner_of owner_same above lines report tells ∙ made_then record_of_line (λ (r : Recorded). r.owner) report

    pub records_tell : records_told services lines ≡ recorded_in report
    records_tell = tell_same (record_in services) item_of item_same above lines report tells ∙ made_then record_of_line (λ (r : Recorded). r.item) report

    pub plans_tell : plan_lines lines ≡ map told (planned_in report)
    plans_tell = tell_same plan_line_in tells_of plan_same above lines report tells ∙ made_then planned_of told report

    pub owners_long : length (owners_told lines) ≡ length (record_lines report)
    owners_long = ap length owners_tell ∙ length-map (record_lines report) (λ (r : Recorded). r.owner)

    pub plans_long : length (plan_lines lines) ≡ length (planned_in report)
    plans_long = ap length plans_tell ∙ length-map (planned_in report) told

  -- ---- the plans of plan lines

  abbrev PlansBehind : List Line → List CampaignLine → List PlanLine → Type 0
  PlansBehind lines report front = fold with_next_plan (plans_of front) (plan_lines lines) ≡ plans_of front ++ map planned_so (planned_in report)

  plans_behind : (above lines : List Line) (report : List CampaignLine) → AreTold above lines report
      → fold with_next_plan (plans_of (plan_lines above)) (plan_lines lines) ≡ plans_of (plan_lines above) ++ map planned_so (planned_in report)
  plans_behind above [] [] tells = sym (append-nil (plans_of (plan_lines above)))
  plans_behind above [] (made ∷ report) tells = absurd tells
  plans_behind above (line ∷ lines) [] tells = absurd tells
  plans_behind above (line ∷ lines) (made ∷ report) tells = by tells.0 (plans_behind (above ++ line ∷ []) lines report tells.1)
    where
      skipped : plan_line_in line ≡ None → planned_of made ≡ None → PlansBehind lines report (plan_lines (above ++ line ∷ []))
          → fold with_next_plan (plans_of (plan_lines above)) (plan_lines (line ∷ lines)) ≡ plans_of (plan_lines above) ++ map planned_so (planned_in (made ∷ report))
      skipped none other rest =
          ap (fold with_next_plan (plans_of (plan_lines above))) (made_none plan_line_in line lines none)
          ∙ subst (PlansBehind lines report) (plan_lines_skip above line none) rest
          ∙ ap (λ ps. plans_of (plan_lines above) ++ map planned_so ps) (sym (made_none planned_of made report other))

      by : IsTold above line made → PlansBehind lines report (plan_lines (above ++ line ∷ []))
          → fold with_next_plan (plans_of (plan_lines above)) (plan_lines (line ∷ lines)) ≡ plans_of (plan_lines above) ++ map planned_so (planned_in (made ∷ report))
      by (told_record name recorded is line_is named) rest = skipped (ap plan_line_in line_is) (ap planned_of is) rest
      by (told_end why totals is line_is) rest = skipped (ap plan_line_in line_is) (ap planned_of is) rest
      by (told_plan planned is line_is its) rest =
          let some : plan_line_in line ≡ Some (told planned) = ap plan_line_in line_is in
          let next : plans_of (plan_lines above ++ told planned ∷ []) ≡ plans_of (plan_lines above) ++ Some planned.plan ∷ [] =
          plans_push (plan_lines above) (told planned) ∙ ap (λ o. plans_of (plan_lines above) ++ o ∷ []) (its.tree.has_plan ∙ ap Some (sym its.plan)) in
          ap (fold with_next_plan (plans_of (plan_lines above))) (made_some plan_line_in line lines (told planned) some)
          ∙ ap (λ front. fold with_next_plan front (plan_lines lines)) (sym (plans_push (plan_lines above) (told planned)))
          ∙ subst (PlansBehind lines report) (plan_lines_push above line (told planned) some) rest
          ∙ ap (λ front. front ++ map planned_so (planned_in report)) next
          ∙ append_assoc (plans_of (plan_lines above)) (Some planned.plan ∷ []) (map planned_so (planned_in report))
          ∙ ap (λ ps. plans_of (plan_lines above) ++ map planned_so ps) (sym (made_some planned_of made report planned (ap planned_of is)))

  module _ (lines : List Line) (report : List CampaignLine) (tells : AreTold [] lines report) where
    pub plan_tells : (number : ℕ) → plan_of_line lines number ≡ slice_get (plans_in report) number
    plan_tells number =
        ap (λ plans. earlier_plan plans number) (plans_behind [] lines report tells)
        ∙ ap (option_and_then (λ plan. plan)) (slice_get-map planned_so (planned_in report) number)
        ∙ flat (slice_get (planned_in report) number)
        ∙ sym (slice_get-map (λ (p : Planned). p.plan) (planned_in report) number)
      where
        flat : (o : Option Planned) → option_and_then (λ plan. plan) (option_map planned_so o) ≡ option_map (λ (p : Planned). p.plan) o
        flat None = refl
        flat (Some planned) = refl

    pub line_in : (plan : List Fault) → HasLine lines plan → Contains (plans_in report) plan
    line_in plan has = in_get (plans_in report) has.0 plan (sym (plan_tells has.0) ∙ has.1)

    pub in_line : (plan : List Fault) → Contains (plans_in report) plan → HasLine lines plan
    in_line plan has = (let at = get_in (plans_in report) plan has in (at.0, plan_tells at.0 ∙ at.1))

  -- ---- cuts

  pub record IsCut (start above : List Line) (line : Line) (below : List Line) (before : List CampaignLine) (made : CampaignLine) (after : List CampaignLine) : Type 0 where
    pub tells_above : AreTold start above before
    pub tells : IsTold (start ++ above) line made
    pub next : List Line
    pub tells_below : AreTold next below after

  first_cut : (start : List Line) (line : Line) (below : List Line) (made : CampaignLine) (after : List CampaignLine)
      → IsTold start line made → AreTold (start ++ line ∷ []) below after → IsCut start [] line below [] made after
  first_cut start line below made after here rest = record {
    tells_above = tt;
    tells = subst (λ above. IsTold above line made) (sym (append-nil start)) here;
    next = start ++ line ∷ [];
    tells_below = rest;
  }

  later_cut : (start : List Line) (first : Line) (above : List Line) (line : Line) (below : List Line) (one : CampaignLine) (before : List CampaignLine) (made : CampaignLine) (after : List CampaignLine)
      → IsTold start first one → IsCut (start ++ first ∷ []) above line below before made after → IsCut start (first ∷ above) line below (one ∷ before) made after
  later_cut start first above line below one before made after here rest = record {
    tells_above = (here, rest.tells_above);
    tells = subst (λ above. IsTold above line made) (append_assoc start (first ∷ []) above) rest.tells;
    next = rest.next;
    tells_below = rest.tells_below;
  }

  pub record LinesCut (start lines : List Line) (before : List CampaignLine) (made : CampaignLine) (after : List CampaignLine) : Type 0 where
    pub above : List Line
    pub line : Line
    pub below : List Line
    pub is : lines ≡ above ++ line ∷ below
    pub cut : IsCut start above line below before made after

  cut_made : (start lines : List Line) (before : List CampaignLine) (made : CampaignLine) (after : List CampaignLine) → AreTold start lines (before ++ made ∷ after) → LinesCut start lines before made after
  cut_made start [] [] made after tells = absurd tells
  cut_made start [] (one ∷ before) made after tells = absurd tells
  cut_made start (line ∷ lines) [] made after tells =
      record { above = []; line = line; below = lines; is = refl; cut = first_cut start line lines made after tells.0 tells.1 }
  cut_made start (first ∷ lines) (one ∷ before) made after tells =
      let rest = cut_made (start ++ first ∷ []) lines before made after tells.1 in
      record {
        above = first ∷ rest.above;
        line = rest.line;
        below = rest.below;
        is = ap (λ ls. first ∷ ls) rest.is;
        cut = later_cut start first rest.above rest.line rest.below one before made after tells.0 rest.cut;
      }

  pub record ReportCut (start above : List Line) (line : Line) (below : List Line) (report : List CampaignLine) : Type 0 where
    pub before : List CampaignLine
    pub made : CampaignLine
    pub after : List CampaignLine
    pub is : report ≡ before ++ made ∷ after
    pub cut : IsCut start above line below before made after

  cut_line : (start above : List Line) (line : Line) (below : List Line) (report : List CampaignLine) → AreTold start (above ++ line ∷ below) report → ReportCut start above line below report
  cut_line start [] line below [] tells = absurd tells
  cut_line start (first ∷ above) line below [] tells = absurd tells
  cut_line start [] line below (made ∷ after) tells =
      record { before = []; made = made; after = after; is = refl; cut = first_cut start line below made after tells.0 tells.1 }
  cut_line start (first ∷ above) line below (one ∷ report) tells =
      let rest = cut_line (start ++ first ∷ []) above line below report tells.1 in
      record {
        before = one ∷ rest.before;
        made = rest.made;
        after = rest.after;
        is = ap (λ ls. one ∷ ls) rest.is;
        cut = later_cut start first above line below one rest.before rest.made rest.after tells.0 rest.cut;
      }

  module _ (lines : List Line) (report : List CampaignLine) (tells : AreTold [] lines report) where
    -- the line that tells a line of the campaign, and the other way round
    pub line_of_made : (before : List CampaignLine) (made : CampaignLine) (after : List CampaignLine) → report ≡ before ++ made ∷ after → LinesCut [] lines before made after
    line_of_made before made after is = cut_made [] lines before made after (subst (AreTold [] lines) is tells)

    pub made_of_line : (above : List Line) (line : Line) (below : List Line) → lines ≡ above ++ line ∷ below → ReportCut [] above line below report
    made_of_line above line below is = cut_line [] above line below report (subst (λ ls. AreTold [] ls report) is tells)

  -- ---- one tree

  module _ (one : OneIsSpelled) where
    pub same_tree : (above : List Line) (line other : PlanLine) → line ≡ other → HoldsOfEach (IsTrueRecord services fuel) (records_told services above)
        → (a : IsSpelled services test fuel above line) (b : IsSpelled services test fuel above other) → (a.plan ≡ b.plan) × (a.run ≡ b.run)
    same_tree above line other is each a b =
        let same = same_Some a.plan b.plan (sym a.has_plan ∙ ap (plan_below above) is ∙ b.has_plan) in (
          same,
          one services test fuel (records_told services above) b.plan line.uses other.uses a.run b.run each
              (subst (λ plan. SpellsRun services test fuel (records_told services above) plan line.uses a.run) same a.spells) b.spells,
        )

  -- ---- sorts of lines

  pub plan_told : (above : List Line) (line : Line) (planned : Planned) → IsTold above line (PlannedLine planned)
      → (line ≡ plan_line version (length (plan_lines above)) planned) × IsToldPlan above planned
  plan_told above line planned (told_record name recorded is line_is named) = absurd (cc)
  plan_told above line planned (told_plan other is line_is its) =
      let same : other ≡ planned = same_Some other planned (sym (ap planned_of is)) in
      (line_is ∙ ap (plan_line version (length (plan_lines above))) same, subst (IsToldPlan above) same its)
  plan_told above line planned (told_end why totals is line_is) = absurd (cc)

  -- the plan line of the campaign that a plan line tells
  pub record IsPlanned (above : List Line) (line : PlanLine) (made : CampaignLine) : Type 0 where
    pub planned : Planned
    pub made_is : made ≡ PlannedLine planned
    pub told_is : told planned ≡ line
    pub its : IsToldPlan above planned

  pub is_planned : (above : List Line) (line : Line) (made : CampaignLine) (tells : PlanLine) → IsTold above line made → plan_line_in line ≡ Some tells → IsPlanned above tells made
  is_planned above line made tells (told_record name recorded is line_is named) plan = (let none = ap plan_line_in line_is in absurd (cc))
  is_planned above line made tells (told_plan planned is line_is its) plan = record {
    planned = planned;
    made_is = is;
    told_is = same_Some (told planned) tells (sym (ap plan_line_in line_is) ∙ plan);
    its = its;
  }
  is_planned above line made tells (told_end why totals is line_is) plan = (let none = ap plan_line_in line_is in absurd (cc))

  pub told_push : (start above : List Line) (before : List CampaignLine) (line : Line) (made : CampaignLine) → AreTold start above before → IsTold (start ++ above) line made
      → AreTold start (above ++ line ∷ []) (before ++ made ∷ [])
  told_push start [] [] line made tells here = (subst (λ above. IsTold above line made) (append-nil start) here, tt)
  told_push start [] (one ∷ before) line made tells here = absurd tells
  told_push start (first ∷ above) [] line made tells here = absurd tells
  told_push start (first ∷ above) (one ∷ before) line made tells here =
      (tells.0, told_push (start ++ first ∷ []) above before line made tells.1 (subst (λ up. IsTold up line made) (sym (append_assoc start (first ∷ []) above)) here))

pub line_of_planned : (made : CampaignLine) (planned : Planned) → planned_of made ≡ Some planned → made ≡ PlannedLine planned
line_of_planned (RecordLine recorded) planned is = absurd (cc)
line_of_planned (PlannedLine other) planned is = ap PlannedLine (same_Some other planned is)
line_of_planned (EndLine why totals) planned is = absurd (cc)
