-- The bytes of a completed campaign's lines are a true report.
use Rattle.std.proofs.Common.{◌≡◌, ℕ, zero, suc, ◌<◌, Bool, false, Option, Some, None, List, [], ◌∷◌, ◌++◌, map, length, slice_get, Contains, refl, sym, ap, ◌∙◌, subst, arith, append_assoc, append-nil}
use Rattle.std.specs.Prelude.{option_map, option_and_then, fold}
use Rattle.std.proofs.lemmas.List.{map-append}
use Rattle.std.proofs.lemmas.Option.{same_Some, slice_get-map}
use Rattle.fb_base.specs.declared.reply.Reply.{Reply}
use Rattle.fb_index.specs.Entry.{Occurrence}
use Rattle.fb_index.specs.declared.fault.Fault.{Fault}
use Rattle.fb_syntax.specs.Trees.{ServicesTree, TestTree}
use Rattle.fb_tree.specs.declared.recorded.Record.{Record}
use Rattle.fb_tree.specs.declared.visit.Visit.{Visit}
use Rattle.fb_campaign.specs.Runs.{Went, Runs, Choices, Gives, AreLawful, AreChoices}
use Rattle.fb_campaign.specs.Plans.{begun_after_plan, between_services, extensions_at, extensions_of, plans}
use Rattle.fb_campaign.specs.Reports.{Planned, Line as CampaignLine, RecordLine, PlanLine as PlannedLine, EndLine, plan_lines as planned_in, plans_in}
use Rattle.fb_campaign.specs.Campaign.{Settings, campaign, IsCompleted}
use Rattle.fb_campaign.specs.Valid.{IsValid, AreParents}
use Rattle.fb_campaign.specs.Truth as abstract
use Rattle.fb_meaning.specs.Each.{HoldsOfEach}
use Rattle.fb_report.specs.declared.line.Line.{Line}
use Rattle.fb_report.specs.declared.line.Line.TheVariants.{Header, Inv}
use Rattle.fb_report.specs.declared.named.NamedRecord.{NamedRecord}
use Rattle.fb_report.specs.Names.{named_record}
use Rattle.fb_functest.specs.PlanLines.{PlanLine, plan_lines, earlier_plan, with_fault, next_plan, with_next_plan, plans_of, plan_of_line}
use Rattle.fb_functest.specs.Reading.{IsReadAs, bytes_of, WrittenLinesAreRead}
use Rattle.fb_functest.specs.ReportLaws.{campaign_of, CompletedReportsAreTrue}
use Rattle.fb_functest.specs.ReportLines.{last_fault, line_of, with_above, lines_below, lines_of_campaign}
use Rattle.fb_functest.specs.Runs.{runs_of, gives_of}
use Rattle.fb_functest.specs.Told.{told, PlansAreTold, TruthIsTold}
use Rattle.fb_functest.specs.TrueReports.{HasOneLine, IsMetAsSaid, IsShown, IsTrueReport}
use Rattle.fb_functest.proofs.Items.{each_at, each_flat, each_mapped, each_member, last_push}
use Rattle.fb_functest.proofs.LinesHad.{each_pair}

-- ---- what plan lines tell

module _ (services : ServicesTree) (version : ℕ) where
  inv_none : (number owner : ℕ) (made : Option NamedRecord) (out : Line) (rest : List Line) → option_map (Inv number owner) made ≡ Some out → plan_lines (out ∷ rest) ≡ plan_lines rest
  inv_none number owner None out rest is = absurd (cc)
  inv_none number owner (Some made) out rest is = subst (λ line. plan_lines (line ∷ rest) ≡ plan_lines rest) (same_Some (Inv number owner made) out is) refl

  first_told : (above : List CampaignLine) (line : CampaignLine) (out : Line) (rest : List Line) → line_of services version above line ≡ Some out
      → plan_lines (out ∷ rest) ≡ map told (planned_in (line ∷ [])) ++ plan_lines rest
  first_told above (RecordLine recorded) out rest is = inv_none _ recorded.owner (named_record services recorded.item) out rest is
  first_told above (PlannedLine planned) out rest is = subst (λ line. plan_lines (line ∷ rest) ≡ told planned ∷ plan_lines rest) (same_Some _ out is) refl
  first_told above (EndLine why totals) out rest is = subst (λ line. plan_lines (line ∷ rest) ≡ plan_lines rest) (same_Some _ out is) refl

  joined_told : (line : CampaignLine) (lines : List CampaignLine) → map told (planned_in (line ∷ [])) ++ map told (planned_in lines) ≡ map told (planned_in (line ∷ lines))
  joined_told (RecordLine recorded) lines = refl
  joined_told (PlannedLine planned) lines = refl
  joined_told (EndLine why totals) lines = refl

  pub all_told : (above lines : List CampaignLine) (out : List Line) → lines_below services version above lines ≡ Some out → plan_lines out ≡ map told (planned_in lines)
  all_told above [] out is = subst (λ lines. plan_lines lines ≡ []) (same_Some [] out is) refl
  all_told above (line ∷ lines) out is =
      let parts = each_pair (λ placed. line_of services version placed.0 placed.1) (above, line) (with_above (above ++ line ∷ []) lines) out is in
      ap plan_lines parts.out_is ∙ first_told above line parts.first parts.others parts.first_is
      ∙ ap (λ rest. map told (planned_in (line ∷ [])) ++ rest) (all_told (above ++ line ∷ []) lines parts.others parts.others_are)
      ∙ joined_told line lines

-- ---- the plans of lines

-- it is the plan with one fault more
abbrev IsLonger : List Fault → List Fault → Type 0
IsLonger plan longer = (fault : Fault) × (longer ≡ plan ++ fault ∷ [])

extended_once : (choices : Choices) (visits : List Visit) (plan longer : List Fault) → Contains (extensions_of choices visits plan) longer → IsLonger plan longer
extended_once choices visits plan longer has =
    each_at (IsLonger plan) (extensions_of choices visits plan)
    (each_flat (IsLonger plan) (extensions_at choices plan) (between_services (begun_after_plan plan visits))
    (each_member (λ visit. HoldsOfEach (IsLonger plan) (extensions_at choices plan visit)) (between_services (begun_after_plan plan visits)) (λ visit within. at_visit visit)))
    longer has
  where
    at_visit : (visit : Visit) → HoldsOfEach (IsLonger plan) (extensions_at choices plan visit)
    at_visit visit =
        each_mapped (IsLonger plan) (λ given. plan ++ record { index = visit.index; reply = given } ∷ []) (choices visit.callee)
        (each_member _ (choices visit.callee) (λ given within. (record { index = visit.index; reply = given }, refl)))

get_left_part : {A : Type 0} (xs ys : List A) (k : ℕ) → k < length xs → slice_get (xs ++ ys) k ≡ slice_get xs k
get_left_part [] ys k within = absurd (omega (arith, within))
get_left_part (x ∷ xs) ys zero within = refl
get_left_part (x ∷ xs) ys (suc k) within = get_left_part xs ys k (omega (arith, within))

get_middle : {A : Type 0} (xs ys : List A) (x : A) → slice_get (xs ++ x ∷ ys) (length xs) ≡ Some x
get_middle [] ys x = refl
get_middle (y ∷ xs) ys x = get_middle xs ys x

abbrev planned : Planned → Option (List Fault)
planned line = Some line.plan

module _ (choices : Choices) (lines : List CampaignLine) (parents : AreParents choices lines) where
  -- by the plans of the lines before it
  next_is : (past rest : List Planned) (line : Planned) → planned_in lines ≡ past ++ line ∷ rest → next_plan (map planned past) (told line) ≡ Some line.plan
  next_is [] rest line is =
      let root = parents.root line (ap (λ (all : List Planned). slice_get all 0) is) in
      ap Some (sym root.no_fault)
  next_is (first ∷ past) rest line is =
      let child = parents.child (length past) line (ap (λ (all : List Planned). slice_get all (suc (length past))) is ∙ get_middle (first ∷ past) rest line) in
      let early = child.earlier in
      let there : slice_get (first ∷ past) child.place ≡ Some child.parent =
      sym (get_left_part (first ∷ past) (line ∷ rest) child.place (omega (arith, early))) ∙ ap (λ (all : List Planned). slice_get all child.place) (sym is) ∙ child.there in
      let its_plan : slice_get (map planned (first ∷ past)) child.place ≡ Some (Some child.parent.plan) =
      slice_get-map planned (first ∷ past) child.place ∙ ap (option_map planned) there in
      let longer = extended_once choices child.parent.visits child.parent.plan line.plan child.extended in
      let fault : last_fault line.plan ≡ Some (longer.0.index, longer.0.reply) =
      ap last_fault longer.1 ∙ ap (option_map (λ fault. (fault.index, fault.reply))) (last_push None child.parent.plan longer.0) in
      made (map planned (first ∷ past)) line.parent child.place child.named child.parent.plan its_plan (last_fault line.plan) (longer.0.index, longer.0.reply) fault
      ∙ ap Some (sym longer.1)
    where
      made : (earlier : List (Option (List Fault))) (parent : Option ℕ) (place : ℕ) → parent ≡ Some place
          → (plan : List Fault) → slice_get earlier place ≡ Some (Some plan)
          → (fault : Option (List Occurrence × Reply)) (last : List Occurrence × Reply) → fault ≡ Some last
          → option_and_then (λ plan. option_map (with_fault plan) fault) (option_and_then (earlier_plan earlier) parent) ≡ Some (with_fault plan last)
      made earlier parent place named plan there fault last is = rw named (rw there (rw is))

  front_planned : (past here rest : List Planned) → planned_in lines ≡ past ++ (here ++ rest) → fold with_next_plan (map planned past) (map told here) ≡ map planned (past ++ here)
  front_planned past [] rest is = ap (map planned) (sym (append-nil past))
  front_planned past (line ∷ here) rest is =
      ap (λ next. fold with_next_plan (map planned past ++ next ∷ []) (map told here)) (next_is past (here ++ rest) line is)
      ∙ ap (λ plans. fold with_next_plan plans (map told here)) (sym (map-append planned past (line ∷ [])))
      ∙ front_planned (past ++ line ∷ []) here rest (is ∙ sym (append_assoc past (line ∷ []) (here ++ rest)))
      ∙ ap (map planned) (append_assoc past (line ∷ []) here)

  all_planned : fold with_next_plan [] (map told (planned_in lines)) ≡ map planned (planned_in lines)
  all_planned = front_planned [] (planned_in lines) [] (sym (append-nil (planned_in lines)))

  pub planned_there : (above : List Planned) (line : Planned) (below : List Planned) → planned_in lines ≡ above ++ line ∷ below
      → next_plan (plans_of (map told above)) (told line) ≡ Some line.plan
  planned_there above line below is =
      ap (λ plans. next_plan plans (told line)) (front_planned [] above (line ∷ below) is) ∙ next_is above below line is

  flat : (o : Option Planned) → option_and_then (λ plan. plan) (option_map planned o) ≡ option_map (λ line. line.plan) o
  flat None = refl
  flat (Some line) = refl

  module _ (out : List Line) (tells : plan_lines out ≡ map told (planned_in lines)) where
    pub plan_is : (number : ℕ) → plan_of_line out number ≡ slice_get (plans_in lines) number
    plan_is number =
        ap (λ all. earlier_plan (plans_of all) number) tells
        ∙ ap (λ plans. earlier_plan plans number) all_planned
        ∙ ap (option_and_then (λ plan. plan)) (slice_get-map planned (planned_in lines) number)
        ∙ flat (slice_get (planned_in lines) number)
        ∙ sym (slice_get-map (λ (line : Planned). line.plan) (planned_in lines) number)

    -- the line behind a plan line
    pub record IsOfLine (number : ℕ) (line : PlanLine) : Type 0 where
      pub planned_line : Planned
      pub there : slice_get (planned_in lines) number ≡ Some planned_line
      pub is : told planned_line ≡ line
      pub has_plan : plan_of_line out number ≡ Some planned_line.plan

    pub line_behind : (number : ℕ) (line : PlanLine) → slice_get (plan_lines out) number ≡ Some line → IsOfLine number line
    line_behind number line found =
        by (slice_get (planned_in lines) number) refl
        (sym (slice_get-map told (planned_in lines) number) ∙ ap (λ all. slice_get all number) (sym tells) ∙ found)
      where
        by : (o : Option Planned) → slice_get (planned_in lines) number ≡ o → option_map told o ≡ Some line → IsOfLine number line
        by None there same = absurd (cc)
        by (Some planned_line) there same = record {
          planned_line = planned_line;
          there = there;
          is = same_Some (told planned_line) line same;
          has_plan = plan_is number ∙ slice_get-map (λ (l : Planned). l.plan) (planned_in lines) number ∙ ap (option_map (λ (l : Planned). l.plan)) there;
        }

    pub line_before : (number : ℕ) (line : Planned) → slice_get (planned_in lines) number ≡ Some line
        → (slice_get (plan_lines out) number ≡ Some (told line)) × (plan_of_line out number ≡ Some line.plan)
    line_before number line there = (
      ap (λ all. slice_get all number) tells ∙ slice_get-map told (planned_in lines) number ∙ ap (option_map told) there,
      plan_is number ∙ slice_get-map (λ (l : Planned). l.plan) (planned_in lines) number ∙ ap (option_map (λ (l : Planned). l.plan)) there,
    )

in_place : {A : Type 0} (xs : List A) (k : ℕ) (x : A) → slice_get xs k ≡ Some x → Contains xs x
in_place [] k x is = absurd (cc)
in_place (y ∷ xs) zero x is = (0, omega arith, same_Some y x is)
in_place (y ∷ xs) (suc k) x is = (let rest = in_place xs k x is in (suc rest.0, (let within = rest.1 in omega (arith, within)), rest.2))

-- ---- truth

module _ (services : ServicesTree) (test : TestTree) (choices : Choices) (fuel : ℕ) (lines : List CampaignLine)
    (parents : AreParents choices lines) (truth : abstract.IsTrueReport (runs_of services test) choices fuel lines)
    (out : List Line) (tells : plan_lines out ≡ map told (planned_in lines)) where
  one_line : (any : ℕ) (plan : List Fault) → abstract.HasOneLine lines plan → HasOneLine out plan
  one_line any plan one = record {
    number = one.number;
    there = plan_is choices lines parents out tells one.number ∙ one.there;
    only = λ other is. one.only other (sym (plan_is choices lines parents out tells other) ∙ is);
  }

  met : (number : ℕ) (line : PlanLine) → slice_get (plan_lines out) number ≡ Some line → IsMetAsSaid (runs_of services test) choices fuel out number line
  met number line found =
      let behind = line_behind choices lines parents out tells number line found in
      let said = truth.met behind.planned_line (in_place (planned_in lines) number behind.planned_line behind.there) in
      record {
        plan = behind.planned_line.plan;
        has_plan = behind.has_plan;
        met = said.met;
        outcome = λ more went enough is. ap (λ (l : PlanLine). l.outcome) (sym behind.is) ∙ said.outcome more went enough is;
      }

  shown : (number : ℕ) (item : Record) → abstract.IsShown (runs_of services test) fuel lines number item → IsShown (runs_of services test) fuel out number item
  shown number item is =
      let before = line_before choices lines parents out tells is.place is.line is.there in
      record {
        place = is.place;
        earlier = is.earlier;
        line = told is.line;
        there = before.0;
        is_run = is.is_run;
        plan = is.line.plan;
        has_plan = before.1;
        went = is.went;
        done = is.done;
        shown = is.shown;
      }

  derived : (number : ℕ) (line : PlanLine) (plan : List Fault) (went : Went) → slice_get (plan_lines out) number ≡ Some line →
      line.run ≡ false → plan_of_line out number ≡ Some plan → runs_of services test fuel plan ≡ Some went →
      (item : Record) → Contains went.records item → IsShown (runs_of services test) fuel out number item
  derived number line plan went found pruned has_plan done item has =
      let behind = line_behind choices lines parents out tells number line found in
      let same : behind.planned_line.plan ≡ plan = same_Some behind.planned_line.plan plan (sym behind.has_plan ∙ has_plan) in
      shown number item
      (truth.derived number behind.planned_line went behind.there (ap (λ (l : PlanLine). l.run) behind.is ∙ pruned)
      (ap (runs_of services test fuel) same ∙ done) item has)

pub plans_are_told : PlansAreTold
plans_are_told choices report parents above line below is = planned_there choices report parents above line below is

pub truth_is_told : TruthIsTold
truth_is_told services test choices bytes version fuel reduction lines report read parents tells truth = record {
  version = version;
  fuel = fuel;
  reduction = reduction;
  lines = lines;
  read = read;
  one_line = λ any plan is_met. one_line services test choices fuel report parents truth lines tells any plan (truth.one_line any plan is_met);
  met = met services test choices fuel report parents truth lines tells;
  derived = derived services test choices fuel report parents truth lines tells;
}

module _ (lawful : (services : ServicesTree) (test : TestTree) → AreLawful (gives_of services) (runs_of services test))
    (valid : (gives : Gives) (runs : Runs) (choices : Choices) → AreLawful gives runs → AreChoices gives choices →
    (settings : Settings) → IsCompleted (campaign settings runs (plans runs choices settings.fuel)) →
    IsValid runs choices settings.fuel settings.reduction (campaign settings runs (plans runs choices settings.fuel)))
    (true_report : (gives : Gives) (runs : Runs) (choices : Choices) → AreLawful gives runs → AreChoices gives choices →
    (fuel : ℕ) (reduction : Bool) (lines : List CampaignLine) → IsValid runs choices fuel reduction lines →
    abstract.IsTrueReport runs choices fuel lines)
    (read : WrittenLinesAreRead) where
  pub completed_reports_are_true : CompletedReportsAreTrue
  unfolding lines_of_campaign
  completed_reports_are_true services test choices are_choices version settings lines completed is each =
      by (lines_below services version [] (campaign_of services test choices settings)) refl is
    where
      is_valid : IsValid (runs_of services test) choices settings.fuel settings.reduction (campaign_of services test choices settings)
      is_valid = valid (gives_of services) (runs_of services test) choices (lawful services test) are_choices settings completed

      is_true : abstract.IsTrueReport (runs_of services test) choices settings.fuel (campaign_of services test choices settings)
      is_true =
          true_report (gives_of services) (runs_of services test) choices (lawful services test) are_choices settings.fuel settings.reduction
          (campaign_of services test choices settings) is_valid

      by : (below : Option (List Line)) → lines_below services version [] (campaign_of services test choices settings) ≡ below
          → option_map (λ below. Header version settings.fuel settings.reduction ∷ below) below ≡ Some lines → IsTrueReport services test choices (bytes_of lines)
      by None found same = absurd (cc)
      by (Some out) found same =
          let whole = same_Some (Header version settings.fuel settings.reduction ∷ out) lines same in
          truth_is_told services test choices (bytes_of lines) version settings.fuel settings.reduction out (campaign_of services test choices settings)
          (subst (λ all. IsReadAs (bytes_of lines) all) (sym whole) (read lines each)) is_valid.parents
          (all_told services version [] (campaign_of services test choices settings) out found) is_true
