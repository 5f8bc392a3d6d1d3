-- Campaigns over accepted sources have their lines, and all of them can be written.
use Rattle.std.proofs.Common.{◌≡◌, ℕ, zero, suc, ◌+◌, ◌<◌, ◌≤◌, Bool, true, false, ltb, Option, Some, None, List, [], ◌∷◌, ◌++◌, map, length, flat_map, slice_get, Contains, refl, sym, ap, ◌∙◌, subst, arith, length-append}
use Rattle.std.specs.Prelude.{option_map, option_and_then, IsNone}
use Rattle.std.specs.Option.{option_map_or}
use Rattle.std.specs.List.{All, last_or}
use Rattle.std.proofs.lemmas.Bool.{ltb-true}
use Rattle.std.proofs.lemmas.List.Elements.{All-cons}
use Rattle.std.proofs.lemmas.Option.{same_Some, slice_get_within, slice_get-get_or}
use Rattle.fb_base.specs.declared.method.MethodId.{MethodId}
use Rattle.fb_base.specs.declared.method.MethodName.{MethodName}
use Rattle.fb_base.specs.declared.reply.Reply.{Reply}
use Rattle.fb_index.specs.Fault.{IsAtCall}
use Rattle.fb_index.specs.declared.fault.Fault.{Fault}
use Rattle.fb_syntax.specs.Trees.{MethodTree, ServiceTree, ServicesTree, TestTree}
use Rattle.fb_check.specs.declared.signature.Signature.{Signature}
use Rattle.fb_check.specs.Declarations.{declarations_of, service_signatures, signatures_from}
use Rattle.fb_check.specs.FirstRefusal.{first_refusal, first_refusal_of_test}
use Rattle.fb_check.specs.Programs.{methods_of, method_at, signature_at, kinds_given}
use Rattle.fb_tree.specs.Runs.{TestRun}
use Rattle.fb_tree.specs.Records.{records_in}
use Rattle.fb_tree.specs.declared.asked.Asked.{Asked}
use Rattle.fb_tree.specs.declared.recorded.Record.{Record}
use Rattle.fb_tree.specs.declared.visit.Visit.{Visit}
use Rattle.fb_transport.specs.Sources.{plan_source}
use Rattle.fb_campaign.specs.Runs.{Went, Runs, Choices, is_between_services}
use Rattle.fb_campaign.specs.Plans.{begun_after_plan, between_services, extensions_at, extensions_of, extensions, level, levels_to, plans}
use Rattle.fb_campaign.specs.Reports.{Recorded, Planned, Line as CampaignLine, RecordLine, PlanLine, EndLine}
use Rattle.fb_campaign.specs.Campaign.{Settings, campaign}
use Rattle.fb_meaning.specs.Each.{HoldsOfEach}
use Rattle.fb_meaning.specs.Evaluations.{Evaluation, Spent, Missing, Done}
use Rattle.fb_meaning.specs.Kinds.{RecordsOfRunsAreTrue}
use Rattle.fb_meaning.specs.Records.{IsCallOf, IsTrueRecord}
use Rattle.fb_meaning.specs.Runs.{run_of}
use Rattle.fb_report.specs.declared.line.Line.{Line}
use Rattle.fb_report.specs.declared.line.Line.TheVariants.{Header, Inv, Plan, End}
use Rattle.fb_report.specs.declared.named.NamedAsked.{NamedAsked}
use Rattle.fb_report.specs.declared.named.NamedRecord.{NamedRecord}
use Rattle.fb_report.specs.Names.{each_of, name_of, named_asked, named_record}
use Rattle.fb_report.specs.Ranges.{IsVersion, IsOfVersion, IsFaultInRange, IsCounted, IsInRange}
use Rattle.fb_functest.specs.Runs.{went_of, went_if_done, runs_of}
use Rattle.fb_functest.specs.ReportLines.{last_fault, inv_line, plan_line, end_line, line_of, with_above, lines_below, lines_of_campaign, stopped_at}
use Rattle.fb_functest.specs.ReportLaws.{campaign_of, AreOfVersion, OutcomesAreCounted, CampaignsHaveLines, CampaignsAreInRange}
use Rattle.fb_functest.proofs.CampaignLines.{IsGiven, campaign_each}
use Rattle.fb_functest.proofs.Items.{each_also, each_member, each_mapped, each_flat, each_filtered, each_joined, all_of_each, each_last}
use Rattle.fb_functest.proofs.Lawful.{Ended, ended}
use Rattle.fb_functest.proofs.Outcomes.{test_counts}

-- ---- each of a list

abbrev pub IsThere : {A : Type 0} → Option A → Type 0
IsThere {A} o = (x : A) × (o ≡ Some x)

there_map : {A B : Type 0} (f : A → B) (o : Option A) → IsThere o → IsThere (option_map f o)
there_map f o is = (f is.0, ap (option_map f) is.1)

there_then : {A B : Type 0} (f : A → Option B) (o : Option A) → IsThere o → ((x : A) → IsThere (f x)) → IsThere (option_and_then f o)
there_then f o is each = (let next = each is.0 in (next.0, ap (option_and_then f) is.1 ∙ next.1))

pub each_there : {A B : Type 0} (f : A → Option B) (xs : List A) → HoldsOfEach (λ x. IsThere (f x)) xs → IsThere (each_of f xs)
each_there f [] each = ([], refl)
each_there f (x ∷ xs) each =
    there_then (λ y. option_map (λ ys. y ∷ ys) (each_of f xs)) (f x) each.0 (λ y. there_map (λ ys. y ∷ ys) (each_of f xs) (each_there f xs each.1))

-- the first, and the others
pub record IsPair {A B : Type 0} (f : A → Option B) (x : A) (xs : List A) (out : List B) : Type 0 where
  pub first : B
  pub others : List B
  pub first_is : f x ≡ Some first
  pub others_are : each_of f xs ≡ Some others
  pub out_is : out ≡ first ∷ others

pub each_pair : {A B : Type 0} (f : A → Option B) (x : A) (xs : List A) (out : List B) → each_of f (x ∷ xs) ≡ Some out → IsPair f x xs out
each_pair {A} {B} f x xs out is = by (f x) refl (each_of f xs) refl is
  where
    by : (o : Option B) → f x ≡ o → (os : Option (List B)) → each_of f xs ≡ os
        → option_and_then (λ y. option_map (λ ys. y ∷ ys) os) o ≡ Some out → IsPair f x xs out
    by None one os more e = absurd (cc)
    by (Some y) one None more e = absurd (cc)
    by (Some y) one (Some ys) more e = record { first = y; others = ys; first_is = one; others_are = more; out_is = sym (same_Some (y ∷ ys) out e) }

-- ---- names

length-service : (name : List ℕ) (s m : ℕ) (methods : List MethodTree) → length (service_signatures name s m methods) ≡ length methods
length-service name s m [] = refl
length-service name s m (method ∷ methods) = ap suc (length-service name s (suc m) methods)

length-signatures : (s : ℕ) (services : List ServiceTree) → length (signatures_from s services) ≡ length (flat_map (λ service. service.methods) services)
length-signatures s [] = refl
length-signatures s (service ∷ services) =
    length-append (service_signatures service.name s 1 service.methods) (signatures_from (suc s) services)
    ∙ (λ i. length-service service.name s 1 service.methods i + length-signatures (suc s) services i)
    ∙ sym (length-append service.methods (flat_map (λ service. service.methods) services))

got : {A : Type 0} (xs : List A) (k : ℕ) → k < length xs → IsThere (slice_get xs k)
got [] k within = absurd (omega (arith, within))
got (x ∷ xs) zero within = (x, refl)
got (x ∷ xs) (suc k) within = got xs k (omega (arith, within))

named : (services : ServicesTree) (method : MethodId) (tree : MethodTree) → method_at services method.0 ≡ Some tree → IsThere (name_of services method)
named services method tree is =
    let within = slice_get_within (methods_of services) method.0 tree is in
    let many = length-signatures 1 services.services in
    there_map (λ (signature : Signature). signature.name) (signature_at services method.0) (got (declarations_of services).methods method.0 (omega (arith, within, many)))

named_call : (services : ServicesTree) (method : ℕ) (asked : Asked) → IsCallOf services method asked → IsThere (named_asked services asked)
named_call services method asked is = there_map _ (name_of services asked.callee) (named services asked.callee is.callee is.there)

named_true : (services : ServicesTree) (fuel : ℕ) (item : Record) → IsTrueRecord services fuel item → IsThere (named_record services item)
named_true services fuel item is =
    there_then _ (name_of services item.method) (named services item.method is.method is.there)
    (λ name. there_map _ (each_of (named_asked services) item.calls)
    (each_there (named_asked services) item.calls (each_also (IsCallOf services item.method.0) (λ asked. IsThere (named_asked services asked)) (named_call services item.method.0) item.calls is.calls_fit)))

-- ---- all lines are there

abbrev HasLine : ServicesTree → ℕ → CampaignLine → Type 0
HasLine services version line = (above : List CampaignLine) → IsThere (line_of services version above line)

below_there : (services : ServicesTree) (version : ℕ) (above lines : List CampaignLine) → HoldsOfEach (HasLine services version) lines
    → HoldsOfEach (λ placed. IsThere (line_of services version placed.0 placed.1)) (with_above above lines)
below_there services version above [] each = tt
below_there services version above (line ∷ lines) each = (each.0 above, below_there services version (above ++ line ∷ []) lines each.1)

module _ (truth : RecordsOfRunsAreTrue) (services : ServicesTree) (test : TestTree) (accepted : IsNone (first_refusal services)) (accepted_test : IsNone (first_refusal_of_test services test)) where
  each_true : (fuel : ℕ) (plan : List Fault) (went : Went) → runs_of services test fuel plan ≡ Some went → HoldsOfEach (IsTrueRecord services fuel) went.records
  each_true fuel plan went is =
      let e = ended (run_of services test fuel plan) went is in
      subst (λ (w : Went). HoldsOfEach (IsTrueRecord services fuel) w.records) e.same
      (truth services test accepted accepted_test fuel fuel plan e.run e.left e.done (omega arith))

  has_lines : (version : ℕ) (settings : Settings) → IsGiven settings (runs_of services test) (λ plan. Unit {0}) (HasLine services version)
  has_lines version settings = record {
    planned = λ is_run above plan went its is more. (_, refl);
    recorded = λ plan went owner its is.
        each_also (IsTrueRecord services settings.fuel) (λ item. HasLine services version (RecordLine (record { item = item; owner = owner })))
        (λ item true_item above. there_map _ (named_record services item) (named_true services settings.fuel item true_item))
        went.records (each_true settings.fuel plan went is);
    completed = λ totals more. (_, refl);
    fuel_spent = λ plan totals its more. (_, refl);
    budget_spent = λ plan totals its more. (_, refl);
  }

  pub lines_there : (version : ℕ) (settings : Settings) (of_plans : List (List Fault))
      → IsThere (lines_of_campaign services version settings (campaign settings (runs_of services test) of_plans))
  unfolding lines_of_campaign
  lines_there version settings of_plans =
      there_map _ (lines_below services version [] (campaign settings (runs_of services test) of_plans))
      (each_there _ (with_above [] (campaign settings (runs_of services test) of_plans))
      (below_there services version [] (campaign settings (runs_of services test) of_plans)
      (campaign_each settings (runs_of services test) (λ plan. Unit {0}) (HasLine services version) (has_lines version settings) of_plans
      (each_member (λ plan. Unit {0}) of_plans (λ plan has. tt)))))

pub campaigns_have_lines : RecordsOfRunsAreTrue → CampaignsHaveLines
campaigns_have_lines truth services test accepted accepted_test version settings of_plans = lines_there truth services test accepted accepted_test version settings of_plans

-- ---- plans

-- the fault is of a call, and may stand in a line of this version
abbrev IsWritableFault : ℕ → Fault → Type 0
IsWritableFault version fault = IsAtCall fault × IsOfVersion version fault.reply

abbrev IsWritablePlan : ℕ → List Fault → Type 0
IsWritablePlan version plan = HoldsOfEach (IsWritableFault version) plan

module _ (version : ℕ) (choices : Choices) (of_version : AreOfVersion version choices) (runs : Runs) (fuel : ℕ) where
  at_visit : (plan : List Fault) → IsWritablePlan version plan → (visit : Visit) → is_between_services visit.index ≡ true
      → HoldsOfEach (IsWritablePlan version) (extensions_at choices plan visit)
  at_visit plan its visit between =
      let deep = ltb-true 1 (length visit.index) between in
      each_mapped (IsWritablePlan version) (λ given. plan ++ record { index = visit.index; reply = given } ∷ []) (choices visit.callee)
      (each_member _ (choices visit.callee) (λ given has. each_joined (IsWritableFault version) plan (record { index = visit.index; reply = given } ∷ []) its
      ((omega (arith, deep), of_version visit.callee given has), tt)))

  extended : (plan : List Fault) → IsWritablePlan version plan → (found : Option Went)
      → HoldsOfEach (IsWritablePlan version) (option_map_or (λ went. extensions_of choices went.visits plan) found [])
  extended plan its None = tt
  extended plan its (Some went) =
      each_flat (IsWritablePlan version) (extensions_at choices plan) (between_services (begun_after_plan plan went.visits))
      (each_also (λ visit. is_between_services visit.index ≡ true) (λ visit. HoldsOfEach (IsWritablePlan version) (extensions_at choices plan visit))
      (at_visit plan its) (between_services (begun_after_plan plan went.visits)) (each_filtered (λ visit. is_between_services visit.index) (begun_after_plan plan went.visits)))

  level_writable : (count : ℕ) → HoldsOfEach (IsWritablePlan version) (level runs choices fuel count)
  unfolding level
  level_writable zero = (tt, tt)
  level_writable (suc count) =
      each_flat (IsWritablePlan version) (extensions runs choices fuel) (level runs choices fuel count)
      (each_also (IsWritablePlan version) (λ plan. HoldsOfEach (IsWritablePlan version) (extensions runs choices fuel plan))
      (λ plan its. extended plan its (runs fuel plan)) (level runs choices fuel count) (level_writable count))

  levels_writable : (count : ℕ) → HoldsOfEach (IsWritablePlan version) (levels_to runs choices fuel count)
  unfolding levels_to
  levels_writable zero = level_writable zero
  levels_writable (suc count) =
      each_joined (IsWritablePlan version) (levels_to runs choices fuel count) (level runs choices fuel (suc count)) (levels_writable count) (level_writable (suc count))

  pub plans_writable : HoldsOfEach (IsWritablePlan version) (plans runs choices fuel)
  plans_writable = levels_writable fuel

-- ---- all lines are in range

abbrev IsWritableLine : ServicesTree → ℕ → CampaignLine → Type 0
IsWritableLine services version line = (above : List CampaignLine) (out : Line) → line_of services version above line ≡ Some out → IsInRange out

fault_in_range : (version : ℕ) (plan : List Fault) → IsWritablePlan version plan → IsFaultInRange version (last_fault plan)
fault_in_range version plan its = by (last_or None plan) refl
  where
    by : (o : Option Fault) → last_or None plan ≡ o → IsFaultInRange version (option_map (λ fault. (fault.index, fault.reply)) o)
    by None is = tt
    by (Some fault) is = each_last (IsWritableFault version) None plan fault (λ y none. absurd (cc)) its is

stopped_in_range : (version : ℕ) (plan : List Fault) → IsWritablePlan version plan → All IsAtCall plan
stopped_in_range version plan its = all_of_each IsAtCall plan (each_also (IsWritableFault version) IsAtCall (λ fault is. is.0) plan its)

pub outcomes_are_counted : OutcomesAreCounted
outcomes_are_counted services test fuel plan went is =
    let e = ended (run_of services test fuel plan) went is in
    subst (λ (w : Went). IsCounted w.outcome) e.same (test_counts services (plan_source (kinds_given services) plan) test fuel e.run e.left e.done)

module _ (services : ServicesTree) (test : TestTree) (version : ℕ) (is_version : IsVersion version) where
  inv_in_range : (number owner : ℕ) (made : Option NamedRecord) (out : Line) → option_map (Inv number owner) made ≡ Some out → IsInRange out
  unfolding IsInRange
  inv_in_range number owner None out is = absurd (cc)
  inv_in_range number owner (Some made) out is = subst IsInRange (same_Some (Inv number owner made) out is) tt

  writable_lines : (settings : Settings) → IsGiven settings (runs_of services test) (IsWritablePlan version) (IsWritableLine services version)
  unfolding IsInRange
  writable_lines settings = record {
    planned = λ is_run above plan went its is more out same.
        subst IsInRange (same_Some _ out same) (is_version, fault_in_range version plan its, outcomes_are_counted services test settings.fuel plan went is);
    recorded = λ plan went owner its is.
        each_member _ went.records (λ item has above out same. inv_in_range _ owner (named_record services item) out same);
    completed = λ totals more out same. subst IsInRange (same_Some _ out same) tt;
    fuel_spent = λ plan totals its more out same. subst IsInRange (same_Some _ out same) (stopped_in_range version plan its);
    budget_spent = λ plan totals its more out same. subst IsInRange (same_Some _ out same) (stopped_in_range version plan its);
  }

  below_in_range : (above lines : List CampaignLine) (out : List Line) → HoldsOfEach (IsWritableLine services version) lines
      → lines_below services version above lines ≡ Some out → HoldsOfEach IsInRange out
  below_in_range above [] out each is = subst (HoldsOfEach IsInRange) (same_Some [] out is) tt
  below_in_range above (line ∷ lines) out each is =
      let parts = each_pair (λ placed. line_of services version placed.0 placed.1) (above, line) (with_above (above ++ line ∷ []) lines) out is in
      subst (HoldsOfEach IsInRange) (sym parts.out_is)
      (each.0 above parts.first parts.first_is, below_in_range (above ++ line ∷ []) lines parts.others each.1 parts.others_are)

pub campaigns_are_in_range : CampaignsAreInRange
unfolding lines_of_campaign IsInRange
campaigns_are_in_range services test choices version settings lines is_version of_version low high is =
    by (lines_below services version [] (campaign_of services test choices settings)) refl is
  where
    by : (below : Option (List Line)) → lines_below services version [] (campaign_of services test choices settings) ≡ below
        → option_map (λ lines. Header version settings.fuel settings.reduction ∷ lines) below ≡ Some lines → All IsInRange lines
    by None found same = absurd (cc)
    by (Some out) found same =
        subst (All IsInRange) (same_Some (Header version settings.fuel settings.reduction ∷ out) lines same)
        (All-cons IsInRange (Header version settings.fuel settings.reduction) out (is_version, low, high)
        (all_of_each IsInRange out (below_in_range services test version is_version [] (campaign_of services test choices settings) out
        (campaign_each settings (runs_of services test) (IsWritablePlan version) (IsWritableLine services version)
        (writable_lines services test version is_version settings) (plans (runs_of services test) choices settings.fuel)
        (plans_writable version choices of_version (runs_of services test) settings.fuel)) found)))
