-- Which calls begin after a plan's last fault, and which plans extend it there.
use Rattle.std.proofs.Common.{◌≡◌, ⊎_elim, Bool, true, false, cond, Option, Some, None, List, [], ◌∷◌, ◌++◌, Contains, refl, sym, ap, ◌∙◌, subst, append_assoc}
use Rattle.std.specs.List.{last_or}
use Rattle.std.proofs.lemmas.Option.{same_Some}
use Rattle.std.proofs.lemmas.List.Elements.{Contains-append_right}
use Rattle.std.proofs.lemmas.List.{map-append}
use Rattle.fb_base.specs.declared.reply.Reply.{Reply}
use Rattle.fb_index.specs.Entry.{Occurrence}
use Rattle.fb_index.specs.Index.{same_index}
use Rattle.fb_index.specs.declared.fault.Fault.{Fault}
use Rattle.fb_tree.specs.declared.visit.Visit.{Visit}
use Rattle.fb_campaign.specs.Runs.{Choices, AreDistinct, is_between_services}
use Rattle.fb_campaign.specs.Plans.{injections_in, begun_after, begun_after_plan, between_services, extensions_at, extensions_of}
use Rattle.fb_campaign.proofs.Lists.{in_none, in_cases, in_same, in_map, map_has, in_filter, filter_has, in_flat_map, flat_map_has, last_in, last_none, last_behind, distinct_right}
use Rattle.fb_campaign.proofs.Sameness.{same_index-Decides}
use Rattle.fb_campaign.proofs.Answers.{fault_of, in_injections, injections_have, injections_append, indexes}

pub begun_at : (index : List Occurrence) (visit : Visit) (visits : List Visit) (b : Bool) → same_index visit.index index ≡ b
    → begun_after index (visit ∷ visits) ≡ cond b visits (begun_after index visits)
begun_at index visit visits true is = rw is
begun_at index visit visits false is = rw is

-- ---- what begins after the calls up to the one at an index

begun_later : (index : List Occurrence) (before after : List Visit) (last later : Visit) → Contains before last → last.index ≡ index → Contains after later
    → Contains (begun_after index (before ++ after)) later
begun_later index [] after last later has at then_has = in_none last has
begun_later index (visit ∷ before) after last later has at then_has =
    further (same_index visit.index index) refl (λ there. begun_later index before after last later there at then_has)
  where
    further : (b : Bool) → same_index visit.index index ≡ b → (Contains before last → Contains (begun_after index (before ++ after)) later)
        → Contains (begun_after index (visit ∷ before ++ after)) later
    further true is rest = in_same later _ _ (sym (begun_at index visit (before ++ after) true is)) (Contains-append_right before after later then_has)
    further false is rest =
        in_same later _ _ (sym (begun_at index visit (before ++ after) false is))
        (⊎_elim (λ same. (let tested = (same_index-Decides visit.index index).1 (ap (λ (v : Visit). v.index) same ∙ at) in absurd (cc))) rest (in_cases last visit before has))

-- the calls after those that injected the plan
pub begun_behind : (before after : List Visit) (later : Visit) → Contains after later
    → Contains (begun_after_plan (injections_in before) (before ++ after)) later
begun_behind before after later has = behind (last_or None (injections_in before)) refl
  where
    behind : (o : Option Fault) → last_or None (injections_in before) ≡ o → Contains (begun_after_plan (injections_in before) (before ++ after)) later
    behind None is = rw is (Contains-append_right before after later has)
    behind (Some fault) is =
        let call = injections_have before fault (last_in (injections_in before) fault is) in
        rw is (begun_later fault.index before after call.visit later call.there call.index has)

-- ---- what has begun after an index is behind a call there

record Behind (index : List Occurrence) (visits : List Visit) : Type 0 where
  before : List Visit
  last : Visit
  is : visits ≡ before ++ last ∷ begun_after index visits
  at : last.index ≡ index

behind_one : (index : List Occurrence) (visits : List Visit) (later : Visit) → Contains (begun_after index visits) later → Behind index visits
behind_one index [] later has = in_none later has
behind_one index (visit ∷ visits) later has = one (same_index visit.index index) refl (λ there. behind_one index visits later there)
  where
    one : (b : Bool) → same_index visit.index index ≡ b → (Contains (begun_after index visits) later → Behind index visits) → Behind index (visit ∷ visits)
    one true is rest = record {
      before = [];
      last = visit;
      is = ap (λ vs. visit ∷ vs) (sym (begun_at index visit visits true is));
      at = (same_index-Decides visit.index index).0 is;
    }
    one false is rest =
        let same = begun_at index visit visits false is in
        let found = rest (in_same later _ _ same has) in
        record {
          before = visit ∷ found.before;
          last = found.last;
          is = ap (λ vs. visit ∷ vs) found.is ∙ ap (λ vs. visit ∷ found.before ++ found.last ∷ vs) (sym same);
          at = found.at;
        }

-- none of these calls was injected
abbrev pub AreQuiet : List Visit → Type 0
AreQuiet visits = (visit : Visit) (given : Reply) → Contains visits visit → ¬ (visit.fault ≡ Some given)

-- where a run injects exactly a plan, what begins after its last fault is quiet
pub record After (plan : List Fault) (visits : List Visit) : Type 0 where
  pub before : List Visit
  pub is : visits ≡ before ++ begun_after_plan plan visits
  pub quiet : AreQuiet (begun_after_plan plan visits)

module _ (visits : List Visit) (differ : AreDistinct (indexes visits)) where
  quiet_behind : (fault : Fault) (before rest : List Visit) (last : Visit) → visits ≡ before ++ last ∷ rest → last.index ≡ fault.index
      → last_or None (injections_in visits) ≡ Some fault → AreQuiet rest
  quiet_behind fault before rest last is at ends visit given has given_is =
      let parts = ap injections_in (is ∙ sym (append_assoc before (last ∷ []) rest)) ∙ injections_append (before ++ last ∷ []) rest in
      let found = last_behind (injections_in (before ++ last ∷ [])) (injections_in rest) (fault_of visit.index given) (in_injections rest visit given has given_is) in
      let same = same_Some found.0 fault (sym (ap (last_or None) parts ∙ found.2) ∙ ends) in
      let call = injections_have rest found.0 found.1 in
      let ordered = distinct_right (indexes before) (indexes (last ∷ rest)) (subst AreDistinct (ap indexes is ∙ map-append (λ (v : Visit). v.index) before (last ∷ rest)) differ) in
      ordered.0 (subst (Contains (indexes rest)) (call.index ∙ ap (λ (f : Fault). f.index) same ∙ sym at) (in_map (λ (v : Visit). v.index) call.visit rest call.there))

  pub after_plan : (plan : List Fault) (later : Visit) → injections_in visits ≡ plan → Contains (begun_after_plan plan visits) later → After plan visits
  after_plan plan later injected has = after (last_or None plan) refl
    where
      after : (o : Option Fault) → last_or None plan ≡ o → After plan visits
      after None is =
          let whole : begun_after_plan plan visits ≡ visits = rw is in
          let nothing = injected ∙ last_none plan is in
          record {
            before = [];
            is = sym whole;
            quiet = λ visit given here given_is. in_none (fault_of visit.index given)
                (in_same _ _ _ nothing (in_injections visits visit given (in_same visit _ _ whole here) given_is));
          }
      after (Some fault) is =
          let whole : begun_after_plan plan visits ≡ begun_after fault.index visits = rw is in
          let found = behind_one fault.index visits later (in_same later _ _ whole has) in
          record {
            before = found.before ++ found.last ∷ [];
            is = found.is ∙ sym (append_assoc found.before (found.last ∷ []) (begun_after fault.index visits))
                ∙ ap (λ vs. (found.before ++ found.last ∷ []) ++ vs) (sym whole);
            quiet = subst AreQuiet (sym whole) (quiet_behind fault found.before (begun_after fault.index visits) found.last found.is found.at
                (ap (last_or None) injected ∙ is));
          }

-- ---- an extension by a call

pub record ExtendedAt (choices : Choices) (visits : List Visit) (plan longer : List Fault) : Type 0 where
  pub visit : Visit
  pub given : Reply
  pub there : Contains (begun_after_plan plan visits) visit
  pub between : is_between_services visit.index ≡ true
  pub chosen : Contains (choices visit.callee) given
  pub is : longer ≡ plan ++ fault_of visit.index given ∷ []

module _ (choices : Choices) (visits : List Visit) (plan : List Fault) where
  pub extended_at : (longer : List Fault) → Contains (extensions_of choices visits plan) longer → ExtendedAt choices visits plan longer
  extended_at longer has =
      let call = flat_map_has (extensions_at choices plan) longer (between_services (begun_after_plan plan visits)) has in
      let kept = filter_has (λ (v : Visit). is_between_services v.index) call.0 (begun_after_plan plan visits) call.1 in
      let made = map_has (λ given. plan ++ fault_of call.0.index given ∷ []) longer (choices call.0.callee) call.2 in
      record { visit = call.0; given = made.0; there = kept.0; between = kept.1; chosen = made.1; is = sym made.2 }

  pub in_extensions : (visit : Visit) (given : Reply) → Contains (begun_after_plan plan visits) visit → is_between_services visit.index ≡ true
      → Contains (choices visit.callee) given → Contains (extensions_of choices visits plan) (plan ++ fault_of visit.index given ∷ [])
  in_extensions visit given has between chosen =
      in_flat_map (extensions_at choices plan) visit (plan ++ fault_of visit.index given ∷ []) (between_services (begun_after_plan plan visits))
      (in_filter (λ (v : Visit). is_between_services v.index) visit (begun_after_plan plan visits) has between)
      (in_map (λ reply. plan ++ fault_of visit.index reply ∷ []) given (choices visit.callee) chosen)
