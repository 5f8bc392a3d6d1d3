-- What a plan answers, and which calls of a run are injected.
use Rattle.std.proofs.Common.{◌≡◌, ◌⊎◌, inl, inr, ⊎_elim, Bool, true, false, cond, Option, Some, None, List, [], ◌∷◌, ◌++◌, map, option_map, option_and_then, Contains, refl, sym, ap, ◌∙◌, subst}
use Rattle.std.proofs.lemmas.List.Elements.{filter_map-append}
use Rattle.std.proofs.lemmas.Option.{same_Some}
use Rattle.fb_base.specs.declared.method.MethodId.{MethodId}
use Rattle.fb_base.specs.declared.reply.Reply.{Reply}
use Rattle.fb_index.specs.Entry.{Occurrence}
use Rattle.fb_index.specs.Index.{same_index}
use Rattle.fb_index.specs.Plan.{fault_at}
use Rattle.fb_index.specs.declared.fault.Fault.{Fault}
use Rattle.fb_tree.specs.Calls.{injection_of}
use Rattle.fb_tree.specs.declared.visit.Visit.{Visit}
use Rattle.fb_campaign.specs.Runs.{Gives, AreDistinct, fits, is_between_services, where_it_fits, answer_to}
use Rattle.fb_campaign.specs.Plans.{injections_in}
use Rattle.fb_campaign.proofs.Lists.{in_none, in_head, in_tail, in_cases, in_map, map_has, in_filter_map, filter_map_has}
use Rattle.fb_campaign.proofs.Sameness.{same_index-Decides}

abbrev pub fault_of : List Occurrence → Reply → Fault
fault_of index given = record { index = index; reply = given }

-- ---- the first fault at an index

found_at : (fault : Fault) (plan : List Fault) (index : List Occurrence) (b : Bool) → same_index fault.index index ≡ b
    → fault_at (fault ∷ plan) index ≡ cond b (Some fault.reply) (fault_at plan index)
found_at fault plan index true is = rw is
found_at fault plan index false is = rw is

found_here : (fault : Fault) (plan : List Fault) (index : List Occurrence) (given : Reply) (b : Bool) → same_index fault.index index ≡ b
    → fault_at (fault ∷ plan) index ≡ Some given → (fault ≡ fault_of index given) ⊎ (fault_at plan index ≡ Some given)
found_here fault plan index given true same is =
    let here = (same_index-Decides fault.index index).0 same in
    let answered = same_Some fault.reply given (sym (found_at fault plan index true same) ∙ is) in
    inl (λ i. record { index = here i; reply = answered i })
found_here fault plan index given false same is = inr (sym (found_at fault plan index false same) ∙ is)

pub fault_at_in : (plan : List Fault) (index : List Occurrence) (given : Reply) → fault_at plan index ≡ Some given → Contains plan (fault_of index given)
fault_at_in [] index given is = absurd (cc)
fault_at_in (fault ∷ plan) index given is =
    ⊎_elim (λ here. subst (Contains (fault ∷ plan)) here (in_head fault plan))
    (λ later. in_tail (fault_of index given) fault plan (fault_at_in plan index given later))
    (found_here fault plan index given (same_index fault.index index) refl is)

none_here : (fault : Fault) (plan : List Fault) (index : List Occurrence) (b : Bool) → same_index fault.index index ≡ b → fault_at (fault ∷ plan) index ≡ None
    → (¬ (fault.index ≡ index)) × (fault_at plan index ≡ None)
none_here fault plan index true same is = (let some = found_at fault plan index true same in absurd (cc))
none_here fault plan index false same is =
    (λ here. (let tested = (same_index-Decides fault.index index).1 here in absurd (cc)), sym (found_at fault plan index false same) ∙ is)

-- no fault of the plan is there
pub fault_at_none : (plan : List Fault) (index : List Occurrence) (fault : Fault) → fault_at plan index ≡ None → Contains plan fault → ¬ (fault.index ≡ index)
fault_at_none [] index fault is has = in_none fault has
fault_at_none (first ∷ plan) index fault is has =
    let parts = none_here first plan index (same_index first.index index) refl is in
    ⊎_elim (λ same. subst (λ (f : Fault). ¬ (f.index ≡ index)) same parts.0) (λ later. fault_at_none plan index fault parts.1 later)
    (in_cases fault first plan has)

pub fault_at_left : (p q : List Fault) (index : List Occurrence) (given : Reply) → fault_at p index ≡ Some given → fault_at (p ++ q) index ≡ Some given
fault_at_left [] q index given is = absurd (cc)
fault_at_left (fault ∷ p) q index given is = at_left (same_index fault.index index) refl (fault_at_left p q index given)
  where
    at_left : (b : Bool) → same_index fault.index index ≡ b → (fault_at p index ≡ Some given → fault_at (p ++ q) index ≡ Some given)
        → fault_at (fault ∷ p ++ q) index ≡ Some given
    at_left true same later = found_at fault (p ++ q) index true same ∙ sym (found_at fault p index true same) ∙ is
    at_left false same later = found_at fault (p ++ q) index false same ∙ later (sym (found_at fault p index false same) ∙ is)

pub fault_at_right : (p q : List Fault) (index : List Occurrence) → fault_at p index ≡ None → fault_at (p ++ q) index ≡ fault_at q index
fault_at_right [] q index is = refl
fault_at_right (fault ∷ p) q index is = at_right (same_index fault.index index) refl (fault_at_right p q index)
  where
    at_right : (b : Bool) → same_index fault.index index ≡ b → (fault_at p index ≡ None → fault_at (p ++ q) index ≡ fault_at q index)
        → fault_at (fault ∷ p ++ q) index ≡ fault_at q index
    at_right true same later = (let some = found_at fault p index true same in absurd (cc))
    at_right false same later = found_at fault (p ++ q) index false same ∙ later (sym (found_at fault p index false same) ∙ is)

pub fault_at_one : (fault : Fault) → fault_at (fault ∷ []) fault.index ≡ Some fault.reply
fault_at_one fault = found_at fault [] fault.index true ((same_index-Decides fault.index fault.index).1 refl)

-- ---- the answer to a call

module _ (gives : Gives) where
  fitting_is : (callee : MethodId) (given : Reply) (b : Bool) (other : Reply) → fits gives callee given ≡ b → where_it_fits gives callee given ≡ Some other
      → (given ≡ other) × (fits gives callee given ≡ true)
  fitting_is callee given true other fit is = (same_Some given other (let opened : where_it_fits gives callee given ≡ Some given = rw fit in sym opened ∙ is), fit)
  fitting_is callee given false other fit is = (let opened : where_it_fits gives callee given ≡ None = rw fit in absurd (cc))

  answer_of : (plan : List Fault) (index : List Occurrence) (callee : MethodId) (given : Reply) (b : Bool) (o : Option Reply)
      → is_between_services index ≡ b → fault_at plan index ≡ o → answer_to gives plan index callee ≡ Some given
      → (is_between_services index ≡ true) × (fault_at plan index ≡ Some given) × (fits gives callee given ≡ true)
  answer_of plan index callee given false o far at is = (let opened : answer_to gives plan index callee ≡ None = rw far in absurd (cc))
  answer_of plan index callee given true None far at is = (let opened : answer_to gives plan index callee ≡ None = rw far (rw at) in absurd (cc))
  answer_of plan index callee given true (Some found) far at is =
      let opened : answer_to gives plan index callee ≡ where_it_fits gives callee found = rw far (rw at) in
      let both = fitting_is callee found (fits gives callee found) given refl (sym opened ∙ is) in
      (far, at ∙ ap Some both.0, subst (λ r. fits gives callee r ≡ true) both.0 both.1)

  -- where a call is answered
  pub answer_some : (plan : List Fault) (index : List Occurrence) (callee : MethodId) (given : Reply) → answer_to gives plan index callee ≡ Some given
      → (is_between_services index ≡ true) × (fault_at plan index ≡ Some given) × (fits gives callee given ≡ true)
  answer_some plan index callee given is = answer_of plan index callee given (is_between_services index) (fault_at plan index) refl refl is

  pub answer_is : (plan : List Fault) (index : List Occurrence) (callee : MethodId) (given : Reply) → is_between_services index ≡ true
      → fault_at plan index ≡ Some given → fits gives callee given ≡ true → answer_to gives plan index callee ≡ Some given
  answer_is plan index callee given far at fit =
      let opened : answer_to gives plan index callee ≡ where_it_fits gives callee given = rw far (rw at) in
      opened ∙ (let fitted : where_it_fits gives callee given ≡ Some given = rw fit in fitted)

  -- the answer goes by the fault alone
  pub answer_same : (p q : List Fault) (index : List Occurrence) (callee : MethodId) → fault_at p index ≡ fault_at q index
      → answer_to gives p index callee ≡ answer_to gives q index callee
  answer_same p q index callee same =
      ap (λ found. cond (is_between_services index) (option_and_then (where_it_fits gives callee) found) None) same

-- ---- the calls that were injected

pub injection_some : (visit : Visit) (given : Reply) → visit.fault ≡ Some given → injection_of visit ≡ Some (fault_of visit.index given)
injection_some visit given is = ap (option_map (fault_of visit.index)) is

pub injection_none : (visit : Visit) → visit.fault ≡ None → injection_of visit ≡ None
injection_none visit is = ap (option_map (fault_of visit.index)) is

injected_as : (visit : Visit) (fault : Fault) (o : Option Reply) → visit.fault ≡ o → injection_of visit ≡ Some fault
    → (visit.index ≡ fault.index) × (visit.fault ≡ Some fault.reply)
injected_as visit fault None is at = (let none = injection_none visit is in absurd (cc))
injected_as visit fault (Some given) is at =
    let same = same_Some (fault_of visit.index given) fault (sym (injection_some visit given is) ∙ at) in
    (ap (λ (f : Fault). f.index) same, is ∙ ap (λ (f : Fault). Some f.reply) same)

pub in_injections : (visits : List Visit) (visit : Visit) (given : Reply) → Contains visits visit → visit.fault ≡ Some given
    → Contains (injections_in visits) (fault_of visit.index given)
in_injections visits visit given has is =
    in_filter_map injection_of visit (fault_of visit.index given) visits has (injection_some visit given is)

-- the call of an injection
pub record InjectedAt (visits : List Visit) (fault : Fault) : Type 0 where
  pub visit : Visit
  pub there : Contains visits visit
  pub index : visit.index ≡ fault.index
  pub given : visit.fault ≡ Some fault.reply

pub injections_have : (visits : List Visit) (fault : Fault) → Contains (injections_in visits) fault → InjectedAt visits fault
injections_have visits fault has =
    let found = filter_map_has injection_of fault visits has in
    let parts = injected_as found.0 fault found.0.fault refl found.2 in
    record { visit = found.0; there = found.1; index = parts.0; given = parts.1 }

pub injections_append : (before after : List Visit) → injections_in (before ++ after) ≡ injections_in before ++ injections_in after
injections_append before after = filter_map-append injection_of before after

-- the indexes of calls, and of faults
abbrev pub indexes : List Visit → List (List Occurrence)
indexes visits = map (λ visit. visit.index) visits

abbrev pub places : List Fault → List (List Occurrence)
places plan = map (λ fault. fault.index) plan

injected_places : (visits : List Visit) (index : List Occurrence) → Contains (places (injections_in visits)) index → Contains (indexes visits) index
injected_places visits index has =
    let fault = map_has (λ (f : Fault). f.index) index (injections_in visits) has in
    let call = injections_have visits fault.0 fault.1 in
    subst (Contains (indexes visits)) (call.index ∙ fault.2) (in_map (λ (v : Visit). v.index) call.visit visits call.there)

pub places_differ : (visits : List Visit) → AreDistinct (indexes visits) → AreDistinct (places (injections_in visits))
places_differ [] all = tt
places_differ (visit ∷ visits) all = one_more visit.fault refl (places_differ visits all.1)
  where
    one_more : (o : Option Reply) → visit.fault ≡ o → AreDistinct (places (injections_in visits)) → AreDistinct (places (injections_in (visit ∷ visits)))
    one_more None is rest = rw (injection_none visit is) rest
    one_more (Some given) is rest = rw (injection_some visit given is) (λ has. all.0 (injected_places visits visit.index has), rest)
