-- A front of a met plan is met, and what extends a met plan is met.
use Rattle.std.proofs.Common.{◌≡◌, ⊎_elim, ℕ, Bool, true, false, Option, Some, None, List, [], ◌∷◌, ◌++◌, Contains, refl, sym, ap, ◌∙◌, subst, append_assoc, append-nil}
use Rattle.std.specs.Option.{option_map_or}
use Rattle.std.proofs.lemmas.Option.{same_Some}
use Rattle.std.proofs.lemmas.List.{map-append, append_cancel_left}
use Rattle.std.proofs.lemmas.List.Elements.{Contains-append_left, Contains-append_right, Contains-append_cases}
use Rattle.fb_base.specs.declared.reply.Reply.{Reply}
use Rattle.fb_index.specs.Plan.{fault_at}
use Rattle.fb_index.specs.declared.fault.Fault.{Fault}
use Rattle.fb_tree.specs.Calls.{injection_of}
use Rattle.fb_tree.specs.declared.visit.Visit.{Visit}
use Rattle.fb_campaign.specs.Runs.{Went, Runs, Gives, Choices, AreDistinct, is_between_services, answer_to, PartAtFault, AreLawful, AreChoices}
use Rattle.fb_campaign.specs.Plans.{injections_in, IsMet, begun_after_plan, extensions_of, extensions}
use Rattle.fb_campaign.proofs.Lists.{in_none, in_head, in_tail, in_cases, in_same, in_middle, in_map, filter_map_some, filter_map-nothing, same_cut, Split, split, same_key, distinct_right, distinct_apart}
use Rattle.fb_campaign.proofs.Answers.{fault_of, fault_at_in, fault_at_none, fault_at_left, fault_at_right, fault_at_one, answer_some, answer_is, answer_same, injection_some, injection_none, injections_have, injections_append, indexes, places, places_differ}
use Rattle.fb_campaign.proofs.Extending.{begun_behind, AreQuiet, After, after_plan, ExtendedAt, in_extensions}

-- where nothing was injected, no fault is made
pub quiet-none : (visits : List Visit) → AreQuiet visits → injections_in visits ≡ []
quiet-none visits quiet =
    filter_map-nothing injection_of visits (λ visit fault has is. none visit fault has is visit.fault refl)
  where
    none : (visit : Visit) (fault : Fault) → Contains visits visit → injection_of visit ≡ Some fault → (o : Option Reply) → visit.fault ≡ o → ⊥
    none visit fault has is None at = (let nothing = injection_none visit at in absurd (cc))
    none visit fault has is (Some given) at = quiet visit given has at

-- two calls of one list of calls with one index are one
pub one_call : (visits : List Visit) → AreDistinct (indexes visits) → (a b : Visit) → Contains visits a → Contains visits b → a.index ≡ b.index → a ≡ b
one_call visits differ a b here there same = same_key (λ (v : Visit). v.index) visits a b differ here there same

-- a call before another one has another index
pub other_call : (before after : List Visit) → AreDistinct (indexes (before ++ after)) → (a b : Visit) → Contains before a → Contains after b → ¬ (a.index ≡ b.index)
other_call before after differ a b here there same =
    distinct_apart (indexes before) (indexes after) b.index
    (subst AreDistinct (map-append (λ (v : Visit). v.index) before after) differ)
    (subst (Contains (indexes before)) same (in_map (λ (v : Visit). v.index) a before here))
    (in_map (λ (v : Visit). v.index) b after there)

-- ---- where two runs part

-- the plan has no fault where the runs part, and the other one has its next fault there
record Parted (plan next : List Fault) (here there : Visit) : Type 0 where
  given : Reply
  none : fault_at plan here.index ≡ None
  quiet : here.fault ≡ None
  answered : there.fault ≡ Some given
  fault : fault_at next there.index ≡ Some given
  between : is_between_services there.index ≡ true

module _ (gives : Gives) (plan next : List Fault) (here there : Visit) (same_at : here.index ≡ there.index) (same_callee : here.callee ≡ there.callee)
    (other : ¬ (here.fault ≡ there.fault))
    (first : here.fault ≡ answer_to gives plan here.index here.callee)
    (second : there.fault ≡ answer_to gives (plan ++ next) there.index there.callee) where
  none_first : (o : Option Reply) → fault_at plan here.index ≡ o → o ≡ None
  none_first None is = refl
  none_first (Some given) is =
      let again = fault_at_left plan next here.index given is in
      let alike = answer_same gives plan (plan ++ next) here.index here.callee (is ∙ sym again) in
      let moved : answer_to gives (plan ++ next) here.index here.callee ≡ answer_to gives (plan ++ next) there.index there.callee
      = λ i. answer_to gives (plan ++ next) (same_at i) (same_callee i) in
      absurd (other (first ∙ alike ∙ moved ∙ sym second))

  parted : Parted plan next here there
  parted = by_answer there.fault refl
    where
      none : fault_at plan here.index ≡ None
      none = none_first (fault_at plan here.index) refl

      quiet : here.fault ≡ None
      quiet = first ∙ answer_same gives plan [] here.index here.callee none ∙ nothing (is_between_services here.index) refl
        where
          nothing : (b : Bool) → is_between_services here.index ≡ b → answer_to gives [] here.index here.callee ≡ None
          nothing true is = rw is
          nothing false is = rw is

      by_answer : (o : Option Reply) → there.fault ≡ o → Parted plan next here there
      by_answer None is = absurd (other (quiet ∙ sym is))
      by_answer (Some given) is =
          let told = answer_some gives (plan ++ next) there.index there.callee given (sym second ∙ is) in
          let later = fault_at_right plan next there.index (ap (fault_at plan) (sym same_at) ∙ none) in
          record { given = given; none = none; quiet = quiet; answered = is; fault = sym later ∙ told.1; between = told.0 }

module _ (gives : Gives) (runs : Runs) (choices : Choices) (lawful : AreLawful gives runs) where
  -- what a run injects is in its plan
  pub injected_in_plan : (n : ℕ) (plan : List Fault) (went : Went) → runs n plan ≡ Some went → (visit : Visit) (given : Reply)
      → Contains went.visits visit → visit.fault ≡ Some given → Contains plan (fault_of visit.index given)
  injected_in_plan n plan went done visit given has is =
      let told = answer_some gives plan visit.index visit.callee given (sym (lawful.answered n plan went done visit has) ∙ is) in
      fault_at_in plan visit.index given told.1

  pub extensions_done : (n : ℕ) (plan : List Fault) (went : Went) → runs n plan ≡ Some went
      → extensions runs choices n plan ≡ extensions_of choices went.visits plan
  extensions_done n plan went done = ap (λ o. option_map_or (λ (w : Went). extensions_of choices w.visits plan) o []) done

  -- ---- the front of a met plan

  module _ (n : ℕ) (plan : List Fault) (fault : Fault) (rest : List Fault) (met : IsMet runs choices n (plan ++ fault ∷ rest))
      (went : Went) (done : runs n plan ≡ Some went) where
    differ_here : AreDistinct (indexes went.visits)
    differ_here = lawful.indexes_differ n plan went done

    differ_there : AreDistinct (indexes met.went.visits)
    differ_there = lawful.indexes_differ n (plan ++ fault ∷ rest) met.went met.done

    -- the next fault isn't at an index of the plan
    next_apart : ¬ (Contains plan fault)
    next_apart has =
        let all = subst (λ faults. AreDistinct (places faults)) met.injected (places_differ met.went.visits differ_there) in
        distinct_apart (places plan) (places (fault ∷ rest)) fault.index
        (subst AreDistinct (map-append (λ (f : Fault). f.index) plan (fault ∷ rest)) all)
        (in_map (λ (f : Fault). f.index) fault plan has) (in_head fault.index (places rest))

    -- the runs aren't the same: the plan's own run doesn't inject the next fault
    front_parts : ¬ (went.visits ≡ met.went.visits)
    front_parts same =
        let has = in_same fault _ _ (sym met.injected ∙ ap injections_in (sym same)) (in_middle plan rest fault) in
        let call = injections_have went.visits fault has in
        next_apart (subst (Contains plan) (λ i. record { index = call.index i; reply = fault.reply })
        (injected_in_plan n plan went done call.visit fault.reply call.there call.given))

    module _ (part : PartAtFault went.visits met.went.visits) where
      here_in : Contains went.visits part.here
      here_in = in_same part.here _ _ (sym part.first_visits) (in_middle part.shared part.after_here part.here)

      there_in : Contains met.went.visits part.there
      there_in = in_same part.there _ _ (sym part.second_visits) (in_middle part.shared part.after_there part.there)

      parted_here : Parted plan (fault ∷ rest) part.here part.there
      parted_here =
          parted gives plan (fault ∷ rest) part.here part.there part.same_index part.same_callee part.other_fault
          (lawful.answered n plan went done part.here here_in)
          (lawful.answered n (plan ++ fault ∷ rest) met.went met.done part.there there_in)

      abbrev next : Fault
      next = fault_of part.there.index parted_here.given

      shared_in : (visit : Visit) → Contains part.shared visit → Contains went.visits visit
      shared_in visit has = in_same visit _ _ (sym part.first_visits) (Contains-append_left part.shared (part.here ∷ part.after_here) visit has)

      whole : injections_in part.shared ++ next ∷ injections_in part.after_there ≡ plan ++ fault ∷ rest
      whole =
          ap (λ faults. injections_in part.shared ++ faults)
          (sym (filter_map_some injection_of part.there part.after_there next (injection_some part.there parted_here.given parted_here.answered)))
          ∙ sym (injections_append part.shared (part.there ∷ part.after_there)) ∙ ap injections_in (sym part.second_visits) ∙ met.injected

      -- what is shared injects exactly the plan, and the next fault comes there
      cut : (injections_in part.shared ≡ plan) × (next ≡ fault)
      cut =
          ⊎_elim (λ both. both)
          (λ early. ⊎_elim
          (λ has. (let call = injections_have part.shared fault has in
          absurd (next_apart (subst (Contains plan) (λ i. record { index = call.index i; reply = fault.reply })
          (injected_in_plan n plan went done call.visit fault.reply (shared_in call.visit call.there) call.given)))))
          (λ has. absurd (fault_at_none plan part.here.index next parted_here.none has (sym part.same_index))) early)
          (same_cut (injections_in part.shared) (injections_in part.after_there) plan rest next fault whole)

      -- nothing is injected where the runs have parted
      rest_quiet : AreQuiet (part.here ∷ part.after_here)
      rest_quiet visit given has is =
          let visited = in_same visit _ _ (sym part.first_visits) (Contains-append_right part.shared (part.here ∷ part.after_here) visit has) in
          let planned = injected_in_plan n plan went done visit given visited is in
          let call = injections_have part.shared (fault_of visit.index given) (in_same _ _ _ (sym cut.0) planned) in
          other_call part.shared (part.here ∷ part.after_here) (subst (λ vs. AreDistinct (indexes vs)) part.first_visits differ_here)
          call.visit visit call.there has call.index

      front_injected : injections_in went.visits ≡ plan
      front_injected =
          ap injections_in part.first_visits ∙ injections_append part.shared (part.here ∷ part.after_here)
          ∙ ap (λ faults. injections_in part.shared ++ faults) (quiet-none (part.here ∷ part.after_here) rest_quiet)
          ∙ append-nil (injections_in part.shared) ∙ cut.0

      front_chosen : (visit : Visit) (given : Reply) → Contains went.visits visit → visit.fault ≡ Some given → Contains (choices visit.callee) given
      front_chosen visit given has is =
          ⊎_elim
          (λ shared. met.chosen visit given (in_same visit _ _ (sym part.second_visits) (Contains-append_left part.shared (part.there ∷ part.after_there) visit shared)) is)
          (λ later. absurd (rest_quiet visit given later is))
          (Contains-append_cases part.shared (part.here ∷ part.after_here) visit (in_same visit _ _ part.first_visits has))

      front_extended : Contains (extensions runs choices n plan) (plan ++ fault ∷ [])
      front_extended =
          let behind = begun_behind part.shared (part.here ∷ part.after_here) part.here (in_head part.here part.after_here) in
          let begun : Contains (begun_after_plan plan went.visits) part.here =
          subst (λ faults. Contains (begun_after_plan faults went.visits) part.here) cut.0
          (subst (λ vs. Contains (begun_after_plan (injections_in part.shared) vs) part.here) (sym part.first_visits) behind) in
          let chosen : Contains (choices part.here.callee) parted_here.given =
          subst (λ callee. Contains (choices callee) parted_here.given) (sym part.same_callee) (met.chosen part.there parted_here.given there_in parted_here.answered) in
          let added = in_extensions choices went.visits plan part.here parted_here.given begun (ap is_between_services part.same_index ∙ parted_here.between) chosen in
          let same : fault_of part.here.index parted_here.given ≡ fault = (λ i. record { index = part.same_index i; reply = parted_here.given }) ∙ cut.1 in
          in_same _ _ _ (sym (extensions_done n plan went done)) (subst (λ f. Contains (extensions_of choices went.visits plan) (plan ++ f ∷ [])) same added)

    pub front_met : IsMet runs choices n plan × Contains (extensions runs choices n plan) (plan ++ fault ∷ [])
    front_met =
        ⊎_elim (λ same. absurd (front_parts same))
        (λ part. (record { went = went; done = done; injected = front_injected part; chosen = front_chosen part }, front_extended part))
        (lawful.alike n plan (plan ++ fault ∷ rest) went met.went done met.done)

-- ---- an extension of a met plan

module _ (gives : Gives) (runs : Runs) (choices : Choices) (lawful : AreLawful gives runs) (fitting : AreChoices gives choices)
    (n : ℕ) (plan longer : List Fault) (met : IsMet runs choices n plan) (went : Went) (done : runs n longer ≡ Some went)
    (added : ExtendedAt choices met.went.visits plan longer) where
  abbrev add : Fault
  add = fault_of added.visit.index added.given

  differ_before : AreDistinct (indexes met.went.visits)
  differ_before = lawful.indexes_differ n plan met.went met.done

  differ_after : AreDistinct (indexes went.visits)
  differ_after = lawful.indexes_differ n longer went done

  -- the calls up to the plan's last fault, and those behind it
  after : After plan met.went.visits
  after = after_plan met.went.visits differ_before plan added.visit met.injected added.there

  visited : Contains met.went.visits added.visit
  visited = in_same added.visit _ _ (sym after.is) (Contains-append_right after.before (begun_after_plan plan met.went.visits) added.visit added.there)

  abbrev answer : List Fault → Visit → Option Reply
  answer faults visit = answer_to gives faults visit.index visit.callee

  answered_before : (visit : Visit) → Contains met.went.visits visit → visit.fault ≡ answer plan visit
  answered_before visit has = lawful.answered n plan met.went met.done visit has

  answered_after : (visit : Visit) → Contains went.visits visit → visit.fault ≡ answer (plan ++ add ∷ []) visit
  answered_after visit has = subst (λ faults. visit.fault ≡ answer faults visit) added.is (lawful.answered n longer went done visit has)

  -- the plan has no fault at the call that the longer one adds
  none_planned : (o : Option Reply) → fault_at plan added.visit.index ≡ o → o ≡ None
  none_planned None is = refl
  none_planned (Some given) is =
      let has = in_same _ _ _ (sym met.injected) (fault_at_in plan added.visit.index given is) in
      let call = injections_have met.went.visits (fault_of added.visit.index given) has in
      let same = one_call met.went.visits differ_before call.visit added.visit call.there visited call.index in
      absurd (after.quiet added.visit given added.there (ap (λ (v : Visit). v.fault) (sym same) ∙ call.given))

  not_planned : fault_at plan added.visit.index ≡ None
  not_planned = none_planned (fault_at plan added.visit.index) refl

  added_answered : answer (plan ++ add ∷ []) added.visit ≡ Some added.given
  added_answered =
      answer_is gives (plan ++ add ∷ []) added.visit.index added.visit.callee added.given added.between
      (fault_at_right plan (add ∷ []) added.visit.index not_planned ∙ fault_at_one add)
      (fitting.fitting added.visit.callee added.given added.chosen)

  -- the runs aren't the same: the longer plan's injects the added fault
  extension_parts : ¬ (met.went.visits ≡ went.visits)
  extension_parts same =
      after.quiet added.visit added.given added.there (answered_after added.visit (in_same added.visit _ _ same visited) ∙ added_answered)

  module _ (part : PartAtFault met.went.visits went.visits) where
    before_in : Contains met.went.visits part.here
    before_in = in_same part.here _ _ (sym part.first_visits) (in_middle part.shared part.after_here part.here)

    after_in : Contains went.visits part.there
    after_in = in_same part.there _ _ (sym part.second_visits) (in_middle part.shared part.after_there part.there)

    parted_there : Parted plan (add ∷ []) part.here part.there
    parted_there =
        parted gives plan (add ∷ []) part.here part.there part.same_index part.same_callee part.other_fault
        (answered_before part.here before_in) (answered_after part.there after_in)

    -- they part at the added fault
    is_added : add ≡ fault_of part.there.index parted_there.given
    is_added =
        ⊎_elim (λ same. same) (λ none. in_none (fault_of part.there.index parted_there.given) none)
        (in_cases (fault_of part.there.index parted_there.given) add []
        (fault_at_in (add ∷ []) part.there.index parted_there.given parted_there.fault))

    same_call : part.here ≡ added.visit
    same_call =
        one_call met.went.visits differ_before part.here added.visit before_in visited
        (part.same_index ∙ ap (λ (f : Fault). f.index) (sym is_added))

    -- the calls behind the plan's last fault are those behind the added call, and some before it
    cut_behind : (behind : Split (begun_after_plan plan met.went.visits) added.visit) → part.after_here ≡ behind.after
    cut_behind behind =
        let earlier = after.before ++ behind.before in
        let parts : part.shared ++ part.here ∷ part.after_here ≡ earlier ++ added.visit ∷ behind.after =
        sym part.first_visits ∙ after.is ∙ ap (λ vs. after.before ++ vs) behind.is ∙ sym (append_assoc after.before behind.before (added.visit ∷ behind.after)) in
        ⊎_elim
        (λ both. tail_of _ _ part.here added.visit (append_cancel_left earlier _ _ (ap (λ vs. vs ++ part.here ∷ part.after_here) (sym both.0) ∙ parts)))
        (λ early. absurd (⊎_elim
        (λ has. other_call part.shared (part.here ∷ part.after_here) (subst (λ vs. AreDistinct (indexes vs)) part.first_visits differ_before)
        added.visit part.here has (in_head part.here part.after_here) (ap (λ (v : Visit). v.index) (sym same_call)))
        (λ has. other_call earlier (added.visit ∷ behind.after)
        (subst (λ vs. AreDistinct (indexes vs)) parts (subst (λ vs. AreDistinct (indexes vs)) part.first_visits differ_before))
        part.here added.visit has (in_head added.visit behind.after) (ap (λ (v : Visit). v.index) same_call)) early))
        (same_cut part.shared part.after_here earlier behind.after part.here added.visit parts)
      where
        tail_of : (xs ys : List Visit) (x y : Visit) → x ∷ xs ≡ y ∷ ys → xs ≡ ys
        tail_of xs ys x y same = cc

    behind_quiet : AreQuiet (part.here ∷ part.after_here)
    behind_quiet visit given has is =
        let behind = split (begun_after_plan plan met.went.visits) added.visit added.there in
        let placed : Contains (added.visit ∷ behind.after) visit =
        in_same visit _ _ (λ i. same_call i ∷ cut_behind behind i) has in
        after.quiet visit given (in_same visit _ _ (sym behind.is) (Contains-append_right behind.before (added.visit ∷ behind.after) visit placed)) is

    shared_injected : injections_in part.shared ≡ plan
    shared_injected =
        sym (append-nil (injections_in part.shared))
        ∙ ap (λ faults. injections_in part.shared ++ faults) (sym (quiet-none (part.here ∷ part.after_here) behind_quiet))
        ∙ sym (injections_append part.shared (part.here ∷ part.after_here)) ∙ ap injections_in (sym part.first_visits) ∙ met.injected

    -- nothing more is injected behind the added fault
    later_quiet : AreQuiet part.after_there
    later_quiet visit given has is =
        let there = in_tail visit part.there part.after_there has in
        let whole = in_same visit _ _ (sym part.second_visits) (Contains-append_right part.shared (part.there ∷ part.after_there) visit there) in
        let differ = subst (λ vs. AreDistinct (indexes vs)) part.second_visits differ_after in
        let planned = subst (λ faults. Contains faults (fault_of visit.index given)) added.is (injected_in_plan gives runs choices lawful n longer went done visit given whole is) in
        ⊎_elim
        (λ early. (let call = injections_have part.shared (fault_of visit.index given) (in_same _ _ _ (sym shared_injected) early) in
        other_call part.shared (part.there ∷ part.after_there) differ call.visit visit call.there there call.index))
        (λ late. ⊎_elim
        (λ same. (distinct_right (indexes part.shared) (indexes (part.there ∷ part.after_there))
        (subst AreDistinct (map-append (λ (v : Visit). v.index) part.shared (part.there ∷ part.after_there)) differ)).0
        (subst (Contains (indexes part.after_there)) (ap (λ (f : Fault). f.index) (sym same) ∙ ap (λ (f : Fault). f.index) is_added)
        (in_map (λ (v : Visit). v.index) visit part.after_there has)))
        (λ none. in_none (fault_of visit.index given) none) (in_cases (fault_of visit.index given) add [] late))
        (Contains-append_cases plan (add ∷ []) (fault_of visit.index given) planned)

    extension_injected : injections_in went.visits ≡ longer
    extension_injected =
        ap injections_in part.second_visits ∙ injections_append part.shared (part.there ∷ part.after_there)
        ∙ ap (λ faults. injections_in part.shared ++ faults)
        (filter_map_some injection_of part.there part.after_there (fault_of part.there.index parted_there.given) (injection_some part.there parted_there.given parted_there.answered)
        ∙ ap (λ faults. fault_of part.there.index parted_there.given ∷ faults) (quiet-none part.after_there later_quiet))
        ∙ ap (λ faults. faults ++ fault_of part.there.index parted_there.given ∷ []) shared_injected
        ∙ ap (λ f. plan ++ f ∷ []) (sym is_added) ∙ sym added.is

    extension_chosen : (visit : Visit) (given : Reply) → Contains went.visits visit → visit.fault ≡ Some given → Contains (choices visit.callee) given
    extension_chosen visit given has is =
        ⊎_elim
        (λ shared. met.chosen visit given (in_same visit _ _ (sym part.first_visits) (Contains-append_left part.shared (part.here ∷ part.after_here) visit shared)) is)
        (λ later. ⊎_elim
        (λ same. (
        let reply : given ≡ added.given = same_Some given added.given (sym is ∙ ap (λ (v : Visit). v.fault) (sym same) ∙ parted_there.answered ∙ ap (λ (f : Fault). Some f.reply) (sym is_added)) in
        let callee : added.visit.callee ≡ visit.callee = ap (λ (v : Visit). v.callee) (sym same_call) ∙ part.same_callee ∙ ap (λ (v : Visit). v.callee) same in
        subst (λ m. Contains (choices m) given) callee (subst (Contains (choices added.visit.callee)) (sym reply) added.chosen)))
        (λ quiet. absurd (later_quiet visit given quiet is)) (in_cases visit part.there part.after_there later))
        (Contains-append_cases part.shared (part.there ∷ part.after_there) visit (in_same visit _ _ part.second_visits has))

  pub extension_met : IsMet runs choices n longer
  extension_met =
      ⊎_elim (λ same. absurd (extension_parts same))
      (λ part. record { went = went; done = done; injected = extension_injected part; chosen = extension_chosen part })
      (lawful.alike n plan longer met.went went met.done done)
