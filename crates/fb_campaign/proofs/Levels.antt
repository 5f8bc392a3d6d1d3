-- The plans of a campaign are the met ones, each once.
use Rattle.std.proofs.Common.{◌≡◌, ◌↔◌, ⊎_elim, ℕ, zero, suc, ◌<◌, ◌≤◌, Bool, true, false, Option, Some, None, List, [], ◌∷◌, ◌++◌, length, slice_get, Contains, refl, sym, ap, ◌∙◌, subst, arith, append_assoc, append-nil, map-id, length-append}
use Rattle.std.specs.Option.{option_map_or}
use Rattle.std.specs.List.{last_or}
use Rattle.std.proofs.lemmas.List.{same_from_push, length_push}
use Rattle.std.proofs.lemmas.Option.{same_Some}
use Rattle.std.proofs.lemmas.Bool.{cases_lt}
use Rattle.std.proofs.lemmas.List.Elements.{Contains-append_left, Contains-append_right, Contains-append_cases}
use Rattle.fb_index.specs.Entry.{Occurrence}
use Rattle.fb_index.specs.Index.{same_index}
use Rattle.fb_index.specs.declared.fault.Fault.{Fault}
use Rattle.fb_tree.specs.Calls.{injection_of}
use Rattle.fb_tree.specs.declared.visit.Visit.{Visit}
use Rattle.fb_campaign.specs.Runs.{Went, Runs, Gives, Choices, AreDistinct, is_between_services, AreLawful, AreChoices}
use Rattle.fb_campaign.specs.Plans.{injections_in, IsMet, begun_after, begun_after_plan, between_services, extensions_at, extensions_of, extensions, level, levels_to, plans, EachEnds}
use Rattle.fb_campaign.proofs.Lists.{in_none, in_head, in_tail, in_cases, in_same, get_left, map_has, in_flat_map, flat_map_has, filter_map-fewer, nothing_in, distinct_append, distinct_map, distinct_filter, distinct_flat_map}
use Rattle.fb_campaign.proofs.Answers.{fault_of, injections_append, indexes}
use Rattle.fb_campaign.proofs.Extending.{begun_at, after_plan, ExtendedAt, extended_at}
use Rattle.fb_campaign.proofs.Meeting.{quiet-none, injected_in_plan, front_met, extension_met}

-- ---- what extends a plan

pub record Extended (runs : Runs) (choices : Choices) (n : ℕ) (plan longer : List Fault) : Type 0 where
  pub went : Went
  pub done : runs n plan ≡ Some went
  pub added : ExtendedAt choices went.visits plan longer

module _ (runs : Runs) (choices : Choices) (n : ℕ) (plan longer : List Fault) where
  extended_by : (o : Option Went) → runs n plan ≡ o → Contains (extensions runs choices n plan) longer → Extended runs choices n plan longer
  extended_by None is has =
      in_none longer (subst (λ o. Contains (option_map_or (λ (w : Went). extensions_of choices w.visits plan) o []) longer) is has)
  extended_by (Some went) is has = record {
    went = went;
    done = is;
    added = extended_at choices went.visits plan longer
        (subst (λ o. Contains (option_map_or (λ (w : Went). extensions_of choices w.visits plan) o []) longer) is has);
  }

  pub extended : Contains (extensions runs choices n plan) longer → Extended runs choices n plan longer
  extended has = extended_by (runs n plan) refl has

-- a plan extends one plan at most
pub one_plan : (runs : Runs) (choices : Choices) (n m : ℕ) (p q longer : List Fault) → Contains (extensions runs choices n p) longer
    → Contains (extensions runs choices m q) longer → p ≡ q
one_plan runs choices n m p q longer first second =
    let one = (extended runs choices n p longer first).added in
    let two = (extended runs choices m q longer second).added in
    (same_from_push p q (fault_of one.visit.index one.given) (fault_of two.visit.index two.given) (sym one.is ∙ two.is)).0

-- ---- the levels

module _ (runs : Runs) (choices : Choices) (n : ℕ) where
  pub in_levels : (k m : ℕ) (plan : List Fault) → k ≤ m → Contains (level runs choices n k) plan → Contains (levels_to runs choices n m) plan
  unfolding levels_to
  in_levels k zero plan below has = subst (λ j. Contains (level runs choices n j) plan) (let none : k ≡ 0 = omega (arith, below) in none) has
  in_levels k (suc m) plan below has =
      ⊎_elim (λ less. Contains-append_left (levels_to runs choices n m) (level runs choices n (suc m)) plan (in_levels k m plan (omega (arith, less)) has))
      (λ most. Contains-append_right (levels_to runs choices n m) (level runs choices n (suc m)) plan
      (subst (λ j. Contains (level runs choices n j) plan) (let same : k ≡ suc m = omega (arith, below, most) in same) has))
      (cases_lt k (suc m))

  pub record AtLevel (m : ℕ) (plan : List Fault) : Type 0 where
    pub count : ℕ
    pub within : count ≤ m
    pub has : Contains (level runs choices n count) plan

  pub at_level : (m : ℕ) (plan : List Fault) → Contains (levels_to runs choices n m) plan → AtLevel m plan
  unfolding levels_to
  at_level zero plan has = record { count = 0; within = omega arith; has = has }
  at_level (suc m) plan has =
      ⊎_elim (λ early. (let found = at_level m plan early in record { count = found.count; within = (let w = found.within in omega (arith, w)); has = found.has }))
      (λ last. record { count = suc m; within = omega arith; has = last })
      (Contains-append_cases (levels_to runs choices n m) (level runs choices n (suc m)) plan has)

  -- a plan of the next level extends one of this level
  pub above_level : (k : ℕ) (longer : List Fault) → Contains (level runs choices n (suc k)) longer
      → (plan : List Fault) × Contains (level runs choices n k) plan × Contains (extensions runs choices n plan) longer
  unfolding level
  above_level k longer has = flat_map_has (extensions runs choices n) longer (level runs choices n k) has

  pub next_level : (k : ℕ) (plan longer : List Fault) → Contains (level runs choices n k) plan → Contains (extensions runs choices n plan) longer
      → Contains (level runs choices n (suc k)) longer
  unfolding level
  next_level k plan longer has added = in_flat_map (extensions runs choices n) plan longer (level runs choices n k) has added

  pub no_fault : (plan : List Fault) → Contains (level runs choices n 0) plan → plan ≡ []
  unfolding level
  no_fault plan has = ⊎_elim (λ same. sym same) (λ none. in_none plan none) (in_cases plan [] [] has)

  root_level : Contains (level runs choices n 0) []
  unfolding level
  root_level = in_head [] []

  level_count : (k : ℕ) (plan : List Fault) → Contains (level runs choices n k) plan → length plan ≡ k
  level_count zero plan has = ap length (no_fault plan has)
  level_count (suc k) plan has =
      let up = above_level k plan has in
      let added = (extended runs choices n up.0 plan up.2).added in
      let counted = level_count k up.0 up.1 in
      let longer = ap length added.is ∙ length_push up.0 (fault_of added.visit.index added.given) in
      omega (arith, counted, longer)

module _ (gives : Gives) (runs : Runs) (choices : Choices) (lawful : AreLawful gives runs) where
  -- the empty plan is met where its run ends
  pub root_met : (n : ℕ) (went : Went) → runs n [] ≡ Some went → IsMet runs choices n []
  root_met n went done = record {
    went = went;
    done = done;
    injected = quiet-none went.visits (λ visit given has is. in_none (fault_of visit.index given) (injected_in_plan gives runs choices lawful n [] went done visit given has is));
    chosen = λ visit given has is. in_none (fault_of visit.index given) (injected_in_plan gives runs choices lawful n [] went done visit given has is);
  }

  met_count : (n : ℕ) (plan : List Fault) → IsMet runs choices n plan → length plan ≤ n
  met_count n plan met =
      let fewer = filter_map-fewer injection_of met.went.visits in
      let few = lawful.few_calls n plan met.went met.done in
      let same = ap length met.injected in
      omega (arith, fewer, few, same)

  -- ---- every met plan is in the levels

  met_further : (n : ℕ) → EachEnds runs choices n → (before after : List Fault) → IsMet runs choices n (before ++ after)
      → Contains (level runs choices n (length before)) before → Contains (level runs choices n (length (before ++ after))) (before ++ after)
  met_further n ends before [] met has =
      subst (λ plan. Contains (level runs choices n (length plan)) plan) (sym (append-nil before)) has
  met_further n ends before (fault ∷ after) met has =
      let whole = met_count n (before ++ fault ∷ after) met in
      let parts = length-append before (fault ∷ after) in
      let within : length before ≤ n = omega (arith, whole, parts) in
      let done = ends before (in_levels runs choices n (length before) n before within has) in
      let added = (front_met gives runs choices lawful n before fault after met done.0 done.1).1 in
      let next = next_level runs choices n (length before) before (before ++ fault ∷ []) has added in
      let counted = subst (λ k. Contains (level runs choices n k) (before ++ fault ∷ [])) (sym (level_count runs choices n (suc (length before)) (before ++ fault ∷ []) next)) next in
      let same = append_assoc before (fault ∷ []) after in
      subst (λ plan. Contains (level runs choices n (length plan)) plan) same
      (met_further n ends (before ++ fault ∷ []) after (subst (IsMet runs choices n) (sym same) met) counted)

  pub met_planned : (n : ℕ) → EachEnds runs choices n → (plan : List Fault) → IsMet runs choices n plan → Contains (plans runs choices n) plan
  met_planned n ends plan met =
      in_levels runs choices n (length plan) n plan (met_count n plan met) (met_further n ends [] plan met (root_level runs choices n))

  module _ (fitting : AreChoices gives choices) where
    -- what extends a met plan is met where its run ends
    pub met_extended : (n : ℕ) (plan longer : List Fault) → IsMet runs choices n plan → Contains (extensions runs choices n plan) longer
        → (went : Went) → runs n longer ≡ Some went → IsMet runs choices n longer
    met_extended n plan longer met has went done =
        let found = extended runs choices n plan longer has in
        let same = same_Some found.went met.went (sym found.done ∙ met.done) in
        extension_met gives runs choices lawful fitting n plan longer met went done
        (subst (λ (w : Went). ExtendedAt choices w.visits plan longer) same found.added)

    -- ---- each plan of the levels is met where its run ends

    level_met : (n k : ℕ) (plan : List Fault) → Contains (level runs choices n k) plan → (went : Went) → runs n plan ≡ Some went → IsMet runs choices n plan
    level_met n zero plan has went done =
        let none = no_fault runs choices n plan has in
        subst (IsMet runs choices n) (sym none) (root_met n went (ap (runs n) (sym none) ∙ done))
    level_met n (suc k) plan has went done =
        let up = above_level runs choices n k plan has in
        let longer = extended runs choices n up.0 plan up.2 in
        met_extended n up.0 plan (level_met n k up.0 up.1 longer.went longer.done) up.2 went done

    pub planned_met : (n : ℕ) (plan : List Fault) → Contains (plans runs choices n) plan → (went : Went) → runs n plan ≡ Some went → IsMet runs choices n plan
    planned_met n plan has went done =
        let found = at_level runs choices n n plan has in level_met n found.count plan found.has went done

    -- ---- a level has so many calls at least

    pub level_within : (n k : ℕ) (plan : List Fault) → Contains (level runs choices n k) plan → k ≤ n
    level_within n zero plan has = omega arith
    level_within n (suc k) plan has =
        let up = above_level runs choices n k plan has in
        let longer = extended runs choices n up.0 plan up.2 in
        let met = level_met n k up.0 up.1 longer.went longer.done in
        let same = same_Some longer.went met.went (sym longer.done ∙ met.done) in
        let added = subst (λ (w : Went). ExtendedAt choices w.visits up.0 plan) same longer.added in
        let after = after_plan met.went.visits (lawful.indexes_differ n up.0 met.went met.done) up.0 added.visit met.injected added.there in
        let begun = begun_after_plan up.0 met.went.visits in
        let faults = ap length (sym met.injected ∙ ap injections_in after.is ∙ injections_append after.before begun ∙ ap (λ fs. injections_in after.before ++ fs) (quiet-none begun after.quiet) ∙ append-nil (injections_in after.before)) in
        let fewer = filter_map-fewer injection_of after.before in
        let calls = ap length after.is ∙ length-append after.before begun in
        let some = added.there.1 in
        let few = lawful.few_calls n up.0 met.went met.done in
        let counted = level_count runs choices n k up.0 up.1 in
        omega (arith, faults, fewer, calls, some, few, counted)

    pub no_level : (n k : ℕ) → n < k → level runs choices n k ≡ []
    no_level n k beyond = nothing_in (level runs choices n k) (λ plan has. (let within = level_within n k plan has in absurd (omega (arith, within, beyond))))

    -- ---- each once

    begun_differ : (index : List Occurrence) (visits : List Visit) → AreDistinct (indexes visits) → AreDistinct (indexes (begun_after index visits))
    begun_differ index [] all = tt
    begun_differ index (visit ∷ visits) all = further (same_index visit.index index) refl (begun_differ index visits all.1)
      where
        further : (b : Bool) → same_index visit.index index ≡ b → AreDistinct (indexes (begun_after index visits)) → AreDistinct (indexes (begun_after index (visit ∷ visits)))
        further true is rest = subst (λ vs. AreDistinct (indexes vs)) (sym (begun_at index visit visits true is)) all.1
        further false is rest = subst (λ vs. AreDistinct (indexes vs)) (sym (begun_at index visit visits false is)) rest

    begun_plan_differ : (visits : List Visit) (o : Option Fault) → AreDistinct (indexes visits)
        → AreDistinct (indexes (option_map_or (λ (fault : Fault). begun_after fault.index visits) o visits))
    begun_plan_differ visits None all = all
    begun_plan_differ visits (Some fault) all = begun_differ fault.index visits all

    one_fault : (plan : List Fault) (a b : Fault) → plan ++ a ∷ [] ≡ plan ++ b ∷ [] → a ≡ b
    one_fault plan a b same = (same_from_push plan plan a b same).1

    extensions_of_differ : (visits : List Visit) (plan : List Fault) → AreDistinct (indexes visits) → AreDistinct (extensions_of choices visits plan)
    extensions_of_differ visits plan all =
        distinct_flat_map (λ (v : Visit). v.index) (extensions_at choices plan) (between_services (begun_after_plan plan visits))
        (distinct_filter (λ (v : Visit). v.index) (λ (v : Visit). is_between_services v.index) (begun_after_plan plan visits)
        (begun_plan_differ visits (last_or None plan) all))
        (λ visit. distinct_map (λ given. plan ++ fault_of visit.index given ∷ []) (choices visit.callee)
        (λ r s same. ap (λ (f : Fault). f.reply) (one_fault plan (fault_of visit.index r) (fault_of visit.index s) same)) (fitting.differ visit.callee))
        (λ v w longer first second. (
        let one = map_has (λ given. plan ++ fault_of v.index given ∷ []) longer (choices v.callee) first in
        let two = map_has (λ given. plan ++ fault_of w.index given ∷ []) longer (choices w.callee) second in
        ap (λ (f : Fault). f.index) (one_fault plan (fault_of v.index one.0) (fault_of w.index two.0) (one.2 ∙ sym two.2))))

    extensions_differ : (n : ℕ) (plan : List Fault) (o : Option Went) → runs n plan ≡ o → AreDistinct (extensions runs choices n plan)
    extensions_differ n plan None is = subst (λ o. AreDistinct (option_map_or (λ (w : Went). extensions_of choices w.visits plan) o [])) (sym is) tt
    extensions_differ n plan (Some went) is =
        subst (λ o. AreDistinct (option_map_or (λ (w : Went). extensions_of choices w.visits plan) o [])) (sym is)
        (extensions_of_differ went.visits plan (lawful.indexes_differ n plan went is))

    level_differ : (n k : ℕ) → AreDistinct (level runs choices n k)
    unfolding level
    level_differ n zero = (λ none. in_none [] none, tt)
    level_differ n (suc k) =
        distinct_flat_map (λ (plan : List Fault). plan) (extensions runs choices n) (level runs choices n k)
        (subst AreDistinct (sym (map-id (level runs choices n k))) (level_differ n k))
        (λ plan. extensions_differ n plan (runs n plan) refl)
        (λ p q longer first second. one_plan runs choices n n p q longer first second)

    levels_differ : (n m : ℕ) → AreDistinct (levels_to runs choices n m)
    unfolding levels_to
    levels_differ n zero = level_differ n zero
    levels_differ n (suc m) =
        distinct_append (levels_to runs choices n m) (level runs choices n (suc m)) (levels_differ n m) (level_differ n (suc m))
        (λ plan early late. (
        let found = at_level runs choices n m plan early in
        let one = level_count runs choices n found.count plan found.has in
        let two = level_count runs choices n (suc m) plan late in
        let within = found.within in
        absurd (omega (arith, one, two, within))))

    pub plans_differ : (n : ℕ) → AreDistinct (plans runs choices n)
    plans_differ n = levels_differ n n

    pub planned_or_met : (n : ℕ) → EachEnds runs choices n → (plan : List Fault) → Contains (plans runs choices n) plan ↔ IsMet runs choices n plan
    planned_or_met n ends plan =
        (λ has. (let done = ends plan has in planned_met n plan has done.0 done.1), met_planned n ends plan)

-- ---- their order: by how many faults they have

abbrev AreRising : List (List Fault) → Type 0
AreRising [] = Unit {0}
AreRising (plan ∷ plans) = ((later : List Fault) → Contains plans later → length plan ≤ length later) × AreRising plans

rising_append : (xs ys : List (List Fault)) → AreRising xs → AreRising ys → ((x y : List Fault) → Contains xs x → Contains ys y → length x ≤ length y) → AreRising (xs ++ ys)
rising_append [] ys one two across = two
rising_append (x ∷ xs) ys one two across = (
  λ later has. ⊎_elim (λ here. one.0 later here) (λ there. across x later (in_head x xs) there) (Contains-append_cases xs ys later has),
  rising_append xs ys one.1 two (λ y z here there. across y z (in_tail y x xs here) there),
)

rising_behind : (before after : List (List Fault)) (plan later : List Fault) → AreRising (before ++ plan ∷ after) → Contains after later → length plan ≤ length later
rising_behind [] after plan later all has = all.0 later has
rising_behind (first ∷ before) after plan later all has = rising_behind before after plan later all.1 has

rising_level : (k : ℕ) (xs : List (List Fault)) → ((x : List Fault) → Contains xs x → length x ≡ k) → AreRising xs
rising_level k [] each = tt
rising_level k (x ∷ xs) each = (
  λ later has. (let one = each x (in_head x xs) in let two = each later (in_tail later x xs has) in omega (arith, one, two)),
  rising_level k xs (λ y has. each y (in_tail y x xs has)),
)

module _ (runs : Runs) (choices : Choices) (n : ℕ) where
  rising_levels : (m : ℕ) → AreRising (levels_to runs choices n m)
  unfolding levels_to
  rising_levels zero = rising_level 0 (level runs choices n 0) (λ plan has. level_count runs choices n 0 plan has)
  rising_levels (suc m) =
      rising_append (levels_to runs choices n m) (level runs choices n (suc m)) (rising_levels m)
      (rising_level (suc m) (level runs choices n (suc m)) (λ plan has. level_count runs choices n (suc m) plan has))
      (λ plan longer early late. (
      let found = at_level runs choices n m plan early in
      let one = level_count runs choices n found.count plan found.has in
      let two = level_count runs choices n (suc m) longer late in
      let within = found.within in
      omega (arith, one, two, within)))

  -- a plan comes before what extends it
  pub earlier_plan : (before after : List (List Fault)) (plan longer : List Fault) → plans runs choices n ≡ before ++ longer ∷ after
      → Contains (plans runs choices n) plan → Contains (extensions runs choices n plan) longer → Contains before plan
  earlier_plan before after plan longer parts has added =
      let one = (extended runs choices n plan longer added).added in
      let more = ap length one.is ∙ length_push plan (fault_of one.visit.index one.given) in
      ⊎_elim (λ here. here)
      (λ late. absurd (⊎_elim (λ same. (let alike = ap length same in omega (arith, more, alike)))
      (λ behind. (let least = rising_behind before after longer plan (subst AreRising parts (rising_levels n)) behind in omega (arith, more, least)))
      (in_cases plan longer after late)))
      (Contains-append_cases before (longer ∷ after) plan (in_same plan _ _ parts has))

  pub first_plan : (m : ℕ) → slice_get (levels_to runs choices n m) 0 ≡ Some []
  unfolding levels_to level
  first_plan zero = refl
  first_plan (suc m) = get_left (levels_to runs choices n m) (level runs choices n (suc m)) 0 [] (first_plan m)
