-- The plans that wait for their turn come next.
use Rattle.std.proofs.Common.{◌≡◌, ℕ, zero, suc, ◌≤◌, Some, List, [], ◌∷◌, ◌++◌, flat_map, length, slice_get, Contains, refl, sym, ap, ◌∙◌, subst, arith, append_assoc, append-nil}
use Rattle.std.proofs.lemmas.Grind.{flat_map-append}
use Rattle.std.proofs.lemmas.List.{append_cancel_left, length_push}
use Rattle.fb_index.specs.declared.fault.Fault.{Fault}
use Rattle.fb_campaign.specs.Runs.{Runs, Gives, Choices, AreDistinct, AreLawful, AreChoices}
use Rattle.fb_campaign.specs.Plans.{extensions, level, levels_to, plans}
use Rattle.fb_campaign.specs.Reports.{Planned, Line, plan_lines, plans_in}
use Rattle.fb_campaign.specs.Campaign.{same_plan, parent_in}
use Rattle.fb_campaign.specs.Waiting.{Wait, ComeNext}
use Rattle.fb_campaign.proofs.Lists.{in_same, in_get, flat_map_has, get_map, map_get, nothing_in, one_place}
use Rattle.fb_campaign.proofs.Sameness.{same_plan-Decides}
use Rattle.fb_campaign.proofs.Answers.{fault_of}
use Rattle.fb_campaign.proofs.Levels.{extended, no_level}
use Rattle.fb_campaign.proofs.Records.{position_found}
use Rattle.fb_campaign.proofs.Completion.{parent_of}

module _ (runs : Runs) (choices : Choices) (fuel : ℕ) where
  abbrev extend : List (List Fault) → List (List Fault)
  extend = flat_map (extensions runs choices fuel)

  -- what extends the plans of some levels is those of the next ones
  levels_extended : (m : ℕ) → [] ∷ extend (levels_to runs choices fuel m) ≡ levels_to runs choices fuel m ++ level runs choices fuel (suc m)
  unfolding levels_to level
  levels_extended zero = refl
  levels_extended (suc m) =
      ap (λ ps. [] ∷ ps) (flat_map-append (extensions runs choices fuel) (levels_to runs choices fuel m) (level runs choices fuel (suc m)))
      ∙ ap (λ ps. ps ++ extend (level runs choices fuel (suc m))) (levels_extended m)

  longer_by_one : (plan longer : List Fault) → Contains (extensions runs choices fuel plan) longer → length longer ≡ suc (length plan)
  longer_by_one plan longer has =
      let added = (extended runs choices fuel plan longer has).added in
      let more = ap length added.is ∙ length_push plan (fault_of added.visit.index added.given) in
      omega (arith, more)

  -- plans that extend one another alone have any number of faults
  long : (rest : List (List Fault)) → rest ≡ extend rest → (n : ℕ) (plan : List Fault) → Contains rest plan → n ≤ length plan
  long rest same zero plan has = omega arith
  long rest same (suc n) plan has =
      let up = flat_map_has (extensions runs choices fuel) plan rest (in_same plan _ _ same has) in
      let more = longer_by_one up.0 plan up.2 in
      let less = long rest same n up.0 up.1 in
      omega (arith, more, less)

  none_left : (rest : List (List Fault)) → rest ≡ extend rest → rest ≡ []
  none_left rest same =
      nothing_in rest (λ plan has. (let more = long rest same (suc (length plan)) plan has in absurd (omega (arith, more))))

  module _ (whole : [] ∷ extend (plans runs choices fuel) ≡ plans runs choices fuel) (past waiting rest : List (List Fault))
      (cut : plans runs choices fuel ≡ past ++ rest) (wait : Wait runs choices fuel past waiting) where
    left : rest ≡ waiting ++ extend rest
    left = append_cancel_left past rest (waiting ++ extend rest)
        (sym cut ∙ sym whole ∙ ap (λ ps. [] ∷ extend ps) cut ∙ ap (λ ps. [] ∷ ps) (flat_map-append (extensions runs choices fuel) past rest)
        ∙ ap (λ ps. ps ++ extend rest) (sym wait) ∙ append_assoc past waiting (extend rest))

    next : ComeNext waiting rest
    next = record {
      behind = extend rest;
      first = left;
      last = λ none. none_left rest (left ∙ ap (λ ps. ps ++ extend rest) none);
    }

pub come_next : (gives : Gives) (runs : Runs) (choices : Choices) → AreLawful gives runs → AreChoices gives choices
    → (fuel : ℕ) (past waiting rest : List (List Fault)) → plans runs choices fuel ≡ past ++ rest → Wait runs choices fuel past waiting
    → ComeNext waiting rest
come_next gives runs choices lawful fitting fuel past waiting rest cut wait =
    next runs choices fuel
    (levels_extended runs choices fuel fuel ∙ ap (λ ps. plans runs choices fuel ++ ps) (no_level gives runs choices lawful fitting fuel (suc fuel) (omega arith))
    ∙ append-nil (plans runs choices fuel))
    past waiting rest cut wait

pub parent_numbered : (lines : List Line) (plan : List Fault) (fault : Fault) (number : ℕ) → AreDistinct (plans_in lines)
    → slice_get (plans_in lines) number ≡ Some plan → parent_in lines (plan ++ fault ∷ []) ≡ Some number
parent_numbered lines plan fault number differ there =
    let line = map_get (λ (p : Planned). p.plan) (plan_lines lines) number plan there in
    let found = position_found (λ (p : Planned). same_plan p.plan plan) line.0 (plan_lines lines) (in_get (plan_lines lines) number line.0 line.1) ((same_plan-Decides line.0.plan plan).1 line.2) in
    let same = (same_plan-Decides found.2.0.plan plan).0 found.2.2 in
    let placed = get_map (λ (p : Planned). p.plan) (plan_lines lines) found.0 found.2.0 found.2.1 ∙ ap Some same in
    parent_of lines plan fault ∙ found.1 ∙ ap Some (one_place (plans_in lines) found.0 number plan differ placed there)
