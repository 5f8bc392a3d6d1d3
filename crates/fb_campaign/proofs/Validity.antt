-- A valid report is true.
use Rattle.std.proofs.Common.{◌≡◌, ℕ, zero, suc, ◌+◌, ◌<◌, ◌≤◌, Bool, false, Some, List, [], ◌∷◌, ◌++◌, length, slice_get, Contains, sym, ap, ◌∙◌, subst, arith, append_assoc, append-nil}
use Rattle.std.proofs.lemmas.Option.{same_Some}
use Rattle.std.proofs.lemmas.List.Elements.{filter_map-append}
use Rattle.fb_index.specs.declared.fault.Fault.{Fault}
use Rattle.fb_tree.specs.declared.recorded.Record.{Record}
use Rattle.fb_campaign.specs.Runs.{Went, Runs, Gives, Choices, AreLawful, AreChoices}
use Rattle.fb_campaign.specs.Plans.{IsMet, extensions_of, extensions}
use Rattle.fb_campaign.specs.Reports.{Planned, Completed, Line, PlanLine, EndLine, plan_of_line, plan_lines, plans_in, totals_of}
use Rattle.fb_campaign.specs.Valid.{IsSpelled, IsValid}
use Rattle.fb_campaign.specs.Truth.{HasOneLine, IsMetAsSaid, IsShown, IsTrueReport}
use Rattle.fb_campaign.proofs.Lists.{in_same, in_get, get_in, some_first, in_map, map_has, Split, one_place}
use Rattle.fb_campaign.proofs.Uses.{Names, names_above, shown_at, plan_split}
use Rattle.fb_campaign.proofs.Meeting.{extensions_done, front_met}
use Rattle.fb_campaign.proofs.Levels.{root_met, met_extended}

module _ (gives : Gives) (runs : Runs) (choices : Choices) (lawful : AreLawful gives runs) (fitting : AreChoices gives choices)
    (fuel : ℕ) (reduction : Bool) (lines : List Line) (valid : IsValid runs choices fuel reduction lines) where
  abbrev pub Spelled : Planned → Type 0
  Spelled line = (spelled : Split lines (PlanLine line)) × IsSpelled runs fuel spelled.before line

  pub spelled : (line : Planned) → Contains (plan_lines lines) line → Spelled line
  spelled line has = (let parts = plan_split lines line has in (parts, valid.trees parts.before line parts.after parts.is))

  -- ---- each plan line's plan is met

  met_at : (below number : ℕ) (line : Planned) → number < below → slice_get (plan_lines lines) number ≡ Some line → IsMet runs choices fuel line.plan
  met_at zero number line less there = absurd (omega (arith, less))
  met_at (suc below) zero line less there =
      let root = valid.parents.root line there in
      let here = (spelled line (in_get (plan_lines lines) 0 line there)).1 in
      subst (IsMet runs choices fuel) (sym root.no_fault)
      (root_met gives runs choices lawful fuel here.went (ap (runs fuel) (sym root.no_fault) ∙ here.done))
  met_at (suc below) (suc number) line less there =
      let child = valid.parents.child number line there in
      let here = (spelled line (in_get (plan_lines lines) (suc number) line there)).1 in
      let up = (spelled child.parent (in_get (plan_lines lines) child.place child.parent child.there)).1 in
      let met = met_at below child.place child.parent (let earlier = child.earlier in omega (arith, less, earlier)) child.there in
      let extends : Contains (extensions runs choices fuel child.parent.plan) line.plan =
      in_same line.plan _ _ (sym (extensions_done gives runs choices lawful fuel child.parent.plan up.went up.done))
      (subst (λ visits. Contains (extensions_of choices visits child.parent.plan) line.plan) up.visits child.extended) in
      met_extended gives runs choices lawful fitting fuel child.parent.plan line.plan met extends here.went here.done

  pub line_met : (line : Planned) → Contains (plan_lines lines) line → IsMet runs choices fuel line.plan
  line_met line has = (let place = get_in (plan_lines lines) line has in met_at (suc place.0) place.0 line (omega arith) place.1)

  -- with more fuel it is the same run
  more_met : (n m : ℕ) (plan : List Fault) → n ≤ m → IsMet runs choices n plan → IsMet runs choices m plan
  more_met n m plan more met = record {
    went = met.went;
    done = lawful.more_fuel n m plan met.went more met.done;
    injected = met.injected;
    chosen = met.chosen;
  }

  met_as_said : (line : Planned) → Contains (plan_lines lines) line → IsMetAsSaid runs choices fuel line
  met_as_said line has =
      let met = line_met line has in
      record {
        met = λ more beyond. more_met fuel more line.plan beyond met;
        outcome = λ more went beyond done. (
            let same = same_Some met.went went (sym (lawful.more_fuel fuel more line.plan met.went beyond met.done) ∙ done) in
            valid.outcomes line met.went has met.done ∙ ap (λ (w : Went). w.outcome) same);
      }

  -- ---- each met plan has a line

  some_line : (line : Planned) × (slice_get (plan_lines lines) 0 ≡ Some line)
  some_line =
      let body = valid.structure.body in
      let parts = ap plan_lines valid.structure.ended ∙ filter_map-append plan_of_line body (EndLine Completed (totals_of body) ∷ []) ∙ append-nil (plan_lines body) in
      some_first (plan_lines lines) (subst (λ planned. 0 < length planned) (sym parts) valid.structure.some_plan)

  front_line : (n : ℕ) → fuel ≤ n → (before after : List Fault) → IsMet runs choices n (before ++ after) → Contains (plans_in lines) before
      → Contains (plans_in lines) (before ++ after)
  front_line n beyond before [] met has = in_same_plan (sym (append-nil before)) has
    where
      in_same_plan : (before ≡ before ++ []) → Contains (plans_in lines) before → Contains (plans_in lines) (before ++ [])
      in_same_plan same there = subst (Contains (plans_in lines)) same there
  front_line n beyond before (fault ∷ after) met has =
      let line = map_has (λ (p : Planned). p.plan) before (plan_lines lines) has in
      let here = (spelled line.0 line.1).1 in
      let done_here = ap (runs fuel) (sym line.2) ∙ here.done in
      let done = lawful.more_fuel fuel n before here.went beyond done_here in
      let added = (front_met gives runs choices lawful n before fault after met here.went done).1 in
      let extends : Contains (extensions_of choices line.0.visits line.0.plan) (before ++ fault ∷ []) =
      subst (λ visits. Contains (extensions_of choices visits line.0.plan) (before ++ fault ∷ [])) (sym here.visits)
      (subst (λ plan. Contains (extensions_of choices here.went.visits plan) (before ++ fault ∷ [])) (sym line.2)
      (in_same (before ++ fault ∷ []) _ _ (extensions_done gives runs choices lawful n before here.went done) added)) in
      let next = valid.complete line.0 (before ++ fault ∷ []) line.1 extends in
      let same = append_assoc before (fault ∷ []) after in
      subst (Contains (plans_in lines)) same (front_line n beyond (before ++ fault ∷ []) after (subst (IsMet runs choices n) (sym same) met) next)

  one_line : (any : ℕ) (plan : List Fault) → IsMet runs choices any plan → HasOneLine lines plan
  one_line any plan met =
      let top : ℕ = any + fuel in
      let all = more_met any top plan (omega arith) met in
      let root = valid.parents.root some_line.0 some_line.1 in
      let first : Contains (plans_in lines) [] = subst (Contains (plans_in lines)) root.no_fault
      (in_map (λ (p : Planned). p.plan) some_line.0 (plan_lines lines) (in_get (plan_lines lines) 0 some_line.0 some_line.1)) in
      let has = front_line top (omega arith) [] plan all first in
      let place = get_in (plans_in lines) plan has in
      record {
        number = place.0;
        there = place.1;
        only = λ other there. one_place (plans_in lines) other place.0 plan valid.parents.once there place.1;
      }

  -- ---- what a pruned line follows from

  pub names : (line : Planned) → Contains (plan_lines lines) line → Names lines line.uses line.records
  names line has =
      let here = spelled line has in
      names_above lines here.0.before here.0.after (PlanLine line) here.0.is line.uses line.records here.1.used

  shown : (number : ℕ) (line : Planned) (went : Went) → slice_get (plan_lines lines) number ≡ Some line → line.is_run ≡ false → runs fuel line.plan ≡ Some went
      → (item : Record) → Contains went.records item → IsShown runs fuel lines number item
  shown number line went there pruned done item has =
      let here = spelled line (in_get (plan_lines lines) number line there) in
      let same = same_Some went here.1.went (sym done ∙ here.1.done) in
      let used = (names line (in_get (plan_lines lines) number line there)).named item
      (in_same item _ _ (ap (λ (w : Went). w.records) same ∙ sym here.1.records) has) in
      let by = shown_at lines valid.owners names used.0 item used.2 in
      let owner = spelled by.line (in_get (plan_lines lines) by.recorded.owner by.line by.there) in
      record {
        place = by.recorded.owner;
        line = by.line;
        went = owner.1.went;
        earlier = valid.owners.earlier number line there pruned used.0 by.recorded used.1 by.at;
        there = by.there;
        is_run = by.is_run;
        done = owner.1.done;
        shown = in_same item _ _ owner.1.records by.shown;
      }

  pub valid_true : IsTrueReport runs choices fuel lines
  valid_true = record { one_line = one_line; met = met_as_said; derived = shown }
