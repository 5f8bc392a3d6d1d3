-- The premises of the laws can be met.
use Rattle.std.proofs.Common.{◌≡◌, ◌↔◌, ◌⊎◌, inl, inr, ⊎_elim, ℕ, ◌≤◌, Bool, true, false, leb, Option, Some, None, List, [], ◌∷◌, map, length, Contains, refl, sym, ap, ◌∙◌, subst, arith}
use Rattle.std.proofs.lemmas.Bool.{leb-true, le-leb, cases_Bool, cond-true, cond-false}
use Rattle.std.proofs.lemmas.Option.{same_Some}
use Rattle.fb_base.specs.declared.reply.Reply.{Reply}
use Rattle.fb_base.specs.Replies.{same_reply, same_reply-Decides}
use Rattle.fb_index.specs.Entry.{Occurrence}
use Rattle.fb_index.specs.declared.fault.Fault.{Fault}
use Rattle.fb_tree.specs.declared.visit.Visit.{Visit}
use Rattle.fb_campaign.specs.Runs.{Went, AreDistinct, PartAtFault, answer_to, fits, AreLawful, AreChoices}
use Rattle.fb_campaign.specs.Plans.{IsMet, level, levels_to, plans, EachEnds}
use Rattle.fb_campaign.specs.Campaign.{campaign, campaign_from}
use Rattle.fb_campaign.specs.Example.{cart, price, cart_index, price_index, five, down, ints, down_or_five, visits_with, went_with, example_runs, example_plans, example_settings, example_report}
use Rattle.fb_campaign.proofs.Lists.{in_none, in_cases}
use Rattle.fb_campaign.proofs.Levels.{planned_or_met}

abbrev answer : List Fault → Option Reply
answer plan = answer_to ints plan price_index price

-- ---- where the run ends

ends_with : (fuel : ℕ) (plan : List Fault) (went : Went) (b : Bool) → leb 3 fuel ≡ b → example_runs fuel plan ≡ Some went → (3 ≤ fuel) × (went_with (answer plan) ≡ went)
ends_with fuel plan went true enough done =
    (leb-true 3 fuel enough, same_Some (went_with (answer plan)) went (sym (cond-true (leb 3 fuel) (Some (went_with (answer plan))) None enough) ∙ done))
ends_with fuel plan went false enough done =
    (let none = cond-false (leb 3 fuel) (Some (went_with (answer plan))) None enough in absurd (cc))

ended_with : (fuel : ℕ) (plan : List Fault) (went : Went) → example_runs fuel plan ≡ Some went → (3 ≤ fuel) × (went_with (answer plan) ≡ went)
ended_with fuel plan went done = ends_with fuel plan went (leb 3 fuel) refl done

ends : (fuel : ℕ) (plan : List Fault) → 3 ≤ fuel → example_runs fuel plan ≡ Some (went_with (answer plan))
ends fuel plan enough = cond-true (leb 3 fuel) (Some (went_with (answer plan))) None (le-leb 3 fuel enough)

-- ---- it is lawful

answered_with : (plan : List Fault) (visit : Visit) → Contains (visits_with (answer plan)) visit → visit.fault ≡ answer_to ints plan visit.index visit.callee
answered_with plan visit has =
    ⊎_elim (λ first. subst (λ (v : Visit). v.fault ≡ answer_to ints plan v.index v.callee) first refl)
    (λ later. ⊎_elim (λ second. subst (λ (v : Visit). v.fault ≡ answer_to ints plan v.index v.callee) second refl) (λ none. in_none visit none)
    (in_cases visit (record { index = price_index; callee = price; fault = answer plan }) [] later))
    (in_cases visit (record { index = cart_index; callee = cart; fault = None }) (record { index = price_index; callee = price; fault = answer plan } ∷ []) has)

differ_with : (fault : Option Reply) → AreDistinct (map (λ (v : Visit). v.index) (visits_with fault))
differ_with fault = (
  λ has. ⊎_elim (λ same. (let long = ap (length {A = Occurrence}) same in absurd (omega (arith, long)))) (λ none. in_none cart_index none)
      (in_cases cart_index price_index [] has),
  (λ has. in_none price_index has, tt),
)

same_or_not : (a b : Option Reply) → (a ≡ b) ⊎ (¬ (a ≡ b))
same_or_not None None = inl refl
same_or_not None (Some s) = inr (λ same. absurd (cc))
same_or_not (Some r) None = inr (λ same. absurd (cc))
same_or_not (Some r) (Some s) =
    ⊎_elim (λ same. inl (ap Some ((same_reply-Decides r s).0 same)))
    (λ other. inr (λ same. (let tested = (same_reply-Decides r s).1 (same_Some r s same) in absurd (cc)))) (cases_Bool (same_reply r s))

alike_with : (a b : Option Reply) → (visits_with a ≡ visits_with b) ⊎ PartAtFault (visits_with a) (visits_with b)
alike_with a b =
    ⊎_elim (λ same. inl (ap visits_with same))
    (λ other. inr (record {
      shared = record { index = cart_index; callee = cart; fault = None } ∷ [];
      here = record { index = price_index; callee = price; fault = a };
      there = record { index = price_index; callee = price; fault = b };
      after_here = [];
      after_there = [];
      first_visits = refl;
      second_visits = refl;
      same_index = refl;
      same_callee = refl;
      other_fault = other;
    }))
    (same_or_not a b)

pub lawful : AreLawful ints example_runs
lawful = record {
  more_fuel = λ n m plan went more done. (
      let found = ended_with n plan went done in
      let enough = found.0 in
      ends m plan (omega (arith, enough, more)) ∙ ap Some found.1);
  answered = λ n plan went done visit has. (
      let found = ended_with n plan went done in
      answered_with plan visit (subst (λ (w : Went). Contains w.visits visit) (sym found.1) has));
  indexes_differ = λ n plan went done.
      subst (λ (w : Went). AreDistinct (map (λ (v : Visit). v.index) w.visits)) (ended_with n plan went done).1 (differ_with (answer plan));
  few_calls = λ n plan went done. (
      let found = ended_with n plan went done in
      let enough = found.0 in
      let calls = ap (λ (w : Went). length w.visits) found.1 in
      omega (arith, enough, calls));
  alike = λ n p q first second done_first done_second. (
      let one = (ended_with n p first done_first).1 in
      let two = (ended_with n q second done_second).1 in
      subst (λ (w : Went). (first.visits ≡ w.visits) ⊎ PartAtFault first.visits w.visits) two
      (subst (λ (v : Went). (v.visits ≡ (went_with (answer q)).visits) ⊎ PartAtFault v.visits (went_with (answer q)).visits) one (alike_with (answer p) (answer q))));
}

down-five : ¬ (down ≡ five)
down-five same = absurd (cc)

pub chosen : AreChoices ints down_or_five
chosen = record {
  fitting = λ method given has.
      ⊎_elim (λ first. subst (λ r. fits ints method r ≡ true) first refl)
      (λ later. ⊎_elim (λ second. subst (λ r. fits ints method r ≡ true) second refl) (λ none. in_none given none) (in_cases given five [] later))
      (in_cases given down (five ∷ []) has);
  differ = λ method. (
    λ has. ⊎_elim (λ same. down-five (sym same)) (λ none. in_none down none) (in_cases down five [] has),
    (λ has. in_none five has, tt),
  );
}

-- ---- its plans and its campaign

pub plans_are : plans example_runs down_or_five 3 ≡ example_plans
unfolding level levels_to
plans_are = refl

pub plans_end : EachEnds example_runs down_or_five 3
plans_end plan has = (went_with (answer plan), ends 3 plan (omega arith))

pub plans_met : (plan : List Fault) → Contains example_plans plan ↔ IsMet example_runs down_or_five 3 plan
plans_met plan =
    subst (λ ps. Contains ps plan ↔ IsMet example_runs down_or_five 3 plan) plans_are
    (planned_or_met ints example_runs down_or_five lawful chosen 3 plans_end plan)

pub report_is : campaign example_settings example_runs (plans example_runs down_or_five 3) ≡ example_report
unfolding level levels_to campaign_from
report_is = refl
