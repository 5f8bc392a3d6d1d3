-- The first fault of a plan that isn't met, and the faults before it.
use Rattle.std.proofs.Common.{◌≡◌, ◌<◌, ◌≤◌, List, [], ◌∷◌, map, length, get_or, drop, refl, sym, ap, ◌∙◌, subst, arith}
use Rattle.fb_base.specs.Front.{IsFrontOf}
use Rattle.fb_index.specs.Entry.{Occurrence}
use Rattle.fb_index.specs.declared.fault.Fault.{Fault}
use Rattle.fb_replay.specs.Replays.{IsFirstUnmet}

-- one more fault before, which is met
pub unmet_behind : (fault : Fault) (plan injected : List Fault) (index : List Occurrence)
    → IsFirstUnmet plan injected index → IsFirstUnmet (fault ∷ plan) (fault ∷ injected) index
unmet_behind fault plan injected index unmet = record {
  met = fault ∷ unmet.met;
  fault = unmet.fault;
  rest = unmet.rest;
  planned = ap (λ faults. fault ∷ faults) unmet.planned;
  others = unmet.others;
  found = ap (λ faults. fault ∷ faults) unmet.found;
  differs = unmet.differs;
  named = unmet.named;
}

pub front_behind : (fault : Fault) (plan injected : List Fault) → IsFrontOf plan injected → IsFrontOf (fault ∷ plan) (fault ∷ injected)
front_behind fault plan injected front = (front.0, ap (λ faults. fault ∷ faults) front.1)

-- nothing was injected there
pub unmet_by_none : (fault : Fault) (rest : List Fault) → IsFirstUnmet (fault ∷ rest) [] fault.index
unmet_by_none fault rest = record {
  met = [];
  fault = fault;
  rest = rest;
  planned = refl;
  others = [];
  found = refl;
  differs = λ behind is. absurd (cc);
  named = refl;
}

-- another was injected there
pub unmet_by_other : (fault other : Fault) (rest behind : List Fault) → ¬ (fault ≡ other) → IsFirstUnmet (fault ∷ rest) (other ∷ behind) fault.index
unmet_by_other fault other rest behind differ = record {
  met = [];
  fault = fault;
  rest = rest;
  planned = refl;
  others = other ∷ behind;
  found = refl;
  differs = λ more is. differ (cc);
  named = refl;
}

-- ---- of two lists of items, each seen as a fault

module _ {A : Type 0} (v : A → Fault) where
  pub front_at_end : (left others : List A) → length left < 1 → IsFrontOf (map v left) (map v others)
  front_at_end [] others few = (map v others, refl)
  front_at_end (first ∷ left) others few = absurd (omega (arith, few))

  pub unmet_at_end : (left others : List A) (x : A) → 1 ≤ length left → x ≡ get_or left 0 x → length others < 1
      → IsFirstUnmet (map v left) (map v others) (v x).index
  unmet_at_end [] others x some is few = absurd (omega (arith, some))
  unmet_at_end (first ∷ left) [] x some is few = rw is (unmet_by_none (v first) (map v left))
  unmet_at_end (first ∷ left) (other ∷ others) x some is few = absurd (omega (arith, few))

  pub unmet_here : (left others : List A) (x y : A) → 1 ≤ length left → x ≡ get_or left 0 x → 1 ≤ length others → y ≡ get_or others 0 y
      → ¬ (v x ≡ v y) → IsFirstUnmet (map v left) (map v others) (v x).index
  unmet_here [] others x y some is there also differ = absurd (omega (arith, some))
  unmet_here (first ∷ left) [] x y some is there also differ = absurd (omega (arith, there))
  unmet_here (first ∷ left) (other ∷ others) x y some is there also differ =
      rw is (unmet_by_other (v first) (v other) (map v left) (map v others) (λ same. differ (ap v is ∙ same ∙ ap v (sym also))))

  -- what holds of two lists that begin alike
  module _ (P : List Fault → List Fault → Type 0)
      (behind : (fault : Fault) (plan injected : List Fault) → P plan injected → P (fault ∷ plan) (fault ∷ injected)) where
    pub one_before : (left others rest more : List A) (x y : A) → 1 ≤ length left → x ≡ get_or left 0 x → rest ≡ drop 1 left
        → 1 ≤ length others → y ≡ get_or others 0 y → more ≡ drop 1 others → v x ≡ v y → P (map v rest) (map v more) → P (map v left) (map v others)
    one_before [] others rest more x y some is left_is there also others_is same holds = absurd (omega (arith, some))
    one_before (first ∷ left) [] rest more x y some is left_is there also others_is same holds = absurd (omega (arith, there))
    one_before (first ∷ left) (other ∷ others) rest more x y some is left_is there also others_is same holds =
        subst (λ fault. P (v first ∷ map v left) (fault ∷ map v others)) (ap v (sym is) ∙ same ∙ ap v also)
        (behind (v first) (map v left) (map v others) (subst (λ ys. P (map v left) (map v ys)) others_is (subst (λ xs. P (map v xs) (map v more)) left_is holds)))
