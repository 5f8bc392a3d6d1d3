-- The nearest of some methods, and one more.
use Rattle.std.proofs.Common.{ℕ, ◌+◌, ◌<◌, ◌≡◌, ◌⊎◌, Option, Some, None, List, [], ◌∷◌, ◌++◌, take, length, get_or, inl, inr, refl, arith, sym, ◌∙◌}
use Rattle.std.proofs.lemmas.List.{take_more}
use Rattle.std.proofs.lemmas.List.Elements.{Contains-push, Contains-push_cases, Contains-append_left}
use Rattle.std.proofs.lemmas.Option.{same_Some, MatchOption-at_some}
use Rattle.std.specs.List.{Contains}
use Rattle.std.specs.Option.{MatchOption, IfSome, IsSome}
use Rattle.fb_graph.specs.declared.cycle.Step.{Step}
use Rattle.fb_graph.specs.Distances.{AreUnknown, IsNearest, IsNotFarther}

-- what the nearest so far is
abbrev pub IsNearestOf : List (Option ℕ) → List ℕ → Option Step → Type 0
IsNearestOf distances called nearest = MatchOption nearest (AreUnknown distances called) (IsNearest distances called)

IsNotFarther-then : (a b c : Step) → IsNotFarther a b → IsNotFarther b c → IsNotFarther a c
IsNotFarther-then a b c (near, low) (near', low') = (omega arith, λ same. let l = low (omega arith) in let l' = low' (omega arith) in omega arith)

module _ (distances : List (Option ℕ)) (called : List ℕ) (n : ℕ) where
  pub nearest-skip : (nearest : Option Step) → get_or distances n None ≡ None → IsNearestOf distances called nearest →
      IsNearestOf distances (called ++ n ∷ []) nearest
  nearest-skip None none unknown = λ m among.
      elim (Contains-push_cases called n m among) [
        | inl old ↦ unknown m old
        | inr last ↦ rw (← last) none
      ]
  nearest-skip (Some step) none nearest = record {
    among = Contains-append_left called (n ∷ []) step.callee nearest.among;
    known = nearest.known;
    first = λ m d among is.
        elim (Contains-push_cases called n m among) [
          | inl old ↦ nearest.first m d old is
          | inr last ↦ let nothing : get_or distances m None ≡ None = rw (← last) none in cc
        ];
  }

  module _ (distance : ℕ) (is : get_or distances n None ≡ Some distance) where
    abbrev here : Step
    here = record { callee = n; distance = distance }

    -- the step itself is the nearest
    nearest-here : ((m d : ℕ) → Contains called m → get_or distances m None ≡ Some d → IsNotFarther here (record { callee = m; distance = d })) →
        IsNearest distances (called ++ n ∷ []) here
    nearest-here first = record {
      among = Contains-push called n;
      known = is;
      first = λ m d among known.
          elim (Contains-push_cases called n m among) [
            | inl old ↦ first m d old known
            | inr last ↦
                let same : distance ≡ d = same_Some distance d (sym is ∙ (rw (← last) at known)) in
                (omega arith, λ _. omega arith)
          ];
    }

    -- the nearest so far stays the nearest
    nearest-before : (step : Step) → IsNotFarther step here → IsNearest distances called step → IsNearest distances (called ++ n ∷ []) step
    nearest-before step before nearest = record {
      among = Contains-append_left called (n ∷ []) step.callee nearest.among;
      known = nearest.known;
      first = λ m d among known.
          elim (Contains-push_cases called n m among) [
            | inl old ↦ nearest.first m d old known
            | inr last ↦
                let same : distance ≡ d = same_Some distance d (sym is ∙ (rw (← last) at known)) in
                (omega arith, λ level. let low = before.1 (omega arith) in omega arith)
          ];
    }

    pub nearest-next : (nearest : Option Step) (next : Step) → (next ≡ here) ⊎ (nearest ≡ Some next) → IfSome nearest (IsNotFarther next) →
        IsNotFarther next here → IsNearestOf distances called nearest → IsNearest distances (called ++ n ∷ []) next
    nearest-next None next (inl same) known step unknown =
        rw same (nearest-here (λ m d among is_d. let none : get_or distances m None ≡ None = unknown m among in cc))
    nearest-next None next (inr same) known step unknown = cc
    nearest-next (Some old) next (inl same) known step nearest =
        let before : IsNotFarther here old = rw same at known in
        rw same
        (nearest-here (λ m d among is_d. IsNotFarther-then here old (record { callee = m; distance = d }) before (nearest.first m d among is_d)))
    nearest-next (Some old) next (inr same) known step nearest =
        let e : old ≡ next = same_Some old next same in
        rw (← e) (nearest-before old (rw (← e) at step) nearest)

-- a method more, where its distance is known, and where not
module _ (distances : List (Option ℕ)) (called : List ℕ) (i n : ℕ) (nearest : Option Step) (low : i < length called)
    (at : n ≡ get_or called i 0) (before : IsNearestOf distances (take i called) nearest) where
  pub nearest-more_unknown : get_or distances n None ≡ None → IsNearestOf distances (take (i + 1) called) nearest
  nearest-more_unknown none =
      rw (take_more called i 0 low, ← at) (nearest-skip distances (take i called) n nearest none before)

  pub nearest-more : (distance : ℕ) (next : Step) → get_or distances n None ≡ Some distance →
      (next ≡ record { callee = n; distance = distance }) ⊎ (nearest ≡ Some next) → IfSome nearest (IsNotFarther next) →
      IsNotFarther next (record { callee = n; distance = distance }) → IsNearest distances (take (i + 1) called) next
  nearest-more distance next is one known step =
      rw (take_more called i 0 low, ← at)
      (nearest-next distances (take i called) n distance is nearest next one known step before)

-- some method's distance is known
pub nearest-IsSome : (distances : List (Option ℕ)) (called : List ℕ) (nearest : Option Step) (n d : ℕ) → Contains called n →
    get_or distances n None ≡ Some d → IsNearestOf distances called nearest → IsSome nearest
nearest-IsSome distances called None n d among is unknown = let none = unknown n among in cc
nearest-IsSome distances called (Some step) n d among is nearest = refl

pub nearest-is : (distances : List (Option ℕ)) (called : List ℕ) (nearest : Option Step) (step : Step) → nearest ≡ Some step →
    IsNearestOf distances called nearest → IsNearest distances called step
nearest-is distances called nearest step is of =
    MatchOption-at_some (AreUnknown distances called) (IsNearest distances called) step is of
