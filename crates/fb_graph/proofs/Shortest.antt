-- Distances to the end of walks, and the steps of a first one.
use Rattle.std.proofs.Common.{ℕ, zero, suc, ◌<◌, ◌≤◌, ◌≡◌, ◌⊎◌, Option, Some, None, List, [], ◌∷◌, ◌++◌, length, get_or, append_assoc, inl, inr, arith, sym, ◌∙◌}
use Rattle.std.proofs.lemmas.Option.{same_Some}
use Rattle.fb_graph.specs.declared.cycle.Step.{Step}
use Rattle.fb_graph.specs.Graph.{Graph, Calls, callees}
use Rattle.fb_graph.specs.Walk.{IsWalk, IsFirstWalk, IsNotAfter}
use Rattle.fb_graph.specs.Cycle.{IsOnNoCycle}
use Rattle.fb_graph.specs.Reverse.{IsReverse}
use Rattle.fb_graph.specs.Distances.{IsWithin, AreDistances, AreUnknown, IsNearest}
use Rattle.fb_graph.proofs.Graphs.{caller-within}
use Rattle.fb_graph.proofs.Walks.{walk-within, nothing-before, not-after}
use Rattle.fb_graph.proofs.Searches.{known, IsWithin-more}

-- what a cycle that is walked keeps: whatever walk is first from the step on is first with what stands before it
pub record IsOnWay (graph : Graph) (end : ℕ) (distances : List (Option ℕ)) (through : List ℕ) (step : Step) : Type 0 where
  pub known : get_or distances step.callee None ≡ Some step.distance
  pub there : step.distance ≡ 0 → IsFirstWalk graph end through end
  pub ahead : 0 < step.distance → (rest : List ℕ) → IsFirstWalk graph step.callee rest end →
      IsFirstWalk graph end (through ++ step.callee ∷ rest) end

module _ (graph reverse : Graph) (turned : IsReverse graph reverse) (end : ℕ) (inside : end < length graph)
    (distances : List (Option ℕ)) (are : AreDistances reverse end distances) where
  walk-IsWithin : (m : ℕ) (through : List ℕ) → IsWalk graph m through end → IsWithin distances m (suc (length through))
  walk-IsWithin m [] walk =
      are.spread end m 0 (turned.each m end inside walk) (omega (arith, caller-within graph m end walk, turned.len)) are.begin
  walk-IsWithin m (n ∷ through) (calls, walk) =
      are.spread n m (suc (length through)) (turned.each m n (walk-within graph n through end walk) calls)
      (omega (arith, caller-within graph m n calls, turned.len)) (walk-IsWithin n through walk)

  abbrev Leads : ℕ → ℕ → Type 0
  Leads m k = (m ≡ end) ⊎ ((through : List ℕ) × IsWalk graph m through end × (length through < k))

  IsWithin-walk : (k m : ℕ) → IsWithin distances m k → Leads m k
  IsWithin-walk zero m near =
      elim (are.led m zero near) [
        | inl same ↦ inl same
        | inr way ↦ absurd (omega (arith, way.4))
      ]
  IsWithin-walk (suc k) m near =
      elim (are.led m (suc k) near) [
        | inl same ↦ inl same
        | inr way ↦
            let n = way.0 in
            let calls : Calls graph m n = turned.only m n way.2 in
            elim (IsWithin-walk k n (IsWithin-more distances n way.1 k (omega (arith, way.4)) way.3)) [
              | inl same ↦ inr ([], rw (← same) calls, omega arith)
              | inr on ↦ inr (n ∷ on.0, (calls, on.1), omega (arith, on.2))
            ]
      ]

  known-end : known distances end ≡ Some 0
  known-end = let (d, is, low) = are.begin in let none : d ≡ 0 = omega arith in rw none at is

  pub no-cycle-unknown : AreUnknown distances (callees graph end) → IsOnNoCycle graph end
  no-cycle-unknown unknown [] cycle = let none = unknown end cycle in let at = known-end in cc
  no-cycle-unknown unknown (n ∷ through) (calls, walk) =
      let none = unknown n calls in
      let (d, is, low) = walk-IsWithin n through walk in
      cc

  -- the nearest callee is the end itself
  pub first-last : (m : ℕ) (step : Step) → IsNearest distances (callees graph m) step → step.distance ≡ 0 →
      IsFirstWalk graph m [] end
  first-last m step nearest none =
      let at : step.callee ≡ end =
      elim (IsWithin-walk 0 step.callee (step.distance, nearest.known, omega arith)) [
        | inl same ↦ same
        | inr way ↦ absurd (omega (arith, way.2))
      ] in
      record {
        walk = rw (← at) nearest.among;
        shortest = λ other walk. omega arith;
        first = λ other walk len. nothing-before other;
      }

  module _ (m : ℕ) (step : Step) (rest : List ℕ) (nearest : IsNearest distances (callees graph m) step) (far : 0 < step.distance)
      (walk : IsFirstWalk graph step.callee rest end) where
    exact : step.distance ≡ suc (length rest)
    exact =
        let (d, is, low) = walk-IsWithin step.callee rest walk.walk in
        let same : step.distance ≡ d = same_Some step.distance d (sym nearest.known ∙ is) in
        elim (IsWithin-walk step.distance step.callee (step.distance, nearest.known, omega arith)) [
          | inl at ↦
              let none : step.distance ≡ 0 = same_Some step.distance 0 (sym nearest.known ∙ (rw (← at) at known-end)) in
              absurd (omega arith)
          | inr way ↦ omega (arith, walk.shortest way.0 way.1, way.2)
        ]

    -- another walk from here goes by a callee that is as far at least
    on : (n : ℕ) (through : List ℕ) → Calls graph m n → IsWalk graph n through end →
        (length rest ≤ length through) × (length through ≡ length rest → step.callee ≤ n)
    on n through calls other =
        let (d, is, low) = walk-IsWithin n through other in
        let (near, first) = nearest.first n d calls is in
        (omega (arith, exact), λ len. first (omega (arith, exact)))

    never-last : Calls graph m end → ⊥
    never-last calls = let (near, first) = nearest.first end 0 calls known-end in omega arith

    shortest : (other : List ℕ) → IsWalk graph m other end → suc (length rest) ≤ length other
    shortest [] calls = absurd (never-last calls)
    shortest (n ∷ through) (calls, other) = omega (arith, (on n through calls other).0)

    first : (other : List ℕ) → IsWalk graph m other end → length other ≡ suc (length rest) → IsNotAfter (step.callee ∷ rest) other
    first [] calls len = absurd (never-last calls)
    first (n ∷ through) (calls, other) len =
        not-after step.callee n rest through ((on n through calls other).1 (omega arith))
        (λ same. walk.first through (rw same other) (omega arith))

    pub first-more : IsFirstWalk graph m (step.callee ∷ rest) end
    first-more = record { walk = (nearest.among, walk.walk); shortest = shortest; first = first }

  pub IsOnWay-start : (step : Step) → IsNearest distances (callees graph end) step → IsOnWay graph end distances [] step
  IsOnWay-start step nearest = record {
    known = nearest.known;
    there = first-last end step nearest;
    ahead = λ far rest walk. first-more end step rest nearest far walk;
  }

  pub IsOnWay-next : (through : List ℕ) (step next : Step) → 0 < step.distance → IsOnWay graph end distances through step →
      IsNearest distances (callees graph step.callee) next → IsOnWay graph end distances (through ++ step.callee ∷ []) next
  IsOnWay-next through step next far way nearest = record {
    known = nearest.known;
    there = λ none. way.ahead far [] (first-last step.callee next nearest none);
    ahead = λ farther rest walk.
        rw append_assoc (way.ahead far (next.callee ∷ rest) (first-more step.callee next rest nearest farther walk));
  }

  -- a method on the way has a callee that is nearer
  pub nearer-callee : (through : List ℕ) (step : Step) → 0 < step.distance → IsOnWay graph end distances through step →
      (n : ℕ) × (d : ℕ) × Calls graph step.callee n × (get_or distances n None ≡ Some d) × (d < step.distance)
  nearer-callee through step far way =
      elim (are.led step.callee step.distance (step.distance, way.known, omega arith)) [
        | inl same ↦
            let none : step.distance ≡ 0 = same_Some step.distance 0 (sym way.known ∙ (rw (← same) at known-end)) in
            absurd (omega arith)
        | inr on ↦
            let (d, is, low) = on.3 in
            (on.0, d, turned.only step.callee on.0 on.2, is, omega (arith, on.4))
      ]
