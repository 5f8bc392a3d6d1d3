-- Ranks up to a limit, made of those up to one less.
use Rattle.std.proofs.Common.{ℕ, suc, max, replicate, ◌+◌, ◌<◌, ◌≡◌, List, [], ◌∷◌, ◌++◌, take, length, ap, get_or, slice_index, inl, inr, ⊎_elim, arith, subst, sym, ◌∙◌, add-one}
use Rattle.std.proofs.lemmas.Bool.{cases_lt}
use Rattle.std.proofs.lemmas.List.{get_or_past, get_or-replicate, length-replicate, get_or_append_left, get_or_push, take_more}
use Rattle.std.proofs.lemmas.List.Elements.{Contains-push, Contains-push_cases, Contains-append_left}
use Rattle.fb_graph.specs.Graph.{Graph, callees}
use Rattle.fb_graph.specs.Chain.{HasChain, IsRankUpTo, AreRanksUpTo, IsJustAbove}
use Rattle.fb_graph.proofs.Graphs.{caller-within}
use Rattle.fb_graph.proofs.Chains.{HasChain-shorter}

-- also a number beyond the last one has its rank
anywhere : (limit : ℕ) (graph : Graph) (ranks : List ℕ) → length ranks ≡ length graph → AreRanksUpTo limit graph ranks →
    (m : ℕ) → IsRankUpTo limit graph m (slice_index ranks m)
unfolding HasChain
anywhere limit graph ranks len are m =
    elim (cases_lt m (length graph)) [
      | inl within ↦ are m within
      | inr past ↦
          let none : 0 ≡ slice_index ranks m = omega (arith, get_or_past ranks m 0 (omega arith)) in
          let beyond : IsRankUpTo limit graph m 0 = record {
            within = omega arith;
            chain = tt;
            longest = λ _ (n, calls, chain). absurd (omega (arith, caller-within graph m n calls));
          } in
          let P : ℕ → Type 0 = λ k. IsRankUpTo limit graph m k in
          subst P none beyond
    ]

pub deeper-IsRankUpTo : (limit : ℕ) (graph : Graph) (ranks : List ℕ) → ((n : ℕ) → IsRankUpTo limit graph n (slice_index ranks n)) →
    (m k : ℕ) → IsJustAbove ranks (callees graph m) k → IsRankUpTo (limit + 1) graph m k
unfolding HasChain
deeper-IsRankUpTo limit graph ranks are m k just = record {
  within = ⊎_elim (λ none. omega arith) (λ (n, calls, next). omega (arith, (are n).within)) just.least;
  chain =
      let P : ℕ → Type 0 = λ j. HasChain graph m j in
      ⊎_elim (λ none. subst P (sym none) tt)
      (λ (n, calls, next). subst P (sym (add-one _) ∙ next) (n, calls, (are n).chain)) just.least;
  longest = λ below (n, calls, chain).
      let lower : slice_index ranks n < k = just.above n calls in
      (are n).longest (omega arith) (HasChain-shorter graph n (suc (slice_index ranks n)) k (omega arith) chain);
}

pub deeper-AreRanksUpTo : (limit : ℕ) (graph : Graph) (ranks deeper : List ℕ) → length ranks ≡ length graph →
    AreRanksUpTo limit graph ranks →
    ((m : ℕ) → m < length deeper → IsJustAbove ranks (callees graph m) (slice_index deeper m)) → length deeper ≡ length graph →
    AreRanksUpTo (limit + 1) graph deeper
deeper-AreRanksUpTo limit graph ranks deeper len are just deep m within =
    deeper-IsRankUpTo limit graph ranks (anywhere limit graph ranks len are) m (slice_index deeper m) (just m (omega arith))

IsJustAbove-push : (ranks called : List ℕ) (n above : ℕ) → IsJustAbove ranks called above →
    IsJustAbove ranks (called ++ n ∷ []) (max above (slice_index ranks n + 1))
IsJustAbove-push ranks called n above just = record {
  above = λ m calls.
      elim (Contains-push_cases called n m calls) [
        | inl before ↦ let lower : slice_index ranks m < above = just.above m before in omega arith
        | inr last ↦ let same : slice_index ranks n ≡ slice_index ranks m = ap (λ k. slice_index ranks k) last in omega arith
      ];
  least =
      elim (cases_lt above (slice_index ranks n + 1)) [
        | inl higher ↦ inr (n, Contains-push called n, omega arith)
        | inr le ↦
            elim just.least [
              | inl none ↦ absurd (omega arith)
              | inr at ↦ inr (at.0, Contains-append_left called (n ∷ []) at.0 at.1, (let next : slice_index ranks at.0 + 1 ≡ above = at.2 in omega arith))
            ]
      ];
}

pub IsJustAbove-more : (ranks called : List ℕ) (i above next : ℕ) → i < length called → IsJustAbove ranks (take i called) above →
    next ≡ max above (slice_index ranks (get_or called i 0) + 1) → IsJustAbove ranks (take (i + 1) called) next
IsJustAbove-more ranks called i above next within just is =
    rw (take_more called i 0 within, is) (IsJustAbove-push ranks (take i called) (get_or called i 0) above just)

-- what holds of each number so far, and of one more
pub each-push : (P : ℕ → ℕ → Type 0) (xs : List ℕ) (x i : ℕ) → length xs ≡ i → ((m : ℕ) → m < i → P m (slice_index xs m)) →
    P i x → (m : ℕ) → m < i + 1 → P m (slice_index (xs ++ x ∷ []) m)
each-push P xs x i len each here m below =
    elim (cases_lt m i) [
      | inl before ↦ rw (get_or_append_left xs (x ∷ []) 0 m (omega arith)) (each m before)
      | inr le ↦
          let at : m ≡ i = omega arith in
          rw (at, get_or_push xs x 0 i len) here
    ]

-- no chain is longer than a limit of 0
pub start-AreRanksUpTo : (graph : Graph) (n : ℕ) → AreRanksUpTo 0 graph (replicate n 0)
unfolding HasChain
start-AreRanksUpTo graph n m within =
    let none : slice_index (replicate n 0) m ≡ 0 =
    elim (cases_lt m n) [
      | inl below ↦ get_or-replicate n m 0 0 below
      | inr le ↦ get_or_past (replicate n 0) m 0 (rw length-replicate le)
    ] in
    rw none (record { within = omega arith; chain = tt; longest = λ below. absurd (omega arith) })
