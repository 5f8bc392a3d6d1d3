-- What the check of calls finds, and what ranks tell.
use Rattle.std.proofs.Common.{◌≡◌, ◌↔◌, ◌==◌, ℕ, zero, suc, ◌+◌, ◌<◌, ◌≤◌, Bool, true, false, cond, List, [], ◌∷◌, length, slice_index, find, Option, Some, None, Ok, refl, sym, ap, ◌∙◌, subst, ⊎_elim, arith}
use Rattle.std.specs.List.{position_from, range_with_len}
use Rattle.std.proofs.lemmas.Bool.{eqb-true, eq-eqb, cases_lt}
use Rattle.fb_graph.specs.declared.cycle.Cycle.{Cycle}
use Rattle.fb_graph.specs.Graph.{Graph}
use Rattle.fb_graph.specs.Chain.{HasChain, has_chain, IsRank, IsRankUpTo, AreRanksUpTo}
use Rattle.fb_graph.specs.Cycle.{IsOnNoCycle, TellsFirstCycle}
use Rattle.fb_graph.specs.FirstCycle.{first_cycle}
use Rattle.fb_check.specs.declared.declarations.Declarations.{Declarations}
use Rattle.fb_check.specs.Calls.{rank_limit, first_deep, AreRanks}
use Rattle.fb_check.specs.FirstRefusal.{cycle_check}

-- ---- the first number that passes a test

position-find : (t p : ℕ → Bool) (i : ℕ) (xs : List ℕ) → ((k : ℕ) → k < length xs → t (slice_index xs k) ≡ p (i + k))
    → position_from t i xs ≡ find p (range_with_len i (length xs))
position-find t p i [] same = refl
position-find t p i (x ∷ xs) same =
    let first = same 0 (omega arith) ∙ ap p (let here : i + 0 ≡ i = omega arith in here) in
    let rest = position-find t p (i + 1) xs (λ k within. same (suc k) (omega (arith, within)) ∙ ap p (let next : i + suc k ≡ i + 1 + k = omega arith in next)) in
    λ j. cond (first j) (Some i) (rest j)

fails_at : (i : ℕ) (rest : Option ℕ) (b : Bool) → cond b (Some i) rest ≡ None → (b ≡ false) × (rest ≡ None)
fails_at i rest true is = absurd (cc)
fails_at i rest false is = (refl, is)

all_fail : (p : ℕ → Bool) (i n : ℕ) → find p (range_with_len i n) ≡ None → (k : ℕ) → k < n → p (i + k) ≡ false
all_fail p i zero none k within = absurd (omega (arith, within))
all_fail p i (suc n) none zero within =
    ap p (let here : i + 0 ≡ i = omega arith in here) ∙ (fails_at i (find p (range_with_len (i + 1) n)) (p i) none).0
all_fail p i (suc n) none (suc k) within =
    ap p (let next : i + suc k ≡ i + 1 + k = omega arith in next)
    ∙ all_fail p (i + 1) n (fails_at i (find p (range_with_len (i + 1) n)) (p i) none).1 k (omega (arith, within))

none_found : (p : ℕ → Bool) (i n : ℕ) → ((k : ℕ) → k < n → p (i + k) ≡ false) → find p (range_with_len i n) ≡ None
none_found p i zero all = refl
none_found p i (suc n) all =
    let first = ap p (let here : i ≡ i + 0 = omega arith in here) ∙ all 0 (omega arith) in
    let rest = none_found p (i + 1) n (λ k within. ap p (let next : i + 1 + k ≡ i + suc k = omega arith in next) ∙ all (suc k) (omega (arith, within))) in
    λ j. cond (first j) (Some i) (rest j)

same_test : (a b : Bool) → (a ≡ true → b ≡ true) → (b ≡ true → a ≡ true) → a ≡ b
same_test true b on back = sym (on refl)
same_test false true on back = back refl
same_test false false on back = refl

fails : (b : Bool) → ¬ (b ≡ true) → b ≡ false
fails true not_true = absurd (not_true refl)
fails false not_true = refl

-- ---- chains

shorter : (graph : Graph) (m j k : ℕ) → j ≤ k → HasChain graph m k → HasChain graph m j
unfolding HasChain
shorter graph m zero k le chain = tt
shorter graph m (suc j) zero le chain = absurd (omega (arith, le))
shorter graph m (suc j) (suc k) le (n, calls, chain) = (n, calls, shorter graph n j k (omega (arith, le)) chain)

-- a rank below the limit leaves no chain that is too deep
pub rank-not_deep : (graph : Graph) (m k : ℕ) → IsRank graph m k → k < rank_limit → ¬ (HasChain graph m rank_limit)
rank-not_deep graph m k rank low chain = rank.1 (shorter graph m (suc k) rank_limit (omega (arith, low)) chain)

-- no method has a chain that is too deep
abbrev pub AreShallow : Graph → Type 0
AreShallow graph = (m : ℕ) → m < length graph → ¬ (HasChain graph m rank_limit)

abbrev pub Tested : Type 0
Tested = (graph : Graph) (m k : ℕ) → (has_chain graph m k ≡ true) ↔ HasChain graph m k

module _ (tested : Tested) (graph : Graph) where
  ranked_at : (m limit : ℕ) (b : Bool) → has_chain graph m limit ≡ b → ¬ (HasChain graph m (suc limit))
      → (¬ (HasChain graph m limit) → (k : ℕ) × IsRank graph m k × (k < limit)) → (k : ℕ) × IsRank graph m k × (k < suc limit)
  ranked_at m limit true is none later = (limit, ((tested graph m limit).0 is, none), omega arith)
  ranked_at m limit false is none later =
      let below = later (λ chain. (let there = (tested graph m limit).1 chain in absurd (cc))) in
      (below.0, below.1, omega (arith, below.2))

  -- where no chain has so many calls there is a rank
  pub ranked_below : (m limit : ℕ) → ¬ (HasChain graph m limit) → (k : ℕ) × IsRank graph m k × (k < limit)
  unfolding HasChain
  ranked_below m zero none = absurd (none tt)
  ranked_below m (suc limit) none = ranked_at m limit (has_chain graph m limit) refl none (ranked_below m limit)

  pub none-shallow : first_deep graph ≡ None → AreShallow graph
  none-shallow none m within chain =
      let first = all_fail (λ n. has_chain graph n rank_limit) 0 (length graph) none m within in
      let here : 0 + m ≡ m = omega arith in
      let there = (tested graph m rank_limit).1 chain in
      let test = ap (λ n. has_chain graph n rank_limit) here in
      absurd (cc)

  pub shallow-none : AreShallow graph → first_deep graph ≡ None
  shallow-none shallow =
      none_found (λ n. has_chain graph n rank_limit) 0 (length graph)
      (λ k within. ap (λ n. has_chain graph n rank_limit) (let here : 0 + k ≡ k = omega arith in here)
      ∙ fails (has_chain graph k rank_limit) (λ is. shallow k within ((tested graph k rank_limit).0 is)))

  -- ---- the ranks that are found

  rank_tells : (m k : ℕ) → IsRankUpTo rank_limit graph m k → (k == rank_limit) ≡ has_chain graph m rank_limit
  rank_tells m k rank =
      same_test (k == rank_limit) (has_chain graph m rank_limit)
      (λ is. (tested graph m rank_limit).1 (subst (HasChain graph m) (eqb-true k rank_limit is) rank.chain))
      (λ is. eq-eqb k rank_limit (⊎_elim
      (λ low. absurd (rank.longest low (shorter graph m (suc k) rank_limit (omega (arith, low)) ((tested graph m rank_limit).0 is))))
      (λ le. (let within = rank.within in omega (arith, le, within))) (cases_lt k rank_limit)))

  -- the first rank at the limit is that of the first method with a chain that is too deep
  pub first_rank : (ranks : List ℕ) → length ranks ≡ length graph → AreRanksUpTo rank_limit graph ranks
      → position_from (λ rank. rank == rank_limit) 0 ranks ≡ first_deep graph
  first_rank ranks len up_to =
      position-find (λ rank. rank == rank_limit) (λ n. has_chain graph n rank_limit) 0 ranks
      (λ k within. rank_tells k (slice_index ranks k) (up_to k (omega (arith, within, len)))
      ∙ ap (λ n. has_chain graph n rank_limit) (let here : k ≡ 0 + k = omega arith in here))
      ∙ ap (λ n. find (λ m. has_chain graph m rank_limit) (range_with_len 0 n)) len

  pub ranks_found : (ranks : List ℕ) → length ranks ≡ length graph → AreRanksUpTo rank_limit graph ranks → AreShallow graph → AreRanks graph ranks
  ranks_found ranks len up_to shallow = record {
    count = len;
    each = λ m within. (let rank = up_to m within in
        let low : slice_index ranks m < rank_limit = ⊎_elim (λ low. low)
        (λ le. absurd (shallow m within (shorter graph m rank_limit (slice_index ranks m) le rank.chain))) (cases_lt (slice_index ranks m) rank_limit) in
        ((rank.chain, rank.longest low), low));
  }

-- ---- the first cycle

-- where no method is on a cycle there is no first one
no_first : (graph : Graph) (found : Option Cycle) → TellsFirstCycle graph found → ((m : ℕ) → IsOnNoCycle graph m) → found ≡ None
no_first graph None tells none = refl
no_first graph (Some cycle) tells none = absurd (none cycle.first cycle.through tells.0.walk)

abbrev pub ChainsEnd : Type 0
ChainsEnd = (graph : Graph) (limit : ℕ) → ((m : ℕ) → m < length graph → ¬ (HasChain graph m limit)) → (m : ℕ) → IsOnNoCycle graph m

abbrev pub FirstCycles : Type 0
FirstCycles = (graph : Graph) → TellsFirstCycle graph (first_cycle graph)

-- nothing is refused where no chain is too deep
pub nothing_refused : ChainsEnd → FirstCycles → (graph : Graph) (declared : Declarations) → AreShallow graph
    → first_deep graph ≡ None → cycle_check declared (first_cycle graph) (first_deep graph) ≡ Ok tt
nothing_refused ends first graph declared shallow none =
    let found = no_first graph (first_cycle graph) (first graph) (ends graph rank_limit shallow) in
    λ j. cycle_check declared (found j) (none j)

-- nothing is refused only there
pub nothing_refused-none : (declared : Declarations) (found : Option Cycle) (deep : Option ℕ) (x : Unit {0}) → cycle_check declared found deep ≡ Ok x → deep ≡ None
nothing_refused-none declared (Some cycle) deep x is = absurd (cc)
nothing_refused-none declared None (Some m) x is = absurd (cc)
nothing_refused-none declared None None x is = refl
