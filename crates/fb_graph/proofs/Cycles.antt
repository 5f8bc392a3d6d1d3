-- The first cycle by trying all lengths: a shortest one goes through each method once at most.
use Rattle.std.proofs.Common.{ℕ, ◌+◌, ◌<◌, ◌≤◌, ◌≡◌, ◌∙◌, Bool, true, false, Option, Some, None, List, [], ◌∷◌, length, inl, inr, refl, sym, arith, eqb, eqb-true, ne_eqb, is_some, find}
use Rattle.std.specs.List.{Contains, AllByRecursion, IsDistinct, list_any, range_with_len}
use Rattle.std.specs.Option.{MatchOption, option_map, option_and_then}
use Rattle.std.specs.Cmp.{nat_cmp_is}
use Rattle.std.specs.declared.cmp.Ordering.TheVariants.{Equal, Greater}
use Rattle.std.proofs.lemmas.Bool.{cases_lt, cases_order}
use Rattle.std.proofs.lemmas.List.Elements.{All-contains}
use Rattle.std.proofs.lemmas.Map.Keys.{IsDistinct-cons}
use Rattle.std.proofs.lemmas.Map.Steps.{length-le_from_distinct_below}
use Rattle.fb_graph.specs.declared.cycle.Cycle.{Cycle}
use Rattle.fb_graph.specs.Graph.{Graph}
use Rattle.fb_graph.specs.Walk.{IsWalk, IsNotAfter}
use Rattle.fb_graph.specs.Cycle.{IsFirstCycle, IsOnNoCycle, TellsFirstCycle}
use Rattle.fb_graph.specs.FirstCycle.{reaches, first_way, cycle_of, first_cycle}
use Rattle.fb_graph.proofs.Members.{Contains-cons, AllByRecursion-from, any-Contains, find-None, find-Some}
use Rattle.fb_graph.proofs.Walks.{walk-within, through-within, no-cycle-beyond}
use Rattle.fb_graph.proofs.Tested.{reaches-from, first_way-is}

-- no walk between the same methods is shorter
abbrev pub IsShortest : Graph → ℕ → List ℕ → ℕ → Type 0
IsShortest graph m through end = (other : List ℕ) → IsWalk graph m other end → length through ≤ length other

-- what is left of a walk behind one of its methods
cut : (graph : Graph) (m : ℕ) (through : List ℕ) (end n : ℕ) → IsWalk graph m through end → Contains through n →
    (other : List ℕ) × IsWalk graph n other end × (length other < length through)
cut graph m [] end n walk among = absurd (omega (arith, among.1))
cut graph m (o ∷ through) end n (calls, walk) among =
    elim (Contains-cons o through n among) [
      | inl same ↦ (through, rw (← same) walk, omega arith)
      | inr later ↦ let (other, rest, shorter) = cut graph o through end n walk later in (other, rest, omega arith)
    ]

never-shorter : (graph : Graph) (m n : ℕ) (through : List ℕ) (end : ℕ) (other : List ℕ) → IsShortest graph m through end → m ≡ n →
    IsWalk graph n other end → length other < length through → ⊥
never-shorter graph m n through end other shortest same walk shorter = let longer = shortest other (rw same walk) in omega arith

apart : (graph : Graph) (m : ℕ) (through : List ℕ) (end : ℕ) → IsWalk graph m through end → IsShortest graph m through end →
    AllByRecursion (λ n. eqb m n ≡ false) through
apart graph m through end walk shortest =
    AllByRecursion-from (λ n. eqb m n ≡ false) through
    (λ n among. ne_eqb m n (λ same.
    let (other, rest, shorter) = cut graph m through end n walk among in
    never-shorter graph m n through end other shortest same rest shorter))

distinct : (graph : Graph) (m : ℕ) (through : List ℕ) (end : ℕ) → IsWalk graph m through end → IsShortest graph m through end →
    IsDistinct eqb (m ∷ through)
unfolding IsDistinct
distinct graph m [] end walk shortest = (tt, tt)
distinct graph m (n ∷ through) end (calls, walk) shortest =
    IsDistinct-cons eqb m (n ∷ through) (apart graph m (n ∷ through) end (calls, walk) shortest)
    (distinct graph n through end walk (λ other on. let longer = shortest (n ∷ other) (calls, on) in omega arith))

shortest-fits : (graph : Graph) (m : ℕ) (through : List ℕ) (end : ℕ) → IsWalk graph m through end → IsShortest graph m through end →
    length through < length graph
shortest-fits graph m through end walk shortest =
    let within : (q : ℕ) → list_any (eqb q) (m ∷ through) ≡ true → q < length graph =
    λ q is.
    let (n, among, same) = any-Contains (eqb q) (m ∷ through) is in
    let at : q ≡ n = eqb-true q n same in
    elim (Contains-cons m through n among) [
      | inl first ↦ rw (at, ← first) (walk-within graph m through end walk)
      | inr later ↦ rw at (All-contains (λ o. o < length graph) through n (through-within graph m through end walk) later)
    ] in
    let fits = length-le_from_distinct_below (m ∷ through) (length graph) (distinct graph m through end walk shortest) within in
    omega arith

-- the first of the shortest length
least-length : (graph : Graph) (m k : ℕ) → reaches graph k m m ≡ true → ((j : ℕ) → j < k → reaches graph j m m ≡ false) →
    IsFirstCycle graph m (first_way graph k m m)
least-length graph m k is none =
    let way = first_way-is graph k m m is in
    record {
      walk = way.walk;
      shortest = λ other walk.
          elim (cases_lt (length other) k) [
            | inl shorter ↦ let found = reaches-from graph m other m walk in let not_found = none (length other) shorter in cc
            | inr le ↦ omega (arith, way.len)
          ];
      first = λ other walk len. way.first other walk (len ∙ way.len);
    }

module _ (graph : Graph) (m : ℕ) where
  abbrev tries : ℕ → Bool
  tries k = reaches graph k m m

  -- where some length is found, a shortest one is, and it is less than the number of methods
  short-found : (n : ℕ) (o : Option ℕ) → find tries (range_with_len 0 (n + 1)) ≡ o → tries n ≡ true →
      (k : ℕ) × (k < length graph) × (tries k ≡ true)
  short-found n None e is = let none = find-None tries 0 (n + 1) e n (omega arith) (omega arith) in cc
  short-found n (Some k) e is =
      let (low, found, first) = find-Some tries 0 (n + 1) k e in
      let cycle = least-length graph m k found (λ j below. first j (omega arith) below) in
      let way = first_way-is graph k m m found in
      (k, omega (arith, shortest-fits graph m (first_way graph k m m) m cycle.walk cycle.shortest, way.len), found)

  -- what is told of the method
  abbrev Tells : Option Cycle → Type 0
  Tells told = MatchOption told (IsOnNoCycle graph m) (λ cycle. (cycle.first ≡ m) × IsFirstCycle graph m cycle.through)

  tried : (o : Option ℕ) → find tries (range_with_len 0 (length graph)) ≡ o →
      Tells (option_map (λ k. record { first = m; through = first_way graph k m m }) o)
  tried None e = λ through cycle.
      let (k, low, found) =
      short-found (length through) (find tries (range_with_len 0 (length through + 1))) refl (reaches-from graph m through m cycle) in
      let none = find-None tries 0 (length graph) e k (omega arith) (omega arith) in
      cc
  tried (Some k) e =
      let (low, found, first) = find-Some tries 0 (length graph) k e in
      (refl, least-length graph m k found (λ j below. first j (omega arith) below))

  cycle_of-tells : Tells (cycle_of graph m)
  unfolding cycle_of
  cycle_of-tells = tried (find tries (range_with_len 0 (length graph))) refl

  none-of : (told : Option Cycle) → is_some told ≡ false → Tells told → IsOnNoCycle graph m
  none-of None none tells = tells
  none-of (Some cycle) none tells = cc

  none-told : is_some (cycle_of graph m) ≡ false → IsOnNoCycle graph m
  none-told none = none-of (cycle_of graph m) none cycle_of-tells

some-told : (graph : Graph) (m : ℕ) → ((n : ℕ) → n < m → IsOnNoCycle graph n) → (told : Option Cycle) → is_some told ≡ true →
    Tells graph m told → TellsFirstCycle graph told
some-told graph m before None some tells = cc
some-told graph m before (Some cycle) some (same, first) = rw same (first, before)

all-tried : (graph : Graph) (o : Option ℕ) → find (λ m. is_some (cycle_of graph m)) (range_with_len 0 (length graph)) ≡ o →
    TellsFirstCycle graph (option_and_then (cycle_of graph) o)
all-tried graph None e = λ m.
    elim (cases_lt m (length graph)) [
      | inl within ↦ none-told graph m (find-None (λ m. is_some (cycle_of graph m)) 0 (length graph) e m (omega arith) (omega arith))
      | inr beyond ↦ no-cycle-beyond graph m beyond
    ]
all-tried graph (Some m) e =
    let (low, some, none) = find-Some (λ m. is_some (cycle_of graph m)) 0 (length graph) m e in
    some-told graph m (λ n below. none-told graph n (none n (omega arith) below)) (cycle_of graph m) some (cycle_of-tells graph m)

pub first_cycle-tells : (graph : Graph) → TellsFirstCycle graph (first_cycle graph)
unfolding first_cycle
first_cycle-tells graph =
    all-tried graph (find (λ m. is_some (cycle_of graph m)) (range_with_len 0 (length graph))) refl

-- two lists that are not after each other are the same
not-after-both : (these those : List ℕ) → IsNotAfter these those → IsNotAfter those these → these ≡ those
not-after-both [] [] le ge = refl
not-after-both [] (n ∷ those) le ge = cc
not-after-both (m ∷ these) [] le ge = cc
not-after-both (m ∷ these) (n ∷ those) le ge =
    elim (cases_order m n) [
      | inl same ↦
          let le' = rw (← nat_cmp_is m n Equal same) at le in
          let ge' = rw (← nat_cmp_is n m Equal (sym same)) at ge in
          let rest : these ≡ those = not-after-both these those le' ge' in
          cc
      | inr apart ↦
          elim apart [
            | inl lower ↦ let never = rw (← nat_cmp_is n m Greater lower) at ge in cc
            | inr higher ↦ let never = rw (← nat_cmp_is m n Greater higher) at le in cc
          ]
    ]

same-through : (graph : Graph) (m : ℕ) (these those : List ℕ) → IsFirstCycle graph m these → IsFirstCycle graph m those → these ≡ those
same-through graph m these those first other =
    let le = first.shortest those other.walk in
    let ge = other.shortest these first.walk in
    not-after-both these those (first.first those other.walk (omega arith)) (other.first these first.walk (omega arith))

-- only one answer is right
pub one-first : (graph : Graph) (told other : Option Cycle) → TellsFirstCycle graph told → TellsFirstCycle graph other → told ≡ other
one-first graph None None none nothing = refl
one-first graph None (Some cycle) none tells = absurd (none cycle.first cycle.through tells.0.walk)
one-first graph (Some cycle) None tells none = absurd (none cycle.first cycle.through tells.0.walk)
one-first graph (Some cycle) (Some other) (first, before) (first', before') =
    elim (cases_order cycle.first other.first) [
      | inl same ↦
          let through : cycle.through ≡ other.through =
          same-through graph other.first cycle.through other.through (rw same at first) first' in
          λ i. Some (record { first = same i; through = through i })
      | inr apart ↦
          elim apart [
            | inl lower ↦ absurd (before' cycle.first lower cycle.through first.walk)
            | inr higher ↦ absurd (before other.first higher other.through first'.walk)
          ]
    ]
