-- Distances that are set, and methods that are reached.
use Rattle.std.proofs.Common.{ℕ, suc, ◌+◌, ◌-◌, ◌^◌, ◌<◌, ◌≤◌, ◌≡◌, ◌⊎◌, Option, Some, None, List, [], ◌∷◌, ◌++◌, take, drop, replicate, length, length-append, get_or, unwrap_or, append_assoc, inl, inr, refl, ap, arith, sym, ◌∙◌}
use Rattle.std.proofs.Math.ListN.{set}
use Rattle.std.proofs.lemmas.Bool.{cases_lt, cases_eq}
use Rattle.std.proofs.lemmas.List.{drop_all, drop_more, drop-append-le, get_or_past, get_or-replicate, length-replicate, get_or-set_same, get_or-set_other, length-set, length_push, take_more}
use Rattle.std.proofs.lemmas.List.Elements.{Contains-push, Contains-push_cases, Contains-append_left, Contains-append_right}
use Rattle.std.proofs.lemmas.List.Sums.{sum_by-set}
use Rattle.std.proofs.lemmas.Option.{same_Some}
use Rattle.std.specs.List.{Contains}
use Rattle.fb_graph.proofs.Members.{Contains-cons}
use Rattle.fb_graph.specs.Graph.{Graph, Calls, callees}
use Rattle.fb_graph.specs.Distances.{IsWithin, AreDistances, Reaches, total}

-- the distance that is known of a method
abbrev pub known : List (Option ℕ) → ℕ → Option ℕ
known distances m = get_or distances m None

pub IsWithin-more : (distances : List (Option ℕ)) (m j k : ℕ) → j ≤ k → IsWithin distances m j → IsWithin distances m k
IsWithin-more distances m j k le (d, is, low) = (d, is, omega arith)

-- nothing is new where the method is known to be so near, or is none
Reaches-known : (called : List ℕ) (n distance : ℕ) (before after : List (Option ℕ)) (reached now : List ℕ) →
    (n < length after → IsWithin after n distance) → Reaches called distance before after reached now →
    Reaches (called ++ n ∷ []) distance before after reached now
Reaches-known called n distance before after reached now known reaches = record {
  len = reaches.len;
  kept = reaches.kept;
  only = λ m k within.
      elim (reaches.only m k within) [
        | inl old ↦ inl old
        | inr new ↦ inr (Contains-append_left called (n ∷ []) m new.0, new.1)
      ];
  each = λ m low among.
      elim (Contains-push_cases called n m among) [
        | inl old ↦ reaches.each m low old
        | inr last ↦ rw (← last) (known (omega (arith, reaches.len)))
      ];
  grown = reaches.grown;
  less = reaches.less;
}

lower : (o : Option ℕ) (distance : ℕ) → ((d : ℕ) → o ≡ Some d → distance < d) → distance < 2 ^ 64 → distance < unwrap_or o (2 ^ 64)
lower None distance below fits = fits
lower (Some d) distance below fits = below d refl

-- a method was known to be farther
module _ (distances : List (Option ℕ)) (n distance : ℕ) (within : n < length distances)
    (farther : ¬ (IsWithin distances n distance)) where
  abbrev pub nearer : List (Option ℕ)
  nearer = set distances n (Some distance)

  known-same : known nearer n ≡ Some distance
  known-same = get_or-set_same distances n (Some distance) None within

  known-other : (m : ℕ) → (m ≡ n → ⊥) → known nearer m ≡ known distances m
  known-other m other = get_or-set_other distances n m (Some distance) None other

  nearer-kept : (m k : ℕ) → IsWithin distances m k → IsWithin nearer m k
  nearer-kept m k (d, is, low) =
      elim (cases_eq m n) [
        | inl same ↦ (
          distance,
          rw same known-same,
          elim (cases_lt distance d) [
            | inl below ↦ omega arith
            | inr le ↦ absurd (farther (d, rw same at is, le))
          ],
        )
        | inr other ↦ (d, known-other m other ∙ is, low)
      ]

  nearer-only : (m k : ℕ) → IsWithin nearer m k → IsWithin distances m k ⊎ ((n ≡ m) × (distance ≤ k))
  nearer-only m k (d, is, low) =
      elim (cases_eq m n) [
        | inl same ↦
            let at : known nearer n ≡ Some d = rw same at is in
            let found : distance ≡ d = same_Some distance d (sym known-same ∙ at) in
            inr (sym same, omega arith)
        | inr other ↦ inl (d, sym (known-other m other) ∙ is, low)
      ]

  total-nearer : distance < 2 ^ 64 → total nearer + 1 ≤ total distances
  total-nearer fits =
      let below : (d : ℕ) → known distances n ≡ Some d → distance < d =
      λ d is. elim (cases_lt distance d) [ inl low ↦ low | inr le ↦ absurd (farther (d, is, le)) ] in
      let drops : distance < unwrap_or (known distances n) (2 ^ 64) = lower (known distances n) distance below fits in
      let changed : total nearer + unwrap_or (known distances n) (2 ^ 64) ≡ total distances + distance =
      sum_by-set (λ d. unwrap_or d (2 ^ 64)) distances n (Some distance) None within in
      omega arith

Reaches-farther : (called : List ℕ) (n distance : ℕ) (before after : List (Option ℕ)) (reached now : List ℕ) →
    (within : n < length after) → (farther : ¬ (IsWithin after n distance)) → distance < 2 ^ 64 →
    Reaches called distance before after reached now →
    Reaches (called ++ n ∷ []) distance before (nearer after n distance within farther) reached (now ++ n ∷ [])
Reaches-farther called n distance before after reached now within farther fits reaches = record {
  len = length-set after n (Some distance) ∙ reaches.len;
  kept = λ m k near. nearer-kept after n distance within farther m k (reaches.kept m k near);
  only = λ m k near.
      elim (nearer-only after n distance within farther m k near) [
        | inl old ↦
            elim (reaches.only m k old) [
              | inl first ↦ inl first
              | inr new ↦ inr (Contains-append_left called (n ∷ []) m new.0, new.1)
            ]
        | inr new ↦ let same : n ≡ m = new.0 in inr (rw (← same) (Contains-push called n), new.1)
      ];
  each = λ m low among.
      elim (Contains-push_cases called n m among) [
        | inl old ↦ nearer-kept after n distance within farther m distance (reaches.each m low old)
        | inr last ↦ rw (← last) (distance, known-same after n distance within farther, omega arith)
      ];
  grown =
      let (added, is, told) = reaches.grown in (
        added ++ n ∷ [],
        ap (λ (xs : List ℕ). xs ++ n ∷ []) is ∙ append_assoc reached added (n ∷ []),
        λ m.
            elim (cases_eq m n) [
              | inl same ↦ inr (rw same (Contains-push added n), rw same (known-same after n distance within farther))
              | inr other ↦
                  elim (told m) [
                    | inl before_is ↦ inl (known-other after n distance within farther m other ∙ before_is)
                    | inr new ↦ inr (Contains-append_left added (n ∷ []) m new.0, known-other after n distance within farther m other ∙ new.1)
                  ]
            ],
      );
  less = omega (arith, total-nearer after n distance within farther fits, length_push now n, reaches.less);
}

module _ (called : List ℕ) (i n distance : ℕ) (before after : List (Option ℕ)) (reached now : List ℕ) (low : i < length called)
    (is : n ≡ get_or called i 0) (reaches : Reaches (take i called) distance before after reached now) where
  pub Reaches-more_known : (n < length after → IsWithin after n distance) → Reaches (take (i + 1) called) distance before after reached now
  Reaches-more_known near =
      rw (take_more called i 0 low, ← is) (Reaches-known (take i called) n distance before after reached now near reaches)

  pub Reaches-more_farther : n < length after → ¬ (IsWithin after n distance) → distance < 2 ^ 64 →
      Reaches (take (i + 1) called) distance before (set after n (Some distance)) reached (now ++ n ∷ [])
  Reaches-more_farther within farther fits =
      rw (take_more called i 0 low, ← is)
      (Reaches-farther (take i called) n distance before after reached now within farther fits reaches)

-- where each method that is reached once more is known to be nearer, less is to be done
pub Reaches-less : (called : List ℕ) (distance : ℕ) (before after : List (Option ℕ)) (reached now : List ℕ) (taken : ℕ) →
    taken < length reached → Reaches called distance before after reached now →
    total after + (length now - (taken + 1)) < total before + (length reached - taken)
Reaches-less called distance before after reached now taken within reaches =
    let grows : length now ≡ length reached + length reaches.grown.0 =
    ap length reaches.grown.1 ∙ length-append reached reaches.grown.0 in
    omega (arith, reaches.less)

-- what a search keeps: a way leads to each known method, and on from each but those that wait
pub record IsSearching (graph : Graph) (start : ℕ) (distances : List (Option ℕ)) (reached : List ℕ) (taken : ℕ) : Type 0 where
  pub len : length distances ≡ length graph
  pub begin : IsWithin distances start 0
  pub led : (m k : ℕ) → IsWithin distances m k →
      (m ≡ start) ⊎ ((n : ℕ) × (j : ℕ) × Calls graph n m × IsWithin distances n j × (j < k))
  pub spread : (m k : ℕ) → IsWithin distances m k → Contains (drop taken reached) m ⊎
      ((n : ℕ) → Calls graph m n → n < length graph → IsWithin distances n (suc k))
  pub short : (m d : ℕ) → known distances m ≡ Some d → d < length reached

known-start : (start n m : ℕ) → start < n → (m ≡ start → ⊥) → known (set (replicate n None) start (Some 0)) m ≡ None
known-start start n m within other =
    get_or-set_other (replicate n None) start m (Some 0) None other ∙
    elim (cases_lt m n) [
      | inl low ↦ get_or-replicate n m None None low
      | inr le ↦ get_or_past (replicate n None) m None (rw length-replicate le)
    ]

IsWithin-start : (start n m k : ℕ) → start < n → IsWithin (set (replicate n None) start (Some 0)) m k → m ≡ start
IsWithin-start start n m k within (d, is, low) =
    elim (cases_eq m start) [
      | inl same ↦ same
      | inr other ↦ let none = known-start start n m within other in cc
    ]

known-at : (start n : ℕ) → start < n → known (set (replicate n None) start (Some 0)) start ≡ Some 0
known-at start n within = get_or-set_same (replicate n None) start (Some 0) None (rw length-replicate within)

pub IsSearching-start : (graph : Graph) (start n : ℕ) → n ≡ length graph → start < n →
    IsSearching graph start (set (replicate n None) start (Some 0)) (start ∷ []) 0
IsSearching-start graph start n len within = record {
  len = length-set (replicate n None) start (Some 0) ∙ length-replicate n None ∙ len;
  begin = (0, known-at start n within, omega arith);
  led = λ m k near. inl (IsWithin-start start n m k within near);
  spread = λ m k near. let same = IsWithin-start start n m k within near in inl (rw same (Contains-push [] start));
  short = λ m d is.
      let same = IsWithin-start start n m d within (d, is, omega arith) in
      let none : 0 ≡ d = same_Some 0 d (sym (known-at start n within) ∙ (rw same at is)) in
      omega arith;
}

-- a method that is taken waits no more
Contains-taken : (reached : List ℕ) (taken m : ℕ) → taken < length reached → Contains (drop taken reached) m →
    (get_or reached taken 0 ≡ m) ⊎ Contains (drop (taken + 1) reached) m
Contains-taken reached taken m within waits =
    let split : drop taken reached ≡ get_or reached taken 0 ∷ drop (taken + 1) reached = drop_more reached taken 0 within in
    Contains-cons (get_or reached taken 0) (drop (taken + 1) reached) m (rw split at waits)

pub IsSearching-skip : (graph : Graph) (start : ℕ) (distances : List (Option ℕ)) (reached : List ℕ) (taken : ℕ) →
    taken < length reached → known distances (get_or reached taken 0) ≡ None → IsSearching graph start distances reached taken →
    IsSearching graph start distances reached (taken + 1)
IsSearching-skip graph start distances reached taken within none search = record {
  len = search.len;
  begin = search.begin;
  led = search.led;
  short = search.short;
  spread = λ m k near.
      elim (search.spread m k near) [
        | inl waits ↦
            elim (Contains-taken reached taken m within waits) [
              | inl same ↦ let is : known distances m ≡ Some near.0 = near.1 in let nothing : known distances m ≡ None = rw same at none in cc
              | inr later ↦ inl later
            ]
        | inr all ↦ inr all
      ];
}

-- the callees of a method that is taken are reached
module _ (graph : Graph) (start : ℕ) (before after : List (Option ℕ)) (reached now : List ℕ) (taken m distance : ℕ)
    (within : taken < length reached) (is : m ≡ get_or reached taken 0) (at : known before m ≡ Some distance)
    (search : IsSearching graph start before reached taken)
    (reaches : Reaches (callees graph m) (distance + 1) before after reached now) where
  abbrev added : List ℕ
  added = reaches.grown.0

  grows : length now ≡ length reached + length added
  grows = ap length reaches.grown.1 ∙ length-append reached added

  next-led : (n k : ℕ) → IsWithin after n k →
      (n ≡ start) ⊎ ((o : ℕ) × (j : ℕ) × Calls graph o n × IsWithin after o j × (j < k))
  next-led n k near =
      elim (reaches.only n k near) [
        | inl old ↦
            elim (search.led n k old) [
              | inl same ↦ inl same
              | inr way ↦ inr (way.0, way.1, way.2, reaches.kept way.0 way.1 way.3, way.4)
            ]
        | inr new ↦ inr (m, distance, new.0, reaches.kept m distance (distance, at, omega arith), omega (arith, new.1))
      ]

  next-waits : (n : ℕ) → Contains (drop (taken + 1) reached) n → Contains (drop (taken + 1) now) n
  next-waits n waits =
      rw (reaches.grown.1, drop-append-le (taken + 1) reached added (omega arith))
      (Contains-append_left (drop (taken + 1) reached) added n waits)

  next-new : (n : ℕ) → Contains added n → Contains (drop (taken + 1) now) n
  next-new n new =
      rw (reaches.grown.1, drop-append-le (taken + 1) reached added (omega arith))
      (Contains-append_right (drop (taken + 1) reached) added n new)

  -- the callees of the method itself are near
  next-callees : (n k : ℕ) → IsWithin before m k → Calls graph m n → n < length graph → IsWithin after n (suc k)
  next-callees n k (d, is_d, low) calls inside =
      let same : distance ≡ d = same_Some distance d (sym at ∙ is_d) in
      IsWithin-more after n (distance + 1) (suc k) (omega arith) (reaches.each n (omega (arith, search.len)) calls)

  next-spread : (n k : ℕ) → IsWithin after n k → Contains (drop (taken + 1) now) n ⊎
      ((o : ℕ) → Calls graph n o → o < length graph → IsWithin after o (suc k))
  next-spread n k (d, is_d, low) =
      elim (reaches.grown.2 n) [
        | inl same ↦
            let near : IsWithin before n k = (d, sym same ∙ is_d, low) in
            elim (search.spread n k near) [
              | inl waits ↦
                  elim (Contains-taken reached taken n within waits) [
                    | inl here ↦ inr (λ o calls inside. let e : n ≡ m = sym here ∙ sym is in next-callees o k (rw e at near) (rw e at calls) inside)
                    | inr later ↦ inl (next-waits n later)
                  ]
              | inr all ↦ inr (λ o calls inside. reaches.kept o (suc k) (all o calls inside))
            ]
        | inr new ↦ inl (next-new n new.0)
      ]

  next-short : (n d : ℕ) → known after n ≡ Some d → d < length now
  next-short n d is_d =
      elim (reaches.grown.2 n) [
        | inl same ↦ let low = search.short n d (sym same ∙ is_d) in omega (arith, grows)
        | inr new ↦
            let low = search.short m distance at in
            let found : distance + 1 ≡ d = same_Some (distance + 1) d (sym new.1 ∙ is_d) in
            omega (arith, grows, new.0.1)
      ]

  pub IsSearching-next : IsSearching graph start after now (taken + 1)
  IsSearching-next = record {
    len = reaches.len ∙ search.len;
    begin = reaches.kept start 0 search.begin;
    led = next-led;
    spread = next-spread;
    short = next-short;
  }

pub IsSearching-all : (graph : Graph) (start : ℕ) (distances : List (Option ℕ)) (reached : List ℕ) (taken : ℕ) →
    length reached ≤ taken → IsSearching graph start distances reached taken → AreDistances graph start distances
IsSearching-all graph start distances reached taken all search = record {
  begin = search.begin;
  led = search.led;
  spread = λ m n k calls within near.
      elim (search.spread m k near) [
        | inl waits ↦ let none : drop taken reached ≡ [] = drop_all taken reached all in absurd (let low = (rw none at waits).1 in omega (arith, low))
        | inr each ↦ each n calls within
      ];
}
