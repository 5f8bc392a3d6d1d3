-- Tests over lists, and the least number that passes one.
use Rattle.std.proofs.Common.{ℕ, zero, suc, min, ◌+◌, ◌<◌, ◌≤◌, ◌≡◌, ◌⊎◌, Bool, true, false, ◌||◌, Some, None, List, [], ◌∷◌, filter, inl, inr, refl, arith}
use Rattle.std.specs.List.{Contains, AllByRecursion, list_any, find, range_with_len}
use Rattle.std.proofs.lemmas.Bool.{cases_lt, cases_Bool, or_cases}
use Rattle.std.proofs.lemmas.Option.{same_Some}
use Rattle.fb_graph.specs.FirstCycle.{least}

pub Contains-here : (x : ℕ) (xs : List ℕ) → Contains (x ∷ xs) x
Contains-here x xs = (zero, omega arith, refl)

pub Contains-later : (x : ℕ) (xs : List ℕ) (m : ℕ) → Contains xs m → Contains (x ∷ xs) m
Contains-later x xs m (k, low, is) = (suc k, omega arith, is)

pub Contains-cons : (x : ℕ) (xs : List ℕ) (m : ℕ) → Contains (x ∷ xs) m → (x ≡ m) ⊎ Contains xs m
Contains-cons x xs m (zero, low, is) = inl is
Contains-cons x xs m (suc k, low, is) = inr (k, omega arith, is)

pub AllByRecursion-from : (P : ℕ → Type 0) (xs : List ℕ) → ((n : ℕ) → Contains xs n → P n) → AllByRecursion P xs
AllByRecursion-from P [] each = tt
AllByRecursion-from P (x ∷ xs) each = (each x (Contains-here x xs), AllByRecursion-from P xs (λ n among. each n (Contains-later x xs n among)))

or-right : (a b : Bool) → b ≡ true → (a || b) ≡ true
or-right true b is = refl
or-right false b is = is

module _ (p : ℕ → Bool) where
  pub any-Contains : (xs : List ℕ) → list_any p xs ≡ true → (n : ℕ) × Contains xs n × (p n ≡ true)
  any-Contains [] is = cc
  any-Contains (x ∷ xs) is =
      elim (or_cases (p x) (list_any p xs) is) [
        | inl here ↦ (x, Contains-here x xs, here)
        | inr later ↦ let (n, among, passes) = any-Contains xs later in (n, Contains-later x xs n among, passes)
      ]

  pub any-from : (xs : List ℕ) (n : ℕ) → Contains xs n → p n ≡ true → list_any p xs ≡ true
  any-from [] n among passes = absurd (omega (arith, among.1))
  any-from (x ∷ xs) n among passes =
      elim (Contains-cons x xs n among) [
        | inl same ↦ let here : p x ≡ true = rw same passes in rw here refl
        | inr later ↦ or-right (p x) (list_any p xs) (any-from xs n later passes)
      ]

  filter-Contains : (xs : List ℕ) (n : ℕ) → Contains (filter p xs) n → Contains xs n × (p n ≡ true)
  filter-Contains [] n among = absurd (omega (arith, among.1))
  filter-Contains (x ∷ xs) n among =
      elim (cases_Bool (p x)) [
        | inl passes ↦
            elim (Contains-cons x (filter p xs) n (rw passes at among)) [
              | inl same ↦ (rw (← same) (Contains-here x xs), rw (← same) passes)
              | inr later ↦ let (in_rest, is) = filter-Contains xs n later in (Contains-later x xs n in_rest, is)
            ]
        | inr fails ↦ let (in_rest, is) = filter-Contains xs n (rw fails at among) in (Contains-later x xs n in_rest, is)
      ]

  Contains-filter : (xs : List ℕ) (n : ℕ) → Contains xs n → p n ≡ true → Contains (filter p xs) n
  Contains-filter [] n among passes = absurd (omega (arith, among.1))
  Contains-filter (x ∷ xs) n among passes =
      elim (Contains-cons x xs n among) [
        | inl same ↦ let here : p x ≡ true = rw same passes in rw (here, ← same) (Contains-here x (filter p xs))
        | inr later ↦
            elim (cases_Bool (p x)) [
              | inl here ↦ rw here (Contains-later x (filter p xs) n (Contains-filter xs n later passes))
              | inr fails ↦ rw fails (Contains-filter xs n later passes)
            ]
      ]

  pub find-None : (a n : ℕ) → find p (range_with_len a n) ≡ None → (i : ℕ) → a ≤ i → i < a + n → p i ≡ false
  find-None a zero none i low high = absurd (omega arith)
  find-None a (suc n) none i low high =
      elim (cases_Bool (p a)) [
        | inl passes ↦ let found = rw passes at none in cc
        | inr fails ↦
            elim (cases_lt a i) [
              | inl later ↦ find-None (a + 1) n (rw fails at none) i (omega arith) (omega arith)
              | inr le ↦ let same : i ≡ a = omega arith in rw same fails
            ]
      ]

  pub find-Some : (a n i : ℕ) → find p (range_with_len a n) ≡ Some i →
      (i < a + n) × (p i ≡ true) × ((j : ℕ) → a ≤ j → j < i → p j ≡ false)
  find-Some a zero i found = cc
  find-Some a (suc n) i found =
      elim (cases_Bool (p a)) [
        | inl passes ↦
            let same : a ≡ i = same_Some a i (rw passes at found) in
            (omega arith, rw (← same) passes, λ j low high. absurd (omega arith))
        | inr fails ↦
            let (low, passes, first) = find-Some (a + 1) n i (rw fails at found) in (
              omega arith,
              passes,
              λ j from high.
                  elim (cases_lt a j) [
                    | inl later ↦ first j (omega arith) high
                    | inr le ↦ let same : j ≡ a = omega arith in rw same fails
                  ],
            )
      ]

least-among : (n : ℕ) (ns : List ℕ) → Contains (n ∷ ns) (least (n ∷ ns))
unfolding least
least-among n [] = Contains-here n []
least-among n (m ∷ ns) =
    let rest = least-among m ns in
    elim (cases_lt n (least (m ∷ ns))) [
      | inl lower ↦ let is : min n (least (m ∷ ns)) ≡ n = omega arith in rw is (Contains-here n (m ∷ ns))
      | inr le ↦
          let is : min n (least (m ∷ ns)) ≡ least (m ∷ ns) = omega arith in
          rw is (Contains-later n (m ∷ ns) (least (m ∷ ns)) rest)
    ]

least-least : (ns : List ℕ) (m : ℕ) → Contains ns m → least ns ≤ m
unfolding least
least-least [] m among = absurd (omega (arith, among.1))
least-least (n ∷ []) m among =
    elim (Contains-cons n [] m among) [
      | inl same ↦ omega arith
      | inr later ↦ absurd (omega (arith, later.1))
    ]
least-least (n ∷ k ∷ ns) m among =
    elim (Contains-cons n (k ∷ ns) m among) [
      | inl same ↦ omega arith
      | inr later ↦ let low = least-least (k ∷ ns) m later in omega arith
    ]

least-in : (ns : List ℕ) (m : ℕ) → Contains ns m → Contains ns (least ns)
least-in [] m among = absurd (omega (arith, among.1))
least-in (n ∷ ns) m among = least-among n ns

-- the least that passes is among them, passes, and no lesser one does
pub least-passing : (p : ℕ → Bool) (xs : List ℕ) → list_any p xs ≡ true →
    Contains xs (least (filter p xs)) × (p (least (filter p xs)) ≡ true) ×
    ((m : ℕ) → Contains xs m → p m ≡ true → least (filter p xs) ≤ m)
least-passing p xs some =
    let (n, among, passes) = any-Contains p xs some in
    let found = filter-Contains p xs (least (filter p xs)) (least-in (filter p xs) n (Contains-filter p xs n among passes)) in
    (found.0, found.1, λ m inside is. least-least (filter p xs) m (Contains-filter p xs m inside is))
