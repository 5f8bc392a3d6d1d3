-- The calls of a run, each at its index: how many, how answered, and that no two have one index.
use Rattle.std.specs.Prelude.{◌≡◌, ℕ, ◌+◌, ◌≤◌, ◌==◌, true, if◌then◌else◌, List, [], ◌∷◌, ◌++◌, length, map}
use Rattle.std.proofs.Common.{refl, sym, ap, ◌∙◌, subst, append_assoc, length-append, arith}
use Rattle.std.proofs.lemmas.List.{map-append}
use Rattle.std.proofs.lemmas.Bool.Decides.{Decides-eqb}
use Rattle.fb_index.specs.Entry.{Occurrence}
use Rattle.fb_tree.specs.Runs.{Invocation, CallList, NoCalls, AndCall, How, Faulted, Ran, Known as KnownHow}
use Rattle.fb_tree.specs.Records.{steps_of_run}
use Rattle.fb_tree.specs.Calls.{PlacedCall, calls_at, calls_within, calls_below, call_at}
use Rattle.fb_tree.specs.declared.asked.Asked.{Asked}
use Rattle.fb_transport.specs.Sources.{Source}
use Rattle.fb_meaning.specs.CallLaws.{AreCounted, AreCountedBelow, AreDecided, IsDecidedSo, calls_count, calls_count_below}
use Rattle.fb_meaning.specs.Each.{HoldsOfEach, AreApart}
use Rattle.fb_meaning.specs.RunLaws.{failure_of, IsAnswered, RunsAreLawful}
use Rattle.fb_meaning.proofs.CallRecords.{test_counted, test_decided, test_few}
use Rattle.fb_meaning.proofs.Units.{test_costs, Costs}

pub each_joined : {A : Type 0} (P : A → Type 0) (xs ys : List A) → HoldsOfEach P xs → HoldsOfEach P ys → HoldsOfEach P (xs ++ ys)
each_joined P [] ys h k = k
each_joined P (x ∷ xs) ys h k = (h.0, each_joined P xs ys h.1 k)

pub each_so : {A : Type 0} (P Q : A → Type 0) → ((x : A) → P x → Q x) → (xs : List A) → HoldsOfEach P xs → HoldsOfEach Q xs
each_so P Q f [] h = tt
each_so P Q f (x ∷ xs) h = (f x h.0, each_so P Q f xs h.1)

-- ---- how many

mutual
  unfolding calls_within calls_count

  count_within : (index : List Occurrence) (calls : CallList) → length (calls_within index calls) ≡ calls_count calls
  count_within index NoCalls = refl
  count_within index (AndCall before asked how) =
      let here : List PlacedCall = call_at (index ++ asked.entry ∷ []) asked how ∷ calls_below (index ++ asked.entry ∷ []) how in
      omega (arith, length-append (calls_within index before) here, count_within index before, count_below (index ++ asked.entry ∷ []) how)

  count_below : (index : List Occurrence) (how : How) → length (calls_below index how) ≡ calls_count_below how
  count_below index Faulted = refl
  count_below index (Ran (Invocation method args calls reply steps)) = count_within index calls
  count_below index (KnownHow steps injected) = refl

-- ---- how answered

answered_here : (source : Source) (index : List Occurrence) (asked : Asked) (how : How) → IsDecidedSo source index asked how → IsAnswered source (call_at index asked how)
unfolding AreDecided
answered_here source index asked Faulted h = sym (ap failure_of h)
answered_here source index asked (Ran (Invocation method args calls reply steps)) h = sym (ap failure_of h.0)
answered_here source index asked (KnownHow steps injected) h = sym (ap failure_of h)

mutual
  unfolding calls_within AreDecided

  answered_within : (source : Source) (index : List Occurrence) (calls : CallList) → AreDecided source index calls → HoldsOfEach (IsAnswered source) (calls_within index calls)
  answered_within source index NoCalls h = tt
  answered_within source index (AndCall before asked how) h =
      each_joined (IsAnswered source) (calls_within index before) (call_at (index ++ asked.entry ∷ []) asked how ∷ calls_below (index ++ asked.entry ∷ []) how)
      (answered_within source index before h.0)
      (answered_here source (index ++ asked.entry ∷ []) asked how h.1, answered_below source (index ++ asked.entry ∷ []) asked how h.1)

  answered_below : (source : Source) (index : List Occurrence) (asked : Asked) (how : How) → IsDecidedSo source index asked how → HoldsOfEach (IsAnswered source) (calls_below index how)
  answered_below source index asked Faulted h = tt
  answered_below source index asked (Ran (Invocation method args calls reply steps)) h = answered_within source index calls h.4
  answered_below source index asked (KnownHow steps injected) h = tt

-- ---- apart

-- the index goes on from this one by an entry that some call of these has
record IsUnder (index : List Occurrence) (calls : CallList) (call : PlacedCall) : Type 0 where
  entry : Occurrence
  rest : List Occurrence
  placed : call.index ≡ index ++ (entry ∷ rest)
  counted : entry.count ≤ calls_at entry.site calls

-- the index goes on from this one
pub record GoesOn (index : List Occurrence) (call : PlacedCall) : Type 0 where
  pub entry : Occurrence
  pub rest : List Occurrence
  pub placed : call.index ≡ index ++ (entry ∷ rest)

same_site : (n : ℕ) → (n == n) ≡ true
same_site n = (Decides-eqb n n).1 refl

under_later : (index : List Occurrence) (before : CallList) (asked : Asked) (how : How) (call : PlacedCall) → IsUnder index before call → IsUnder index (AndCall before asked how) call
under_later index before asked how call h = record { entry = h.entry; rest = h.rest; placed = h.placed; counted = omega (arith, h.counted) }

pub new_count : (before : CallList) (asked : Asked) (how : How) → asked.entry.count ≡ calls_at asked.entry.site before + 1 → asked.entry.count ≤ calls_at asked.entry.site (AndCall before asked how)
new_count before asked how e =
    let one : calls_at asked.entry.site (AndCall before asked how) ≡ calls_at asked.entry.site before + 1 =
    ap (λ b. calls_at asked.entry.site before + (if b then 1 else 0)) (same_site asked.entry.site) in
    omega (arith, e, one)

under_new : (index : List Occurrence) (before : CallList) (asked : Asked) (how : How) → asked.entry.count ≡ calls_at asked.entry.site before + 1
    → (call : PlacedCall) → GoesOn (index ++ (asked.entry ∷ [])) call → IsUnder index (AndCall before asked how) call
under_new index before asked how e call h = record {
  entry = asked.entry;
  rest = h.entry ∷ h.rest;
  placed = h.placed ∙ append_assoc index (asked.entry ∷ []) (h.entry ∷ h.rest);
  counted = new_count before asked how e;
}

goes_on : (index : List Occurrence) (calls : CallList) (call : PlacedCall) → IsUnder index calls call → GoesOn index call
goes_on index calls call h = record { entry = h.entry; rest = h.rest; placed = h.placed }

mutual
  unfolding calls_within AreCounted

  under_within : (index : List Occurrence) (calls : CallList) → AreCounted calls → HoldsOfEach (IsUnder index calls) (calls_within index calls)
  under_within index NoCalls h = tt
  under_within index (AndCall before asked how) h =
      each_joined (IsUnder index (AndCall before asked how)) (calls_within index before) (call_at (index ++ asked.entry ∷ []) asked how ∷ calls_below (index ++ asked.entry ∷ []) how)
      (each_so (IsUnder index before) (IsUnder index (AndCall before asked how)) (under_later index before asked how) (calls_within index before) (under_within index before h.0)) (
        record { entry = asked.entry; rest = []; placed = refl; counted = new_count before asked how h.1 },
        each_so (GoesOn (index ++ (asked.entry ∷ []))) (IsUnder index (AndCall before asked how)) (under_new index before asked how h.1)
            (calls_below (index ++ asked.entry ∷ []) how) (under_below (index ++ asked.entry ∷ []) how h.2),
      )

  under_below : (index : List Occurrence) (how : How) → AreCountedBelow how → HoldsOfEach (GoesOn index) (calls_below index how)
  under_below index Faulted h = tt
  under_below index (Ran (Invocation method args calls reply steps)) h =
      each_so (IsUnder index calls) (GoesOn index) (goes_on index calls) (calls_within index calls) (under_within index calls h)
  under_below index (KnownHow steps injected) h = tt

-- what goes on from a list by different entries differs
pub same_next : (index : List Occurrence) (a b : Occurrence) (xs ys : List Occurrence) → index ++ (a ∷ xs) ≡ index ++ (b ∷ ys) → a ≡ b
same_next [] a b xs ys e = cc
same_next (first ∷ index) a b xs ys e = let rest : index ++ (a ∷ xs) ≡ index ++ (b ∷ ys) = cc in same_next index a b xs ys rest

pub not_longer : (index : List Occurrence) (a : Occurrence) (xs : List Occurrence) → ¬ (index ≡ index ++ (a ∷ xs))
not_longer index a xs e = let long = ap length e in absurd (omega (arith, long, length-append index (a ∷ xs)))

-- an earlier call of a body, or one below it, has another index than one that a later call leads to
differs_from_new : (index : List Occurrence) (before : CallList) (asked : Asked) → asked.entry.count ≡ calls_at asked.entry.site before + 1
    → (call other : PlacedCall) (rest : List Occurrence) → IsUnder index before call → other.index ≡ index ++ (asked.entry ∷ rest) → ¬ (call.index ≡ other.index)
differs_from_new index before asked e call other rest h f same =
    let entries : h.entry ≡ asked.entry = same_next index h.entry asked.entry h.rest rest (sym h.placed ∙ same ∙ f) in
    let counted : asked.entry.count ≤ calls_at asked.entry.site before = subst (λ entry. entry.count ≤ calls_at entry.site before) entries h.counted in
    omega (arith, counted, e)

-- lists of calls of which each differs from each
pub apart_joined : (xs ys : List PlacedCall) → AreApart (map (λ call. call.index) xs) → AreApart (map (λ call. call.index) ys)
    → HoldsOfEach (λ x. HoldsOfEach (λ y. ¬ (x.index ≡ y.index)) ys) xs → AreApart (map (λ call. call.index) (xs ++ ys))
apart_joined [] ys h k differ = k
apart_joined (x ∷ xs) ys h k differ = (
  subst (HoldsOfEach (λ i. ¬ (x.index ≡ i))) (sym (map-append (λ (call : PlacedCall). call.index) xs ys))
      (each_joined (λ i. ¬ (x.index ≡ i)) (map (λ call. call.index) xs) (map (λ call. call.index) ys) h.0 (each_index x ys differ.0)),
  apart_joined xs ys h.1 k differ.1,
)
  where
    each_index : (x : PlacedCall) (ys : List PlacedCall) → HoldsOfEach (λ y. ¬ (x.index ≡ y.index)) ys → HoldsOfEach (λ i. ¬ (x.index ≡ i)) (map (λ call. call.index) ys)
    each_index x [] h = tt
    each_index x (y ∷ ys) h = (h.0, each_index x ys h.1)

pub each_index_differs : (index : List Occurrence) (ys : List PlacedCall) → HoldsOfEach (GoesOn index) ys → HoldsOfEach (λ i. ¬ (index ≡ i)) (map (λ call. call.index) ys)
each_index_differs index [] h = tt
each_index_differs index (y ∷ ys) h =
    ((λ e. not_longer index (h.0).entry (h.0).rest (e ∙ (h.0).placed)), each_index_differs index ys h.1)

mutual
  unfolding calls_within AreCounted

  pub apart_within : (index : List Occurrence) (calls : CallList) → AreCounted calls → AreApart (map (λ call. call.index) (calls_within index calls))
  apart_within index NoCalls h = tt
  apart_within index (AndCall before asked how) h =
      apart_joined (calls_within index before) (call_at (index ++ asked.entry ∷ []) asked how ∷ calls_below (index ++ asked.entry ∷ []) how)
      (apart_within index before h.0) (
        each_index_differs (index ++ asked.entry ∷ []) (calls_below (index ++ asked.entry ∷ []) how) (under_below (index ++ asked.entry ∷ []) how h.2),
        apart_below (index ++ asked.entry ∷ []) how h.2,
      )
      (each_so (IsUnder index before) (λ x. HoldsOfEach (λ y. ¬ (x.index ≡ y.index)) (call_at (index ++ asked.entry ∷ []) asked how ∷ calls_below (index ++ asked.entry ∷ []) how))
      (λ x under. (
        differs_from_new index before asked h.1 x (call_at (index ++ asked.entry ∷ []) asked how) [] under refl,
        each_so (GoesOn (index ++ asked.entry ∷ [])) (λ y. ¬ (x.index ≡ y.index))
            (λ y on. differs_from_new index before asked h.1 x y (on.entry ∷ on.rest) under (on.placed ∙ append_assoc index (asked.entry ∷ []) (on.entry ∷ on.rest)))
            (calls_below (index ++ asked.entry ∷ []) how) (under_below (index ++ asked.entry ∷ []) how h.2),
      ))
      (calls_within index before) (under_within index before h.0))

  apart_below : (index : List Occurrence) (how : How) → AreCountedBelow how → AreApart (map (λ call. call.index) (calls_below index how))
  apart_below index Faulted h = tt
  apart_below index (Ran (Invocation method args calls reply steps)) h = apart_within index calls h
  apart_below index (KnownHow steps injected) h = tt

-- ---- runs

pub runs_are_lawful : RunsAreLawful
runs_are_lawful services test source fuel run left e = record {
  answered = answered_within source [] run.calls (test_decided services source test fuel run left e);
  apart = apart_within [] run.calls (test_counted services source test fuel run left e);
  few =
      let costs : left + steps_of_run run ≡ fuel = subst (Costs steps_of_run fuel) e (test_costs services source test fuel) in
      omega (arith, count_within [] run.calls, test_few services source test fuel run left e, costs);
}
