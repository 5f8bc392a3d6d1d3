-- A caller more for some methods, and for all.
use Rattle.std.proofs.Common.{ℕ, ◌+◌, ◌<◌, ◌≤◌, ◌≡◌, ◌⊎◌, List, [], ◌∷◌, ◌++◌, take, length, get_or, inl, inr, arith, sym}
use Rattle.std.proofs.Math.ListN.{set}
use Rattle.std.proofs.lemmas.Bool.{cases_lt, cases_eq}
use Rattle.std.proofs.lemmas.List.{get_or-set_same, get_or-set_other, length-set, take_more}
use Rattle.std.proofs.lemmas.List.Elements.{Contains-push, Contains-push_cases, Contains-append_left}
use Rattle.fb_graph.specs.Graph.{Graph, Calls, callees}
use Rattle.fb_graph.specs.Reverse.{IsReverse, AddsCaller}
use Rattle.fb_graph.proofs.Graphs.{caller-within}

-- the graph with one callee more for this method
abbrev pub with_callee : Graph → ℕ → ℕ → Graph
with_callee graph n m = set graph n (callees graph n ++ m ∷ [])

callees-same : (graph : Graph) (n m : ℕ) → n < length graph → callees (with_callee graph n m) n ≡ callees graph n ++ m ∷ []
callees-same graph n m within = get_or-set_same graph n (callees graph n ++ m ∷ []) [] within

callees-other : (graph : Graph) (n m o : ℕ) → (o ≡ n → ⊥) → callees (with_callee graph n m) o ≡ callees graph o
callees-other graph n m o other = get_or-set_other graph n o (callees graph n ++ m ∷ []) [] other

Calls-kept : (graph : Graph) (n m o k : ℕ) → n < length graph → Calls graph o k → Calls (with_callee graph n m) o k
Calls-kept graph n m o k within calls =
    elim (cases_eq o n) [
      | inl same ↦ rw (same, callees-same graph n m within) (Contains-append_left (callees graph n) (m ∷ []) k (rw same at calls))
      | inr other ↦ rw (callees-other graph n m o other) calls
    ]

Calls-only : (graph : Graph) (n m o k : ℕ) → n < length graph → Calls (with_callee graph n m) o k → Calls graph o k ⊎ ((o ≡ n) × (m ≡ k))
Calls-only graph n m o k within calls =
    elim (cases_eq o n) [
      | inl same ↦
          elim (Contains-push_cases (callees graph n) m k (rw (same, callees-same graph n m within) at calls)) [
            | inl before ↦ inl (rw same before)
            | inr last ↦ inr (same, last)
          ]
      | inr other ↦ inl (rw (callees-other graph n m o other) at calls)
    ]

Calls-new : (graph : Graph) (n m : ℕ) → n < length graph → Calls (with_callee graph n m) n m
Calls-new graph n m within = rw (callees-same graph n m within) (Contains-push (callees graph n) m)

AddsCaller-push : (called : List ℕ) (caller n : ℕ) (before now : Graph) → n < length now → AddsCaller called caller before now →
    AddsCaller (called ++ n ∷ []) caller before (with_callee now n caller)
AddsCaller-push called caller n before now within adds = record {
  len = rw length-set adds.len;
  kept = λ m o calls. Calls-kept now n caller o m within (adds.kept m o calls);
  only = λ m o calls.
      elim (Calls-only now n caller o m within calls) [
        | inl old ↦
            elim (adds.only m o old) [
              | inl first ↦ inl first
              | inr new ↦ inr (new.0, Contains-append_left called (n ∷ []) o new.1)
            ]
        | inr new ↦ inr (sym new.1, (let same : n ≡ o = sym new.0 in rw (← same) (Contains-push called n)))
      ];
  each = λ o low among.
      elim (Contains-push_cases called n o among) [
        | inl old ↦ Calls-kept now n caller o caller within (adds.each o low old)
        | inr last ↦ rw (← last) (Calls-new now n caller within)
      ];
}

AddsCaller-past : (called : List ℕ) (caller n : ℕ) (before now : Graph) → length now ≤ n → AddsCaller called caller before now →
    AddsCaller (called ++ n ∷ []) caller before now
AddsCaller-past called caller n before now past adds = record {
  len = adds.len;
  kept = adds.kept;
  only = λ m o calls.
      elim (adds.only m o calls) [
        | inl first ↦ inl first
        | inr new ↦ inr (new.0, Contains-append_left called (n ∷ []) o new.1)
      ];
  each = λ o low among.
      elim (Contains-push_cases called n o among) [
        | inl old ↦ adds.each o low old
        | inr last ↦ absurd (omega (arith, adds.len))
      ];
}

module _ (called : List ℕ) (caller i n : ℕ) (before now : Graph) (low : i < length called) (is : n ≡ get_or called i 0)
    (adds : AddsCaller (take i called) caller before now) where
  pub AddsCaller-more : n < length now → AddsCaller (take (i + 1) called) caller before (with_callee now n caller)
  AddsCaller-more within = rw (take_more called i 0 low, ← is) (AddsCaller-push (take i called) caller n before now within adds)

  pub AddsCaller-more_past : length now ≤ n → AddsCaller (take (i + 1) called) caller before now
  AddsCaller-more_past past = rw (take_more called i 0 low, ← is) (AddsCaller-past (take i called) caller n before now past adds)

-- the calls of the first methods are turned round
pub record ReversesBelow (graph : Graph) (count : ℕ) (now : Graph) : Type 0 where
  pub len : length now ≡ length graph
  pub only : (m n : ℕ) → Calls now n m → Calls graph m n
  pub each : (m n : ℕ) → m < count → n < length graph → Calls graph m n → Calls now n m

pub ReversesBelow-more : (graph before now : Graph) (count : ℕ) → ReversesBelow graph count before →
    AddsCaller (callees graph count) count before now → ReversesBelow graph (count + 1) now
ReversesBelow-more graph before now count below adds = record {
  len = omega (arith, adds.len, below.len);
  only = λ m n calls.
      elim (adds.only m n calls) [
        | inl old ↦ below.only m n old
        | inr new ↦ let same : m ≡ count = new.0 in rw same new.1
      ];
  each = λ m n low within calls.
      elim (cases_lt m count) [
        | inl old ↦ adds.kept m n (below.each m n old within calls)
        | inr le ↦ let same : m ≡ count = omega arith in rw same (adds.each n (omega (arith, below.len)) (rw same at calls))
      ];
}

pub ReversesBelow-all : (graph now : Graph) (count : ℕ) → length graph ≤ count → ReversesBelow graph count now → IsReverse graph now
ReversesBelow-all graph now count all below = record {
  len = below.len;
  only = below.only;
  each = λ m n within calls. below.each m n (omega (arith, caller-within graph m n calls)) within calls;
}
