use Rattle.std.proofs.Common.{◌≡◌, ◌<◌, ◌≤◌, ℕ, Some, None, List, ◌+◌, inl, inr, refl, arith, length}
use Rattle.std.specs.Bool.{⊤}
use Rattle.std.proofs.lemmas.Bool.{cases_lt}
use Rattle.std.proofs.lemmas.Option.{MatchOption-at_some}
use Rattle.fb_graph.specs.Graph.{Graph}
use Rattle.fb_graph.specs.Cycle.{IsFirstCycle, IsOnNoCycle, TellsFirstCycle}
use Rattle.fb_graph.specs.FirstCycle.{first_cycle}
use Rattle.fb_graph.proofs.Cycles.{first_cycle-tells, one-first}
use Rattle.fb_graph.specs.Levels.{AllBelow}
use Rattle.fb_graph.proofs.Walks.{no-cycle-above, no-cycle-beyond, through-within}
use Rattle.fb_graph.proofs.graph.CallGraph.first_cycle.Goals as goal

one-more : (graph : Graph) (i : ℕ) → ((m : ℕ) → m < i → IsOnNoCycle graph m) → IsOnNoCycle graph i →
    (m : ℕ) → m < i + 1 → IsOnNoCycle graph m
one-more graph i before here m low =
    elim (cases_lt m i) [
      | inl lower ↦ before m lower
      | inr le ↦ let same : m ≡ i = omega arith in rw same here
    ]

pub loop-method-preserved-then-all_below : goal.loop-method-preserved-then-all_below
loop-method-preserved-then-all_below c =
    let graph = c.args.self.now in
    let levels : List ℕ = c.in_ok-levels.levels.items in
    let below : AllBelow graph levels c.loop-method.method = rw (← c.deref.ensures.value) (c.if-all_below.ensures.0 refl) in
    one-more graph c.loop-method.method c.loop-method.invariant
    (no-cycle-above graph levels c.in_ok-levels.ensures.fall c.loop-method.method below)

-- what is told where no method is on a cycle, and where one is
told-none : (graph : Graph) (count : ℕ) → length graph ≤ count → ((m : ℕ) → m < count → IsOnNoCycle graph m) →
    TellsFirstCycle graph None
told-none graph count all before m =
    elim (cases_lt m count) [
      | inl lower ↦ before m lower
      | inr le ↦ no-cycle-beyond graph m (omega arith)
    ]

pub returns-in-Some-clause-told : goal.returns-in-Some-clause-told
returns-in-Some-clause-told c =
    let graph = c.args.self.now in
    let m = c.loop-method.method in
    let first : IsFirstCycle graph m c.in-Some.through =
    MatchOption-at_some ⊤ (IsFirstCycle graph m) c.in-Some.through c.in-Some.is c.in_ok-through.ensures.first in
    one-first graph (Some (record { first = m; through = c.in-Some.through })) (first_cycle graph)
    (first, c.loop-method.invariant) (first_cycle-tells graph)

pub returns-in-Some-clause-within : goal.returns-in-Some-clause-within
returns-in-Some-clause-within c =
    let graph = c.args.self.now in
    let first : IsFirstCycle graph c.loop-method.method c.in-Some.through =
    MatchOption-at_some ⊤ (IsFirstCycle graph c.loop-method.method) c.in-Some.through c.in-Some.is c.in_ok-through.ensures.first in
    (omega arith, through-within graph c.loop-method.method c.in-Some.through c.loop-method.method first.walk)

pub returns-clause-told : goal.returns-clause-told
returns-clause-told c =
    let graph = c.args.self.now in
    one-first graph None (first_cycle graph) (told-none graph c.loop-method.method (omega arith) c.loop-method.invariant)
    (first_cycle-tells graph)

pub returns-clause-first : goal.returns-clause-first
returns-clause-first c = told-none c.args.self.now c.loop-method.method (omega arith) c.loop-method.invariant
