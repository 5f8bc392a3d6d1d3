use Rattle.std.proofs.Common.{Option, List, ℕ, arith}
use Rattle.fb_graph.specs.Graph.{callees}
use Rattle.fb_graph.specs.Distances.{AreUnknown, IsNearest}
use Rattle.fb_graph.proofs.Steps.{IsNearestOf, nearest-IsSome, nearest-is}
use Rattle.fb_graph.proofs.Shortest.{IsOnWay-start, IsOnWay-next, nearer-callee, no-cycle-unknown}
use Rattle.fb_graph.proofs.graph.CallGraph.cycle_of.Goals as goal

pub returns-in_default-clause-none : goal.returns-in_default-clause-none
returns-in_default-clause-none c =
    let distances : List (Option ℕ) = c.in_ok-distances.distances.items in
    let unknown : AreUnknown distances (callees c.args.self.now c.args.method) =
    rw (← c.deref.ensures.value, ← c.callees.ensures) c.in_default.ensures in
    no-cycle-unknown c.args.self.now c.args.reversed.now c.requires.reversed c.args.method c.requires.within distances
    c.in_ok-distances.ensures unknown

pub loop-step-init : goal.loop-step-init
loop-step-init c =
    let distances : List (Option ℕ) = c.in_ok-distances.distances.items in
    let nearest : IsNearest distances (callees c.args.self.now c.args.method) c.in-Some.step =
    rw (← c.deref.ensures.value, ← c.callees.ensures) c.in-Some.ensures in
    rw c.new-through.ensures
    (IsOnWay-start c.args.self.now c.args.reversed.now c.requires.reversed c.args.method c.requires.within distances
    c.in_ok-distances.ensures c.in-Some.step nearest)

pub unwrap-step-requires : goal.unwrap-step-requires
unwrap-step-requires c =
    let graph = c.args.self.now in
    let distances : List (Option ℕ) = c.in_ok-distances.distances.items in
    let step = c.loop-step.step in
    let nearest : IsNearestOf distances (callees graph step.callee) c.nearest-in-loop-step.result =
    rw (← c.deref-in-loop-step.ensures.value, ← c.callees-in-loop-step.ensures) c.nearest-in-loop-step.ensures in
    let (n, d, calls, known, nearer) =
    nearer-callee graph c.args.reversed.now c.requires.reversed c.args.method c.requires.within distances
    c.in_ok-distances.ensures c.loop-step.through step c.loop-step-test.true c.loop-step.invariant in
    nearest-IsSome distances (callees graph step.callee) c.nearest-in-loop-step.result n d calls known nearest

pub loop-step-smaller : goal.loop-step-smaller
loop-step-smaller c =
    let graph = c.args.self.now in
    let distances : List (Option ℕ) = c.in_ok-distances.distances.items in
    let step = c.loop-step.step in
    let nearest : IsNearestOf distances (callees graph step.callee) c.nearest-in-loop-step.result =
    rw (← c.deref-in-loop-step.ensures.value, ← c.callees-in-loop-step.ensures) c.nearest-in-loop-step.ensures in
    let next = nearest-is distances (callees graph step.callee) c.nearest-in-loop-step.result c.unwrap-step.result c.unwrap-step.ensures nearest in
    let (n, d, calls, known, nearer) =
    nearer-callee graph c.args.reversed.now c.requires.reversed c.args.method c.requires.within distances
    c.in_ok-distances.ensures c.loop-step.through step c.loop-step-test.true c.loop-step.invariant in
    omega (arith, (next.first n d calls known).0)

pub loop-step-preserved : goal.loop-step-preserved
loop-step-preserved c =
    let graph = c.args.self.now in
    let distances : List (Option ℕ) = c.in_ok-distances.distances.items in
    let step = c.loop-step.step in
    let nearest : IsNearestOf distances (callees graph step.callee) c.nearest-in-loop-step.result =
    rw (← c.deref-in-loop-step.ensures.value, ← c.callees-in-loop-step.ensures) c.nearest-in-loop-step.ensures in
    rw c.in_ok-push.ensures.ok
    (IsOnWay-next graph c.args.reversed.now c.requires.reversed c.args.method c.requires.within distances c.in_ok-distances.ensures
    c.loop-step.through step c.unwrap-step.result c.loop-step-test.true c.loop-step.invariant
    (nearest-is distances (callees graph step.callee) c.nearest-in-loop-step.result c.unwrap-step.result c.unwrap-step.ensures nearest))

pub returns-clause-first : goal.returns-clause-first
returns-clause-first c = c.loop-step.invariant.there (omega arith)
