use Rattle.std.proofs.Common.{◌≡◌, ◌+◌, ◌<◌, ◌∙◌, [], ◌∷◌, replicate, rules, ℕ, Option, None, List, length, get_or, ap, sym, arith}
use Rattle.std.proofs.lemmas.List.{get_or_read}
use Rattle.fb_graph.proofs.Searches.{known, IsSearching-next, Reaches-less, IsSearching-start, IsSearching-skip, IsSearching-all}
use Rattle.fb_graph.proofs.graph.CallGraph.distances_from.Goals as goal
use Rattle.fb_graph.proofs.graph.CallGraph.distances_from.Goals.{in-Some+in_ok-reach, in_default}

pub loop-taken-init : goal.loop-taken-init
loop-taken-init c =
    let none : c.in_ok-distances.distances.items ≡ replicate {A = Option ℕ} c.len.result None = search rules in
    let start : c.push.new.self.items ≡ c.args.start ∷ [] = search rules in
    rw (none, start)
    (IsSearching-start c.args.self.now c.args.start c.len.result c.len.ensures (omega arith))

pub loop-taken-smaller : goal.loop-taken-smaller
loop-taken-smaller c =
    elim c.match-distance_of.branch [
      | in-Some+in_ok-reach w ↦
          rw (w.distances-is, w.reached-is)
          (Reaches-less w.callees.result.now (w.in-Some.distance + 1) c.loop-taken.distances.items w.reach.new.distances.items
          c.loop-taken.reached.items w.reach.new.reached.items c.loop-taken.taken (omega arith) w.in_ok-reach.ensures)
      | in_default w ↦
          rw (w.distances-is, w.reached-is)
          (omega arith)
    ]

pub loop-taken-preserved : goal.loop-taken-preserved
loop-taken-preserved c =
    let graph = c.args.self.now in
    let now : List (Option ℕ) = c.loop-taken.distances.items in
    let reached : List ℕ = c.loop-taken.reached.items in
    let taken = c.loop-taken.taken in
    let m : ℕ = c.index-method.result.now in
    let within : taken < length reached = omega arith in
    let is : m ≡ get_or reached taken 0 = get_or_read reached taken m within c.index-method.ensures 0 in
    let told : c.distance_of.result ≡ known now m =
    c.distance_of.ensures ∙ ap (λ (ds : List (Option ℕ)). known ds m) c.deref.ensures.value in
    elim c.match-distance_of.branch [
      | in-Some+in_ok-reach w ↦
          rw (w.distances-is, w.reached-is)
          (IsSearching-next graph c.args.start now w.reach.new.distances.items reached w.reach.new.reached.items taken m
          w.in-Some.distance within is (sym told ∙ w.in-Some.is) c.loop-taken.invariant
          (rw (← w.callees.ensures) w.in_ok-reach.ensures))
      | in_default w ↦
          rw (w.distances-is, w.reached-is)
          (IsSearching-skip graph c.args.start now reached taken within (rw (← is) (sym told ∙ w.in_default.is)) c.loop-taken.invariant)
    ]

pub returns : goal.returns
returns c =
    IsSearching-all c.args.self.now c.args.start c.loop-taken.distances.items c.loop-taken.reached.items c.loop-taken.taken
    (omega arith) c.loop-taken.invariant
