use Rattle.std.proofs.Common.{◌∙◌, refl, sym, arith, get_or}
use Rattle.fb_graph.proofs.Steps.{nearest-more, nearest-more_unknown}
use Rattle.fb_graph.proofs.cycle.nearest.Goals as goal
use Rattle.fb_graph.proofs.cycle.nearest.Goals.{in-Some, in_default}

pub loop-method-preserved : goal.loop-method-preserved
loop-method-preserved c =
    let distances = c.args.distances.now in
    let called = c.args.methods.now in
    let i = c.loop-method.method-index in
    let n = get_or called i 0 in
    let nearest = c.loop-method.nearest in
    elim c.match-distance_of.branch [
      | in-Some w ↦
          rw w.nearest-is
          (nearest-more distances called i n nearest (omega arith) refl c.loop-method.invariant w.in-Some.distance w.nearer.result
          (sym c.distance_of.ensures ∙ w.in-Some.is) w.nearer.ensures.one w.nearer.ensures.known w.nearer.ensures.step)
      | in_default w ↦
          rw w.nearest-is
          (nearest-more_unknown distances called i n nearest (omega arith) refl c.loop-method.invariant
          (sym c.distance_of.ensures ∙ w.in_default.is))
    ]
