use Rattle.std.proofs.Common.{◌≡◌, ◌<◌, ℕ, Option, List, length, get_or, refl, arith}
use Rattle.std.specs.Bool.{MatchBool}
use Rattle.fb_graph.specs.Distances.{IsWithin}
use Rattle.fb_graph.proofs.Searches.{Reaches-more_known, Reaches-more_farther}
use Rattle.fb_graph.proofs.distances.reach.Goals as goal
use Rattle.fb_graph.proofs.distances.reach.Goals.{then-is_farther+in_ok-push, else-is_farther}

pub loop-method-preserved : goal.loop-method-preserved
loop-method-preserved c =
    let called = c.args.methods.now in
    let distance = c.args.distance in
    let before : List (Option ℕ) = c.args.distances.now.items in
    let now : List (Option ℕ) = c.loop-method.distances.items in
    let was : List ℕ = c.args.reached.now.items in
    let reached : List ℕ = c.loop-method.reached.items in
    let i = c.loop-method.method-index in
    let n : ℕ = get_or called i 0 in
    let same : c.deref.result.now ≡ now = c.deref.ensures.value in
    let known : n < length now → MatchBool c.is_farther.result (¬ (IsWithin now n distance)) (IsWithin now n distance) =
    rw same at c.is_farther.ensures.known in
    elim c.if-is_farther.branch [
      | then-is_farther+in_ok-push w ↦
          let within : n < length now = rw same at (c.is_farther.ensures.within w.if-is_farther.true) in
          let farther : ¬ (IsWithin now n distance) = (rw w.if-is_farther.true at known) within in
          rw (w.distances-is, w.reached-is, w.in_ok-push.ensures.items)
          (Reaches-more_farther called i n distance before now was reached (omega arith) refl c.loop-method.invariant within farther (omega arith))
      | else-is_farther w ↦
          rw (w.distances-is, w.reached-is)
          (Reaches-more_known called i n distance before now was reached (omega arith) refl c.loop-method.invariant (rw w.if-is_farther.false at known))
    ]
