use Rattle.std.proofs.Common.{◌≡◌, [], ◌∷◌, ◌++◌, arith, length-append}
use Rattle.fb_graph.specs.Graph.{callees}
use Rattle.fb_graph.specs.Chain.{IsJustAbove}
use Rattle.fb_graph.proofs.Rounds.{each-push}
use Rattle.fb_graph.proofs.graph.CallGraph.deeper.Goals as goal

pub loop-method-preserved : goal.loop-method-preserved
loop-method-preserved c =
    let before = c.loop-method.deeper in
    let pushed : c.push.new.self ≡ before ++ c.just_above.result ∷ [] = c.in_ok-push.ensures.ok in
    let here : IsJustAbove c.args.ranks.now (callees c.args.self.now c.loop-method.method) c.just_above.result = rw (← c.callees.ensures) c.just_above.ensures in
    rw pushed (
      omega (arith, length-append before (c.just_above.result ∷ [])),
      each-push (λ m above. IsJustAbove c.args.ranks.now (callees c.args.self.now m) above) before c.just_above.result c.loop-method.method
          c.loop-method.invariant.0 c.loop-method.invariant.1 here,
    )
