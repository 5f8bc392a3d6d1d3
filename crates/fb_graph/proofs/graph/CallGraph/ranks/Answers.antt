use Rattle.std.proofs.Common.{◌≡◌, ap, arith, rules, replicate, length}
use Rattle.std.proofs.lemmas.List.{length-replicate}
use Rattle.fb_graph.proofs.Rounds.{deeper-AreRanksUpTo, start-AreRanksUpTo}
use Rattle.fb_graph.proofs.graph.CallGraph.ranks.Goals as goal

pub loop-init : goal.loop-init
loop-init c =
    let is : c.of-ranks.result ≡ replicate c.len.result 0 = search rules in
    rw is (rw (length-replicate, c.len.ensures), start-AreRanksUpTo c.args.self.now c.len.result)

pub deeper-requires : goal.deeper-requires
deeper-requires c i within =
    let same : length c.as_slice.result.now ≡ length c.loop.ranks = ap length c.as_slice.ensures in
    let low = c.loop.invariant.1 i (omega arith) in
    rw c.as_slice.ensures (omega (arith, low.within))

pub loop-preserved : goal.loop-preserved
loop-preserved c = (
  c.in_ok-ranks.ensures.len,
  deeper-AreRanksUpTo c.loop.counter c.args.self.now c.loop.ranks c.in_ok-ranks.ranks c.loop.invariant.0 c.loop.invariant.1
      (rw (← c.as_slice.ensures) c.in_ok-ranks.ensures.above) c.in_ok-ranks.ensures.len,
)
