use Rattle.std.proofs.Common.{arith}
use Rattle.fb_base.proofs.Weights.{weight_of_list-append, IsWeighed-append}
use Rattle.fb_base.proofs.weighed.Weighed.joined.Goals as goal

pub invariant_of-result : goal.invariant_of-result
invariant_of-result g c =
    let front = c.self.inside.items.items in
    let back = c.after.inside.items.items in
    let weight = weight_of_list-append g.T.Item.weight front back in
    rw (c.in_ok-items.ensures, c.as_slice.ensures.value, c.as_slice-2.ensures.value) (
      omega (arith, weight),
      IsWeighed-append g.T.Item.weight g.T.Item.proper front back c.self.invariant.1 c.after.invariant.1 (omega (arith, weight)),
    )
