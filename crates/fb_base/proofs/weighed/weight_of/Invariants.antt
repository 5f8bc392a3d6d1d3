use Rattle.std.proofs.Common.{◌≡◌, ◌≤◌, take, All}
use Rattle.fb_base.specs.Weight.{weight_of_list, heaviest}
use Rattle.fb_base.proofs.weighed.weight_of.Given as goal

abbrev pub invariant-loop-item : goal.invariant-loop-item
invariant-loop-item g l = record {
  weight : l.weight ≡ weight_of_list g.T.Item.weight (take l.item-index l.items);
  light : l.weight ≤ heaviest;
  proper : All g.T.Item.proper (take l.item-index l.items);
}
