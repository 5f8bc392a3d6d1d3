use Rattle.std.proofs.Common.{drop, length-drop, arith}
use Rattle.std.proofs.lemmas.List.{take_all}
use Rattle.fb_tree.proofs.Steps.{visits_of_none, visits_of_first}
use Rattle.fb_tree.proofs.preorder.split.Goals as goal

pub returns-in_default : goal.returns-in_default
returns-in_default c = visits_of_none c.args.frame c.in_default.len_below

pub returns : goal.returns
returns c =
    let calls = c.args.frame.calls.now in
    visits_of_first c.args.frame c.made-item.result _ c.in-len1-up.len_at_least c.made-item.is
    (take_all _ (drop 1 calls) (omega (arith, length-drop 1 calls)))
