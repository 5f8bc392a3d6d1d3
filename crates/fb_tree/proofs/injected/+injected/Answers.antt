use Rattle.std.proofs.Common.{◌∙◌, ◌++◌, sym, ap, append-nil}
use Rattle.std.proofs.lemmas.List.{take_all}
use Rattle.fb_tree.specs.Calls.{injected_in}
use Rattle.fb_tree.specs.Views.{view_calls}
use Rattle.fb_tree.proofs.Walks.{injected_none, injected_more, injected_of_opened}
use Rattle.fb_tree.proofs.injected.+injected.Goals as goal

pub add_below-loop-made-init : goal.add_below-loop-made-init
add_below-loop-made-init t c = rw injected_none (sym (append-nil c.args.callees.now))

pub add_below-loop-made-preserved : goal.add_below-loop-made-preserved
add_below-loop-made-preserved t c =
    c.in_ok-add_injected.ensures
    ∙ injected_more c.loop-made.callees c.args.callees.now c.deref-made-items.result.now c.loop-made.made-index c.made-item.result
    c.loop-made-test.true c.made-item.is c.loop-made.invariant

pub add_below-returns : goal.add_below-returns
add_below-returns t c =
    c.loop-made.invariant ∙ ap (λ calls. c.args.callees.now ++ injected_in (view_calls calls)) (take_all _ c.deref-made-items.result.now c.loop-made-test.false ∙ c.deref-made-items.ensures.value)
    ∙ ap (λ found. c.args.callees.now ++ found) (sym (injected_of_opened c.args.node.now))
