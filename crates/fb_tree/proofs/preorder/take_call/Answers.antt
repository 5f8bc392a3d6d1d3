use Rattle.std.proofs.Common.{◌∙◌, ◌∷◌, ◌++◌, [], ap, arith}
use Rattle.fb_tree.specs.Walk.{visits_of_frames, visits_left, visit_at, visits_below}
use Rattle.fb_tree.proofs.Steps.{visits_popped, visits_of_no_frames, visits_moved}
use Rattle.fb_tree.proofs.preorder.take_call.Goals as goal

pub returns-in-Some-split-clause-next : goal.returns-in-Some-split-clause-next
returns-in-Some-split-clause-next c =
    let call = c.in-Some-split.call in
    let outer = visits_of_frames c.pop.new.self.items in
    c.loop-frame.invariant ∙ visits_popped c.loop-frame.frames.items c.pop.new.self.items c.in-Some.frame c.in-Some.ensures.items
    ∙ ap (λ visits. visits ++ outer) c.in-Some-split.ensures
    ∙ visits_moved (visit_at call.1.index call.0.now) (visits_below (call.1.index ++ call.0.now.entry ∷ []) call.0.now.how) (visits_left call.1) outer

pub loop-frame-preserved : goal.loop-frame-preserved
loop-frame-preserved c =
    c.loop-frame.invariant ∙ visits_popped c.loop-frame.frames.items c.pop.new.self.items c.in-Some.frame c.in-Some.ensures.items
    ∙ ap (λ visits. visits ++ visits_of_frames c.pop.new.self.items) c.in_default-split.ensures

pub returns-clause-next : goal.returns-clause-next
returns-clause-next c = c.loop-frame.invariant ∙ visits_of_no_frames c.loop-frame.frames.items (omega (arith, c.in_default.ensures.cases.0))

pub returns-clause-ended : goal.returns-clause-ended
returns-clause-ended c = visits_of_no_frames c.pop.new.self.items (omega (arith, c.in_default.ensures.cases.1))
