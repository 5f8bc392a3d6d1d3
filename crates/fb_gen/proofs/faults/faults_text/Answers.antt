use Rattle.std.proofs.Common.{◌≡◌, ◌+◌, ◌++◌, ap, sym, ◌∙◌}
use Rattle.std.specs.List.{flat_map}
use Rattle.fb_gen.specs.Texts.{item_text}
use Rattle.fb_gen.proofs.Later.{none_later, flat_more}
use Rattle.fb_gen.proofs.faults.faults_text.Goals as goal

pub loop-place-init : goal.loop-place-init
loop-place-init c = c.new-text.ensures.bytes ∙ sym (ap (flat_map item_text) none_later)

pub loop-place-preserved : goal.loop-place-preserved
loop-place-preserved c =
    c.in_ok-push_item.ensures ∙ ap (λ text. text ++ item_text (c.loop-place.place + 2)) c.loop-place.invariant ∙ sym (flat_more item_text c.loop-place.place)
