use Rattle.std.proofs.Common.{◌≡◌, ◌+◌, ◌++◌, ◌∷◌, [], List, map, ap, sym, ◌∙◌}
use Rattle.std.proofs.lemmas.List.{map-append}
use Rattle.fb_syntax.specs.Trees.{ServiceTree}
use Rattle.fb_syntax.specs.Views.{view_service}
use Rattle.fb_gen.specs.Draws.{later_services}
use Rattle.fb_gen.specs.Trees.{service_of}
use Rattle.fb_gen.proofs.Later.{none_later, map_more}
use Rattle.fb_gen.proofs.generating.services.Goals as goal

pub loop-place-init : goal.loop-place-init
loop-place-init c =
    let made = service_of c.args.number c.args.size in
    ap (map view_service) c.in_ok-push.ensures.items
    ∙ ap (λ items. map view_service (items ++ c.in_ok-service.field-0 ∷ [])) c.new-list.ensures.items
    ∙ ap (λ first. first ∷ []) c.in_ok-service.ensures
    ∙ sym (ap (λ later. made 1 ∷ map made later) none_later)

pub loop-place-preserved : goal.loop-place-preserved
loop-place-preserved c =
    let made = service_of c.args.number c.args.size in
    let place = c.loop-place.place in
    let one = c.in_ok-service-2.field-0 in
    ap (map view_service) c.in_ok-push-2.ensures.items
    ∙ map-append view_service c.loop-place.list.items (one ∷ [])
    ∙ ap (λ last. map view_service c.loop-place.list.items ++ last ∷ []) c.in_ok-service-2.ensures
    ∙ ap (λ before. before ++ made (place + 2) ∷ []) c.loop-place.invariant
    ∙ sym (ap (λ later. made 1 ∷ later) (map_more made place))
