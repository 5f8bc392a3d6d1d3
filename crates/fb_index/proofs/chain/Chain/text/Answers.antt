use Rattle.std.proofs.Common.{◌≡◌, ℕ, List, map, IfOk, string_bytes, ap, ◌∙◌, subst}
use Rattle.std.specs.List.{join_with_byte}
use Rattle.fb_index.proofs.Lists.{map-map}
use Rattle.fb_index.proofs.chain.Chain.text.Goals as goal

pub returns : goal.returns
returns g c =
    let text = g.T.Spelled.spelling in
    let same : map (λ item. text item.now) c.as_slice.result.now ≡ map text c.args.self.now =
    ap (map (λ item. text item.now)) c.as_slice.ensures.value ∙ map-map text (λ item. item.now) c.in_ok-items.items.items
    ∙ ap (map text) c.in_ok-items.ensures in
    subst (λ (xs : List (List ℕ)). IfOk c.joined.result (λ written. string_bytes written ≡ join_with_byte c.args.sign xs)) same c.joined.ensures
