use Rattle.std.proofs.Common.{◌≡◌, ◌&&◌, Ok, drop, map}
use Rattle.fb_syntax.specs.Views.{view_expr, view_link, expressions_of, links_of}
use Rattle.fb_base.specs.Results.{◌>>=◌}
use Rattle.fb_check.specs.ExpressionKinds.{all_have, kind_of_links}
use Rattle.fb_check.proofs.context.Context.+kinds.Given as goal

-- the items so far and those that are left give what all items give
abbrev pub invariant-all_have-loop-item : goal.invariant-all_have-loop-item
invariant-all_have-loop-item l =
    (all_have l.self l.scope l.wanted (expressions_of (map view_expr (drop l.item-index l.items))) >>= λ rest. Ok (l.fit && rest))
    ≡ all_have l.self l.scope l.wanted (expressions_of (map view_expr l.items))

abbrev pub invariant-kind_of_links-loop-link : goal.invariant-kind_of_links-loop-link
invariant-kind_of_links-loop-link l =
    kind_of_links l.self l.scope l.applied (links_of (map view_link (drop l.link-index l.links)))
    ≡ kind_of_links l.self l.scope l.fn.left (links_of (map view_link l.links))
