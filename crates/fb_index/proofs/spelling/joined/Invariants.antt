use Rattle.std.proofs.Common.{◌≡◌, ◌∷◌, ◌++◌, map, drop, string_bytes}
use Rattle.std.specs.List.{flat_map, join_with_byte}
use Rattle.fb_index.proofs.spelling.joined.Given as goal

-- the text so far, and what is still to come
abbrev pub invariant-loop-item : goal.invariant-loop-item
invariant-loop-item g l =
    string_bytes l.text ++ flat_map (λ item. l.sign ∷ g.T.Spelled.spelling item) (drop l.item-index l.rest)
    ≡ join_with_byte l.sign (map g.T.Spelled.spelling l.items)
