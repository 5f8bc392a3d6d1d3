use Rattle.fb_index.proofs.chain.Chain.items.Goals as goal
use Rattle.std.proofs.Common.{◌≡◌, List, [], ◌∷◌, map, reverse, refl, arith}
use Rattle.std.proofs.lemmas.Grind.{common_steps}

map-reverse : {A B : Type 0} (f : A → B) (xs : List A) → map f (reverse xs) ≡ reverse (map f xs)
map-reverse f [] = refl
map-reverse f (x ∷ xs) = grind (arith, common_steps, map-reverse f xs)

pub returns : goal.returns
returns g c = grind (arith, common_steps, map-reverse)
