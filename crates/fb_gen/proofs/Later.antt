-- The services from the second one on, one by one.
use Rattle.std.proofs.Common.{◌≡◌, ℕ, suc, ◌+◌, List, [], ◌∷◌, ◌++◌, map, refl, ap, ◌∙◌, append-nil, append_assoc, arith}
use Rattle.std.specs.List.{flat_map}
use Rattle.std.proofs.lemmas.Grind.{flat_map-append}
use Rattle.std.proofs.lemmas.List.{map-append}
use Rattle.fb_gen.specs.Draws.{later_services}

pub none_later : later_services 0 ≡ []
unfolding later_services
none_later = refl

pub one_more : (count : ℕ) → later_services (count + 1) ≡ later_services count ++ (count + 2) ∷ []
unfolding later_services
one_more count = let next : count + 1 ≡ suc count = omega arith in ap later_services next

pub flat_more : {A : Type 0} (f : ℕ → List A) (count : ℕ) → flat_map f (later_services (count + 1)) ≡ flat_map f (later_services count) ++ f (count + 2)
flat_more f count =
    ap (flat_map f) (one_more count) ∙ flat_map-append f (later_services count) ((count + 2) ∷ [])
    ∙ ap (λ last. flat_map f (later_services count) ++ last) (append-nil (f (count + 2)))

pub map_more : {A : Type 0} (f : ℕ → A) (count : ℕ) → map f (later_services (count + 1)) ≡ map f (later_services count) ++ f (count + 2) ∷ []
map_more f count = ap (map f) (one_more count) ∙ map-append f (later_services count) ((count + 2) ∷ [])

-- ---- texts of three parts

pub three_more : (before one two three : List ℕ) → before ++ one ++ two ++ three ≡ before ++ (one ++ two ++ three)
three_more before one two three =
    ap (λ front. front ++ three) (append_assoc before one two) ∙ append_assoc before (one ++ two) three
