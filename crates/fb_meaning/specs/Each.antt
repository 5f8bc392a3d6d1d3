-- What holds of each item of a list, and items that differ.
use Rattle.std.specs.Prelude.{◌≡◌, ⊤, List, [], ◌∷◌}

-- it holds of each item
abbrev pub HoldsOfEach : {A : Type 0} → (A → Type 0) → List A → Type 0
HoldsOfEach P [] = ⊤
HoldsOfEach P (x ∷ xs) = P x × HoldsOfEach P xs

-- no two are the same
abbrev pub AreApart : {A : Type 0} → List A → Type 0
AreApart [] = ⊤
AreApart (x ∷ xs) = HoldsOfEach (λ y. ¬ (x ≡ y)) xs × AreApart xs
