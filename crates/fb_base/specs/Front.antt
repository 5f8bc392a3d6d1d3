-- Lists that begin alike.
use Rattle.std.specs.Prelude.{◌≡◌, List, ◌++◌}

-- the first list begins the second
abbrev pub IsFrontOf : {A : Type 0} → List A → List A → Type 0
IsFrontOf {A} front whole = (rest : List A) × (whole ≡ front ++ rest)

-- the list grew at its end by some front of these items, maybe by none
abbrev pub GrewByFrontOf : {A : Type 0} → List A → List A → List A → Type 0
GrewByFrontOf {A} added before now = (part : List A) × IsFrontOf part added × (now ≡ before ++ part)
