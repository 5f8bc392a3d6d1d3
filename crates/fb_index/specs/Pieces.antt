-- What stands between the places of a sign.
use Rattle.std.specs.Prelude.{ℕ, ◌==◌, ◌≢◌, if◌then◌else◌, Option, Some, None, List, [], ◌∷◌}

-- none of the bytes is the sign
abbrev pub IsFree : ℕ → List ℕ → Type 0
IsFree sign [] = Unit {0}
IsFree sign (byte ∷ bytes) = (byte ≢ sign) × IsFree sign bytes

-- the bytes up to the first such sign, or all where there is none
abbrev pub up_to : ℕ → List ℕ → List ℕ
up_to sign [] = []
up_to sign (byte ∷ bytes) = if byte == sign then [] else byte ∷ up_to sign bytes

-- what follows the first such sign, where there is one
abbrev pub behind : ℕ → List ℕ → Option (List ℕ)
behind sign [] = None
behind sign (byte ∷ bytes) = if byte == sign then Some bytes else behind sign bytes
