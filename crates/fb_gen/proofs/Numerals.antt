-- The numerals of the services.
use Rattle.std.proofs.Common.{◌≡◌, ℕ, ◌∷◌, [], ◌+◌, map, refl, ap, ◌∙◌, arith}
use Rattle.std.specs.Fmt.{decimal}
use Rattle.std.proofs.lemmas.Fmt.{decimal_digit, decimal-digits_of}

pub decimal_ten : decimal 10 ≡ 49 ∷ 48 ∷ []
decimal_ten = decimal-digits_of 10 (omega arith) (omega arith)

pub decimal_eleven : decimal 11 ≡ 49 ∷ 49 ∷ []
decimal_eleven = decimal-digits_of 11 (omega arith) (omega arith)

pub decimal_twelve : decimal 12 ≡ 49 ∷ 50 ∷ []
decimal_twelve = decimal-digits_of 12 (omega arith) (omega arith)
