-- The spelling of names and codes.
use Rattle.std.specs.Prelude.{◌≡◌, ℕ, ◌-◌, ◌≤◌, ◌||◌, ◌&&◌, ◌==◌, ◌++◌, nat_le, Bool, false, IsTrue, List, [], ◌∷◌, length, take, replicate}
use Rattle.std.proofs.Common.{arith, ap, length-append, length-take}
use Rattle.std.proofs.lemmas.List.{length-replicate}
use Rattle.std.specs.List.{list_all}
use Rattle.std.specs.Char.{is_ascii_lowercase, is_ascii_digit}

-- the most bytes that a name has
abbrev pub longest_name : ℕ
longest_name = 64

-- a letter `a` to `z`, a digit, or `_`
abbrev pub is_name_byte : ℕ → Bool
is_name_byte c = is_ascii_lowercase c || is_ascii_digit c || c == 95

-- a letter, then letters, digits and `_`, and not too many of them
abbrev pub is_name : List ℕ → Bool
is_name [] = false
is_name (first ∷ rest) =
    nat_le (length (first ∷ rest)) longest_name && is_ascii_lowercase first && list_all is_name_byte rest

abbrev pub IsName : List ℕ → Type 0
IsName bytes = IsTrue (is_name bytes)

-- the bytes, and zeros after them
abbrev pub padded : List ℕ → List ℕ
padded bytes = bytes ++ replicate (longest_name - length bytes) 0

-- what is padded tells how many bytes came before the zeros
pub length-take-padded : (n : ℕ) (bytes : List ℕ) → n ≤ longest_name → bytes ≡ padded (take n bytes) → length (take n bytes) ≡ n
length-take-padded n bytes small same =
    let all = simp (length-append, length-replicate) at (ap length same) in
    omega (arith, all, length-take n bytes)
