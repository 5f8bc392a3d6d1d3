-- Names are text.
use Rattle.std.proofs.Common.{◌≡◌, ℕ, ◌<◌, true, List, [], ◌∷◌, arith}
use Rattle.std.specs.List.{list_all}
use Rattle.std.specs.Str.{IsAscii, IsUtf8}
use Rattle.std.specs.Char.{is_ascii_lowercase}
use Rattle.std.proofs.lemmas.Str.{IsUtf8-from_ascii}
use Rattle.std.proofs.lemmas.Str.Ascii.{IsAscii-nil, IsAscii-cons}
use Rattle.std.proofs.lemmas.Bool.{and_parts}
use Rattle.std.proofs.lemmas.Bool.Decides.{nat_tests}
use Rattle.fb_base.specs.Name.{IsName, is_name_byte}

name_byte-ascii : (c : ℕ) → is_name_byte c ≡ true → c < 128
name_byte-ascii c h = grind (arith, nat_tests)

name_bytes-ascii : (bytes : List ℕ) → list_all is_name_byte bytes ≡ true → IsAscii bytes
name_bytes-ascii [] h = IsAscii-nil
name_bytes-ascii (c ∷ bytes) h =
    let parts = and_parts (is_name_byte c) (list_all is_name_byte bytes) h in
    IsAscii-cons c bytes (name_byte-ascii c parts.0) (name_bytes-ascii bytes parts.1)

letter-ascii : (c : ℕ) → is_ascii_lowercase c ≡ true → c < 128
letter-ascii c h = grind (arith, nat_tests)

pub IsName-ascii : (bytes : List ℕ) → IsName bytes → IsAscii bytes
IsName-ascii [] named = IsAscii-nil
IsName-ascii (first ∷ rest) named =
    let parts = and_parts _ (list_all is_name_byte rest) named in
    IsAscii-cons first rest (letter-ascii first (and_parts _ (is_ascii_lowercase first) parts.0).1) (name_bytes-ascii rest parts.1)

pub IsName-utf8 : (bytes : List ℕ) → IsName bytes → IsUtf8 bytes
IsName-utf8 bytes named = IsUtf8-from_ascii bytes (IsName-ascii bytes named)
