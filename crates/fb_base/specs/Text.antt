-- What a text may hold.
use Rattle.std.specs.Prelude.{ℕ, ◌≤◌, List, length}
use Rattle.std.specs.Str.{IsUtf8}

-- the most bytes that a text has
abbrev pub longest_text : ℕ
longest_text = 65535

-- UTF-8, and not too long
abbrev pub IsText : List ℕ → Type 0
IsText bytes = IsUtf8 bytes × (length bytes ≤ longest_text)
