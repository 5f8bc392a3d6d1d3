-- Where bytes that are no UTF-8 stop being the front of a text.
use Rattle.std.specs.Prelude.{ℕ, ◌+◌, ◌<◌, ◌≤◌, List, ◌++◌, length, take, IsUtf8}

-- some bytes behind them make these a text
abbrev pub CanGoOn : List ℕ → Type 0
CanGoOn bytes = (more : List ℕ) × IsUtf8 (bytes ++ more)

-- no text continues the byte at this place, or the bytes only end here inside a character
pub record StopsAt (bytes : List ℕ) (at : ℕ) : Type 0 where
  pub within : at ≤ length bytes
  pub before : CanGoOn (take at bytes)
  pub after : at < length bytes → ¬ CanGoOn (take (at + 1) bytes)
