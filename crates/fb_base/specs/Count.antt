-- A counter of failures of something outside, kept in a u64.
use Rattle.std.specs.Prelude.{ℕ, ◌+◌, ◌-◌, ◌^◌, ◌≤◌, min}

-- the greatest number that a counter can show; it stands still there
abbrev pub greatest_count : ℕ
greatest_count = 2 ^ 64 - 1

-- it went up by one at least, or stands at its end
abbrev pub Rose : ℕ → ℕ → Type 0
Rose before now = min (before + 1) greatest_count ≤ now

-- it didn't go down
abbrev pub NeverFell : ℕ → ℕ → Type 0
NeverFell before now = before ≤ now
