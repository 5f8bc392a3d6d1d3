-- Bytes, line by line.
use Rattle.std.specs.Prelude.{◌≡◌, ℕ, ◌+◌, ◌<◌, Option, Some, None, List, [], ◌∷◌, ◌++◌, length}
use Rattle.fb_index.specs.Pieces.{IsFree}
use Rattle.fb_report.specs.declared.split.Piece.{Piece}
use Rattle.fb_report.specs.declared.split.Piece.TheVariants.{Whole, Cut}

-- the bytes that are still to come, and how many came before
pub record Remaining : Type 0 where
  pub offset : ℕ
  pub left : List ℕ

-- a line feed
abbrev pub line_feed : ℕ
line_feed = 10

-- what is given next: the bytes up to the first line feed, or all that is left where there is none; none at the end
abbrev pub GivesPiece : Remaining → Option Piece → Remaining → Type 0
GivesPiece before None after = (before.left ≡ []) × (after ≡ before)
GivesPiece before (Some (Whole line)) after =
    IsFree line_feed line.now × (before.left ≡ line.now ++ line_feed ∷ after.left) × (after.offset ≡ before.offset + length line.now + 1)
GivesPiece before (Some (Cut offset)) after =
    IsFree line_feed before.left × (0 < length before.left) × (offset ≡ before.offset) × (after.left ≡ [])
