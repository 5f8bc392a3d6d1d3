-- How many steps are counted.
use Rattle.std.specs.Prelude.{◌≡◌, ◌⊎◌, ℕ, ◌+◌, ◌≤◌, List, ◌++◌, length}
use Rattle.fb_index.specs.Pieces.{IsFree}
use Rattle.fb_report.specs.declared.line.Line.{Line}
use Rattle.fb_report.specs.Lines.{line_feed}
use Rattle.fb_valid.specs.Lines.{owners_told}
use Rattle.fb_valid.specs.Verdict.{ReadsTo}

-- behind these lines some more are read of the bytes, and there is at most one step for each of them that is an inv line
pub record IsTickedBy (bytes : List ℕ) (lines : List Line) (before after : ℕ) : Type 0 where
  pub further : List Line
  pub rest : List ℕ
  pub read : ReadsTo bytes (lines ++ further) rest
  pub few : after ≤ before + length (owners_told further)

-- no step, or at most one for each inv line whose line feed is in the piece
abbrev pub IsTickedInPiece : List ℕ → List ℕ → ℕ → ℕ → Type 0
IsTickedInPiece bytes piece before after =
    (after ≡ before) ⊎ ((lines : List Line) × (rest : List ℕ) × ReadsTo bytes lines rest × IsFree line_feed rest
    × IsTickedBy (bytes ++ piece) lines before after)
