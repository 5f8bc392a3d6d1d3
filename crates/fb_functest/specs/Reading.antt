-- How the bytes of a report are read: they are cut at each line feed, and each line is what the reader answers.
use Rattle.std.specs.Prelude.{◌≡◌, ℕ, List, [], ◌∷◌, ◌++◌, All, flat_map, Ok}
use Rattle.fb_index.specs.Pieces.{IsFree}
use Rattle.fb_report.specs.declared.line.Line.{Line}
use Rattle.fb_report.specs.Bytes.{line_bytes}
use Rattle.fb_report.specs.Lines.{line_feed}
use Rattle.fb_reading.specs.Answers.{IsAnswer, IsLine}

-- what stands before the first line feed is read as this line, and this is left behind it
pub record BeginsWith (line : Line) (bytes rest : List ℕ) : Type 0 where
  pub text : List ℕ
  pub free : IsFree line_feed text
  pub cut : bytes ≡ text ++ line_feed ∷ rest
  pub read : IsAnswer text (Ok line)

-- the bytes are read as these lines, and nothing is left
abbrev pub IsReadAs : List ℕ → List Line → Type 0
IsReadAs bytes [] = bytes ≡ []
IsReadAs bytes (line ∷ lines) = (rest : List ℕ) × BeginsWith line bytes rest × IsReadAs rest lines

-- the bytes of lines, one after another
abbrev pub bytes_of : List Line → List ℕ
bytes_of lines = flat_map line_bytes lines

abbrev pub BytesAreReadOneWay : Type 0
BytesAreReadOneWay = (bytes : List ℕ) (lines others : List Line) → IsReadAs bytes lines → IsReadAs bytes others → lines ≡ others

abbrev pub WrittenLinesAreRead : Type 0
WrittenLinesAreRead = (lines : List Line) → All IsLine lines → IsReadAs (bytes_of lines) lines
