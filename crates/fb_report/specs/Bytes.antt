-- The bytes of a line.
use Rattle.std.specs.Prelude.{ℕ, List, [], ◌∷◌, ◌++◌}
use Rattle.serde_json.specs.Written.{compact_text}
use Rattle.fb_report.specs.declared.line.Line.{Line}
use Rattle.fb_report.specs.Lines.{line_feed}
use Rattle.fb_report.specs.Trees.{line_tree}

-- the compact text of a line's JSON
abbrev pub line_text : Line → List ℕ
line_text line = compact_text (line_tree line)

abbrev pub line_bytes : Line → List ℕ
line_bytes line = line_text line ++ line_feed ∷ []
