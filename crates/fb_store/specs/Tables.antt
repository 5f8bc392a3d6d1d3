-- Tables with rows of cells, each read by a test of its keys.
use Rattle.std.specs.Prelude.{Bool, Option}
use Rattle.std.specs.Option.{option_and_then}
use Rattle.indexmap.specs.IndexMap.{IndexMap, get_by}

-- what stands in the cell of the row
abbrev pub found_in : {K J X S T : Type 0} → (K → Bool) → (J → Bool) → IndexMap K (IndexMap J X S) T → Option X
found_in row cell table = option_and_then (get_by cell) (get_by row table)
