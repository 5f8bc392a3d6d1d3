use Rattle.std.proofs.Common.{◌≡◌, ◌++◌, All, length}
use Rattle.fb_index.specs.Spelling.{IsItem, value_spelling}
use Rattle.fb_index.proofs.Lists.{closed}
use Rattle.fb_index.proofs.value.read_items.Given as goal

-- whole items with a `;` behind each, and what is left
abbrev pub invariant-loop-values : goal.invariant-loop-values
invariant-loop-values l = (l.bytes ≡ closed 59 value_spelling l.values ++ l.left) × All IsItem l.values

abbrev pub decreases-loop-values : goal.decreases-loop-values
decreases-loop-values l = length l.left
