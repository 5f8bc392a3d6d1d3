use Rattle.std.proofs.Common.{◌≡◌, ℕ, List, take, vec_len}
use Rattle.std.specs.Ordering.{nat_cmp}
use Rattle.std.specs.Cmp.Lexicographic.{slice_cmp}
use Rattle.std.specs.BTreeMap.{get}
use Rattle.fb_expression.specs.Scopes.{place_named, NamesDiffer}
use Rattle.fb_expression.proofs.variables.Variables.leave.Given as goal

-- the variables that are to remain are there
abbrev pub invariant-loop-self : goal.invariant-loop-self
invariant-loop-self l =
    NamesDiffer l.self-inside.stack.items
    × ((name : List ℕ) → get (slice_cmp nat_cmp) l.self-inside.places name ≡ place_named l.self-inside.stack.items name)
    × (take l.len l.self-inside.stack.items ≡ take l.len l.fn.self)

abbrev pub decreases-loop-self : goal.decreases-loop-self
decreases-loop-self l = vec_len l.self-inside.stack
