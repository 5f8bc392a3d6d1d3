use Rattle.std.proofs.Common.{◌≡◌, ℕ, List, take, vec_len}
use Rattle.std.specs.Ordering.{nat_cmp}
use Rattle.std.specs.Cmp.Lexicographic.{slice_cmp}
use Rattle.std.specs.BTreeMap.{get}
use Rattle.fb_check.specs.Scopes.{kind_named, NamesDiffer}
use Rattle.fb_check.proofs.scope.Scope.leave.Given as goal

-- the variables that are to remain are there
abbrev pub invariant-loop-self : goal.invariant-loop-self
invariant-loop-self l =
    NamesDiffer l.self-inside.bindings.items
    × ((name : List ℕ) → get (slice_cmp nat_cmp) l.self-inside.kinds name ≡ kind_named l.self-inside.bindings.items name)
    × (take l.len l.self-inside.bindings.items ≡ take l.len l.fn.self)

abbrev pub decreases-loop-self : goal.decreases-loop-self
decreases-loop-self l = vec_len l.self-inside.bindings
