use Rattle.std.proofs.Common.{◌≡◌, ◌∷◌, ◌++◌, drop}
use Rattle.fb_check.specs.FirstRefusal.{names_of}
use Rattle.fb_check.proofs.calls.names_of.Given as goal

-- the names so far and those that are left are all of them
abbrev pub invariant-loop-method : goal.invariant-loop-method
invariant-loop-method l =
    l.names ++ names_of l.declared (drop l.method-index l.method-items) ≡ names_of l.declared (l.cycle.first ∷ l.method-items)
