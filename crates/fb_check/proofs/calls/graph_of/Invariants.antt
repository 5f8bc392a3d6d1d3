use Rattle.std.proofs.Common.{◌≡◌, ◌++◌, drop, map}
use Rattle.fb_check.specs.declared.body_tables.BodyTables.{BodyTables}
use Rattle.fb_check.specs.Calls.{known_callees}
use Rattle.fb_check.proofs.calls.graph_of.Given as goal

-- the callees of the bodies so far and of those that are left are all of them
abbrev pub invariant-loop-body : goal.invariant-loop-body
invariant-loop-body l =
    l.graph ++ map (λ (b : BodyTables). known_callees b.callees) (drop l.body-index l.bodies) ≡ map (λ (b : BodyTables). known_callees b.callees) l.bodies
