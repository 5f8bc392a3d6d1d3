use Rattle.std.proofs.Common.{◌≡◌, ◌++◌, drop, map, flat_map}
use Rattle.fb_syntax.specs.Trees.{MethodTree, ServiceTree}
use Rattle.fb_syntax.specs.Views.{view_service}
use Rattle.fb_check.specs.Tables.{body_tables}
use Rattle.fb_check.proofs.tables.bodies_of.Given as goal

-- the tables so far and those of the services that are left are all of them
abbrev pub invariant-loop-service : goal.invariant-loop-service
invariant-loop-service l =
    l.bodies.items
    ++ map (λ (m : MethodTree). body_tables l.declared m.body) (flat_map (λ (s : ServiceTree). s.methods) (map view_service (drop l.service-index l.services)))
    ≡ map (λ (m : MethodTree). body_tables l.declared m.body) (flat_map (λ (s : ServiceTree). s.methods) (map view_service l.services))
