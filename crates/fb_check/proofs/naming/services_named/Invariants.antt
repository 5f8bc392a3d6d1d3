use Rattle.std.proofs.Common.{◌≡◌, suc, [], drop, map, length}
use Rattle.fb_syntax.specs.Views.{view_service}
use Rattle.fb_check.specs.FirstRefusal.{services_named}
use Rattle.fb_check.proofs.naming.services_named.Given as goal

-- the services that are left give what all of them give
abbrev pub invariant-loop-service : goal.invariant-loop-service
invariant-loop-service l =
    (l.position ≡ l.service-index)
    × (length l.earlier ≡ l.service-index)
    × (services_named (suc l.position) l.earlier (map view_service (drop l.service-index l.services))
    ≡ services_named 1 [] (map view_service l.services))
