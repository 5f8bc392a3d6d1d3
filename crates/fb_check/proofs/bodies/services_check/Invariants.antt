use Rattle.std.proofs.Common.{◌≡◌, suc, drop, map}
use Rattle.fb_syntax.specs.Views.{view_service}
use Rattle.fb_check.specs.FirstRefusal.{services_check}
use Rattle.fb_check.proofs.bodies.services_check.Given as goal

-- the services that are left give what all of them give
abbrev pub invariant-loop-service : goal.invariant-loop-service
invariant-loop-service l =
    (l.position ≡ l.service-index)
    × (services_check l.declared (suc l.position) (map view_service (drop l.service-index l.services))
    ≡ services_check l.declared 1 (map view_service l.services))
