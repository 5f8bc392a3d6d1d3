use Rattle.std.proofs.Common.{◌≡◌, ◌*◌, ◌≤◌, suc, ◌++◌, drop, map, length}
use Rattle.fb_syntax.specs.Views.{view_service}
use Rattle.fb_syntax.specs.Limits.{most_methods}
use Rattle.fb_check.specs.Declarations.{service_names, signatures_from}
use Rattle.fb_check.proofs.declarations.Declarations.of.Given as goal

-- what is declared so far and by the services that are left is all that is declared
abbrev pub invariant-loop-service : goal.invariant-loop-service
invariant-loop-service l =
    (l.position ≡ l.service-index)
    × (length l.names ≡ l.service-index)
    × (length l.methods ≤ most_methods * l.service-index)
    × (l.names ++ service_names (map view_service (drop l.service-index l.service-items)) ≡ service_names (map view_service l.service-items))
    × (l.methods ++ signatures_from (suc l.position) (map view_service (drop l.service-index l.service-items)) ≡ signatures_from 1 (map view_service l.service-items))
