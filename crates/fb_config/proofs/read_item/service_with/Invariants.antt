use Rattle.std.proofs.Common.{◌≡◌, bytes_eq, drop, find, map}
use Rattle.fb_syntax.specs.Trees.{ServiceTree}
use Rattle.fb_syntax.specs.Views.{view_service}
use Rattle.fb_config.proofs.read_item.service_with.Given as goal

-- no service before has the name
abbrev pub invariant-loop-service : goal.invariant-loop-service
invariant-loop-service l =
    find (λ (s : ServiceTree). bytes_eq l.name s.name) (map view_service (drop l.service-index l.services))
    ≡ find (λ (s : ServiceTree). bytes_eq l.name s.name) (map view_service l.services)
