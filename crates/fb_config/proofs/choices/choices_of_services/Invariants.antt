use Rattle.std.proofs.Common.{◌≡◌, ◌++◌, flat_map, map, drop}
use Rattle.fb_syntax.specs.Views.{view_service}
use Rattle.fb_config.specs.Choices.{choices_by}
use Rattle.fb_config.proofs.choices.choices_of_services.Given as goal

-- the choices so far come before those for the services that are left
abbrev pub invariant-loop-service : goal.invariant-loop-service
invariant-loop-service l =
    l.choices ++ flat_map (choices_by l.items) (map view_service (drop l.service-index l.services)) ≡ flat_map (choices_by l.items) (map view_service l.services)
