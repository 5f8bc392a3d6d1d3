use Rattle.std.proofs.Common.{◌≡◌, ◌∷◌, map}
use Rattle.fb_syntax.specs.Views.{view_service}
use Rattle.fb_gen.specs.Draws.{later_services}
use Rattle.fb_gen.specs.Trees.{service_of}
use Rattle.fb_gen.proofs.generating.services.Given as goal

abbrev pub invariant-loop-place : goal.invariant-loop-place
invariant-loop-place l = map view_service l.list.items ≡ map (service_of l.number l.size) (1 ∷ later_services l.place)
