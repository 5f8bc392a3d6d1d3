use Rattle.std.proofs.Common.{◌≡◌, [], drop, map, length}
use Rattle.fb_syntax.specs.Views.{view_param}
use Rattle.fb_check.specs.FirstRefusal.{parameters_named}
use Rattle.fb_check.proofs.naming.parameters_named.Given as goal

-- the parameters that are left give what all of them give
abbrev pub invariant-loop-param : goal.invariant-loop-param
invariant-loop-param l =
    (length l.earlier ≡ l.param-index)
    × (parameters_named l.service l.method l.earlier (map view_param (drop l.param-index l.params))
    ≡ parameters_named l.service l.method [] (map view_param l.params))
