use Rattle.std.proofs.Common.{◌≡◌, [], drop, map}
use Rattle.fb_syntax.specs.Views.{view_param}
use Rattle.fb_check.specs.Scopes.{with_parameters}
use Rattle.fb_check.proofs.bodies.scope_of.Given as goal

-- the parameters that are left give what all of them give
abbrev pub invariant-loop-param : goal.invariant-loop-param
invariant-loop-param l = with_parameters l.scope (map view_param (drop l.param-index l.params)) ≡ with_parameters [] (map view_param l.params)
