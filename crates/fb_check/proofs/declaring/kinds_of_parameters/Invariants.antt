use Rattle.std.proofs.Common.{◌≡◌, ◌++◌, drop, map}
use Rattle.fb_syntax.specs.Views.{view_param}
use Rattle.fb_check.specs.Declarations.{kinds_of_parameters}
use Rattle.fb_check.proofs.declaring.kinds_of_parameters.Given as goal

-- the kinds so far and those of the parameters that are left are all of them
abbrev pub invariant-loop-param : goal.invariant-loop-param
invariant-loop-param l =
    l.kinds ++ kinds_of_parameters (map view_param (drop l.param-index l.params)) ≡ kinds_of_parameters (map view_param l.params)
