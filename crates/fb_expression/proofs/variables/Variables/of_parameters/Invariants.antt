use Rattle.std.proofs.Common.{drop, map}
use Rattle.fb_syntax.specs.Views.{view_param}
use Rattle.fb_meaning.specs.Variables.{parameters_with}
use Rattle.fb_expression.proofs.FirstVariables.{GoesOn}
use Rattle.fb_expression.proofs.variables.Variables.of_parameters.Given as goal

abbrev pub invariant-loop-place : goal.invariant-loop-place
invariant-loop-place l =
    GoesOn l.made (map view_param (drop l.place l.params)) (drop l.place l.args) (parameters_with (map view_param l.params) l.args)
