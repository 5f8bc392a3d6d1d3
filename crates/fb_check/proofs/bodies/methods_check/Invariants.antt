use Rattle.std.proofs.Common.{◌≡◌, suc, drop, map}
use Rattle.fb_syntax.specs.Views.{view_method}
use Rattle.fb_check.specs.FirstRefusal.{methods_check}
use Rattle.fb_check.proofs.bodies.methods_check.Given as goal

-- the methods that are left give what all of them give
abbrev pub invariant-loop-method : goal.invariant-loop-method
invariant-loop-method l =
    (l.position ≡ l.method-index)
    × (methods_check l.declared l.service (suc l.position) (map view_method (drop l.method-index l.methods))
    ≡ methods_check l.declared l.service 1 (map view_method l.methods))
