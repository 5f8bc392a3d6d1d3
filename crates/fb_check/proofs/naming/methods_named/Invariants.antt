use Rattle.std.proofs.Common.{◌≡◌, suc, [], drop, map, length}
use Rattle.fb_syntax.specs.Views.{view_method}
use Rattle.fb_check.specs.FirstRefusal.{methods_named}
use Rattle.fb_check.proofs.naming.methods_named.Given as goal

-- the methods that are left give what all of them give
abbrev pub invariant-loop-method : goal.invariant-loop-method
invariant-loop-method l =
    (l.position ≡ l.method-index)
    × (length l.earlier ≡ l.method-index)
    × (methods_named l.service (suc l.position) l.earlier (map view_method (drop l.method-index l.methods))
    ≡ methods_named l.service 1 [] (map view_method l.methods))
