use Rattle.std.proofs.Common.{◌≡◌, ◌+◌, suc, ◌++◌, drop, map, length}
use Rattle.fb_syntax.specs.Views.{view_method}
use Rattle.fb_check.specs.Declarations.{service_signatures}
use Rattle.fb_check.proofs.declaring.with_methods.Given as goal

-- the signatures so far and those of the methods that are left are all of them
abbrev pub invariant-loop-method : goal.invariant-loop-method
invariant-loop-method l =
    (l.position ≡ l.method-index)
    × (length l.signatures ≡ length l.fn.before + l.method-index)
    × (l.signatures ++ service_signatures l.name l.service (suc l.position) (map view_method (drop l.method-index l.methods))
    ≡ l.fn.before ++ service_signatures l.name l.service 1 (map view_method l.methods))
