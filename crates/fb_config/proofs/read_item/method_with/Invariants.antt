use Rattle.std.proofs.Common.{◌≡◌, bytes_eq, drop, find, map}
use Rattle.fb_syntax.specs.Trees.{MethodTree}
use Rattle.fb_syntax.specs.Views.{view_method}
use Rattle.fb_config.proofs.read_item.method_with.Given as goal

-- no method before has the name
abbrev pub invariant-loop-method : goal.invariant-loop-method
invariant-loop-method l =
    find (λ (m : MethodTree). bytes_eq l.name m.name) (map view_method (drop l.method-index l.methods))
    ≡ find (λ (m : MethodTree). bytes_eq l.name m.name) (map view_method l.methods)
