use Rattle.std.proofs.Common.{◌≡◌, ◌++◌, drop, map}
use Rattle.fb_syntax.specs.Trees.{MethodTree}
use Rattle.fb_syntax.specs.Views.{view_method}
use Rattle.fb_check.specs.Tables.{body_tables}
use Rattle.fb_check.proofs.tables.with_bodies.Given as goal

-- the tables so far and those of the methods that are left are all of them
abbrev pub invariant-loop-method : goal.invariant-loop-method
invariant-loop-method l =
    l.bodies.items ++ map (λ (m : MethodTree). body_tables l.declared m.body) (map view_method (drop l.method-index l.methods))
    ≡ l.fn.before.items ++ map (λ (m : MethodTree). body_tables l.declared m.body) (map view_method l.methods)
