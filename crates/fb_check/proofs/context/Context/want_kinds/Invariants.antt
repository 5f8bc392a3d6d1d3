use Rattle.std.proofs.Common.{◌≡◌, map}
use Rattle.fb_syntax.specs.Views.{view_expr, expressions_of}
use Rattle.fb_check.specs.Walking.{want_kinds}
use Rattle.fb_check.proofs.context.Context.want_kinds.Given as goal

-- the arguments that are left give what all arguments give
abbrev pub invariant-loop-arg : goal.invariant-loop-arg
invariant-loop-arg l =
    (goal.iterator-loop-arg).can_next l.arg-iterator
    × (goal.iterator-loop-arg).is_finite l.arg-iterator
    × (want_kinds l.self (expressions_of (map view_expr l.arg-iterator.a.rest.now)) l.arg-iterator.b.rest.now l.walk
    ≡ want_kinds l.self (expressions_of (map view_expr l.args)) l.kinds l.walk)
