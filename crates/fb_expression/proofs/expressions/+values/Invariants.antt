use Rattle.std.proofs.Common.{◌≡◌, ◌++◌, Some, drop, map}
use Rattle.fb_syntax.specs.Views.{view_expr, view_link, expressions_of, links_of}
use Rattle.fb_meaning.specs.Expressions.{◌>>=◌, values_of, value_of_links, value_of_operands}
use Rattle.fb_expression.specs.Reading.{environment_of}
use Rattle.fb_expression.proofs.expressions.+values.Given as goal

-- what is left gives the whole from what has been applied so far
abbrev pub invariant-chained-loop-link : goal.invariant-chained-loop-link
invariant-chained-loop-link l =
    value_of_links l.here.program.now.tree (environment_of l.here) l.fn.left (links_of (map view_link l.links))
    ≡ value_of_links l.here.program.now.tree (environment_of l.here) l.value (links_of (map view_link (drop l.link-index l.links)))

-- the values so far come before those of what is left
abbrev pub invariant-values_of-loop-arg : goal.invariant-values_of-loop-arg
invariant-values_of-loop-arg l =
    values_of l.here.program.now.tree (environment_of l.here) (expressions_of (map view_expr l.args))
    ≡ (values_of l.here.program.now.tree (environment_of l.here) (expressions_of (map view_expr (drop l.arg-index l.args))) >>= λ rest. Some (l.values ++ rest))

-- no operand so far decided
abbrev pub invariant-decided-loop-operand : goal.invariant-decided-loop-operand
invariant-decided-loop-operand l =
    value_of_operands l.here.program.now.tree (environment_of l.here) l.deciding (expressions_of (map view_expr l.operands))
    ≡ value_of_operands l.here.program.now.tree (environment_of l.here) l.deciding (expressions_of (map view_expr (drop l.operand-index l.operands)))
