-- As many arguments as the vector has items.
use Rattle.std.proofs.Common.{◌≡◌, suc, List, [], ◌∷◌, length, map, refl, ap}
use Rattle.fb_syntax.specs.declared.expr.Expr.{Expr}
use Rattle.fb_syntax.specs.Views.{view_expr, expressions_of}
use Rattle.fb_syntax.specs.Counts.{expressions_count}

pub expressions_count-view : (args : List Expr) → expressions_count (expressions_of (map view_expr args)) ≡ length args
expressions_count-view [] = refl
expressions_count-view (arg ∷ args) = ap suc (expressions_count-view args)

pub ruleset counted_arguments = expressions_count-view
