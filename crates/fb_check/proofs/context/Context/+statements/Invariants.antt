use Rattle.std.proofs.Common.{◌≡◌, ◌+◌, ◌<◌, ◌^◌, drop, map}
use Rattle.fb_syntax.specs.Views.{view_stmt, view_handler, statements_of, handlers_of}
use Rattle.fb_syntax.specs.Counts.{statements_count, summed_handlers}
use Rattle.fb_check.specs.StatementChecks.{statements_check, handlers_check}
use Rattle.fb_check.proofs.context.Context.+statements.Given as goal

-- the statements that are left give what all of them give
abbrev pub invariant-statements-loop-stmt : goal.invariant-statements-loop-stmt
invariant-statements-loop-stmt l =
    (l.walk.number + statements_count (statements_of (map view_stmt (drop l.stmt-index l.stmts))) < 2 ^ 32)
    × (statements_check l.self l.looping (statements_of (map view_stmt (drop l.stmt-index l.stmts))) l.walk
    ≡ statements_check l.self l.looping (statements_of (map view_stmt l.stmts)) l.initial.walk)

abbrev pub invariant-handlers-loop-handler : goal.invariant-handlers-loop-handler
invariant-handlers-loop-handler l =
    (l.walk.number + summed_handlers (λ s. 1) (handlers_of (map view_handler (drop l.handler-index l.handlers))) < 2 ^ 32)
    × (handlers_check l.self l.looping (handlers_of (map view_handler (drop l.handler-index l.handlers))) l.walk
    ≡ handlers_check l.self l.looping (handlers_of (map view_handler l.handlers)) l.initial.walk)
