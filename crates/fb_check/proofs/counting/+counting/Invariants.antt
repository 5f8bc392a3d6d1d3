use Rattle.std.proofs.Common.{◌≡◌, ◌++◌, drop, map}
use Rattle.fb_syntax.specs.Views.{view_stmt, view_handler, statements_of, handlers_of}
use Rattle.fb_check.specs.Counts.{together, all_counts, handler_counts, entries_of, handler_entries}
use Rattle.fb_check.proofs.counting.+counting.Given as goal

-- what is counted so far and the statements that are left are all of them, and so are the entries
abbrev pub invariant-add_statements-loop-stmt : goal.invariant-add_statements-loop-stmt
invariant-add_statements-loop-stmt l =
    (together l.counts (all_counts (statements_of (map view_stmt (drop l.stmt-index l.stmts)))) ≡ all_counts (statements_of (map view_stmt l.stmts)))
    × (l.entries.items ++ entries_of (statements_of (map view_stmt (drop l.stmt-index l.stmts)))
    ≡ l.initial.entries.items ++ entries_of (statements_of (map view_stmt l.stmts)))

abbrev pub invariant-add_handlers-loop-handler : goal.invariant-add_handlers-loop-handler
invariant-add_handlers-loop-handler l =
    (together l.counts (handler_counts (handlers_of (map view_handler (drop l.handler-index l.handlers)))) ≡ handler_counts (handlers_of (map view_handler l.handlers)))
    × (l.entries.items ++ handler_entries (handlers_of (map view_handler (drop l.handler-index l.handlers)))
    ≡ l.initial.entries.items ++ handler_entries (handlers_of (map view_handler l.handlers)))
