use Rattle.std.proofs.Common.{◌≡◌, ℕ, ◌+◌, ◌*◌, ◌≤◌, [], map, length}
use Rattle.fb_syntax.specs.Reading.{give, repeated, with_front}
use Rattle.fb_syntax.specs.Views.{view_stmt, view_handler}
use Rattle.fb_syntax.specs.StatementReading.{begins_statement, statement, statements_at, handlers_from, deeper_blocks}
use Rattle.fb_syntax.proofs.parser.Parser.+stmt.Given as goal

-- The functions of one depth; a block stands above those of the next.
abbrev pub decreases-block : goal.decreases-block
decreases-block l = 16 * l.depth

abbrev pub decreases-if_stmt : goal.decreases-if_stmt
decreases-if_stmt l = 16 * l.depth + 1

abbrev pub decreases-repeat_stmt : goal.decreases-repeat_stmt
decreases-repeat_stmt l = 16 * l.depth + 1

abbrev pub decreases-for_stmt : goal.decreases-for_stmt
decreases-for_stmt l = 16 * l.depth + 1

abbrev pub decreases-handler : goal.decreases-handler
decreases-handler l = 16 * l.depth + 1

abbrev pub decreases-handlers_from : goal.decreases-handlers_from
decreases-handlers_from l = 16 * l.depth + 2

abbrev pub decreases-handlers : goal.decreases-handlers
decreases-handlers l = 16 * l.depth + 3

abbrev pub decreases-call_stmt : goal.decreases-call_stmt
decreases-call_stmt l = 16 * l.depth + 4

abbrev pub decreases-stmt : goal.decreases-stmt
decreases-stmt l = 16 * l.depth + 5

abbrev pub decreases-stmts : goal.decreases-stmts
decreases-stmts l = 16 * l.depth + 6

-- what is held and what is still to be read are all that is read
abbrev pub invariant-handlers_from-handlers : goal.invariant-handlers_from-handlers
invariant-handlers_from-handlers l =
    with_front (map view_handler l.handlers.items) (handlers_from (deeper_blocks l.depth) l.room) l.self
    ≡ handlers_from (deeper_blocks l.depth) l.fn.room l.fn.self

abbrev pub decreases-handlers_from-handlers : goal.decreases-handlers_from-handlers
decreases-handlers_from-handlers l = l.room

abbrev pub invariant-stmts-statements : goal.invariant-stmts-statements
invariant-stmts-statements l = (tokens : ℕ) × (length l.self.left ≤ tokens)
    × (with_front (map view_stmt l.stmts.items) (repeated (give []) tokens begins_statement (statement (deeper_blocks l.depth))) l.self
    ≡ statements_at l.depth l.fn.self)

abbrev pub decreases-stmts-statements : goal.decreases-stmts-statements
decreases-stmts-statements l = length l.self.left
