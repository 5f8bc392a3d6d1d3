-- The beginning of the loop that reads statements.
use Rattle.std.proofs.Common.{◌≡◌, ℕ, ◌≤◌, Option, List, [], map, length, ap, ◌∙◌, arith}
use Rattle.fb_syntax.specs.declared.stmt.Stmt.{Stmt}
use Rattle.fb_syntax.specs.Trees.{Statement}
use Rattle.fb_syntax.specs.Input.{Input}
use Rattle.fb_syntax.specs.Reading.{Reading, give, repeated, with_front}
use Rattle.fb_syntax.specs.Views.{view_stmt}
use Rattle.fb_syntax.specs.StatementReading.{begins_statement, statement, statements}
use Rattle.fb_syntax.proofs.Turns.{front_none}

pub statements_begin : (deeper : Option (Reading (List Statement))) (held : List Stmt) (input : Input) → held ≡ []
    → (tokens : ℕ) × (length input.left ≤ tokens) × (with_front (map view_stmt held) (repeated (give []) tokens begins_statement (statement deeper)) input ≡ statements deeper input)
unfolding statements
statements_begin deeper held input none = (
  length input.left,
  omega arith,
  ap (λ items. with_front (map view_stmt items) (repeated (give []) (length input.left) begins_statement (statement deeper)) input) none
      ∙ front_none (repeated (give []) (length input.left) begins_statement (statement deeper) input),
)
