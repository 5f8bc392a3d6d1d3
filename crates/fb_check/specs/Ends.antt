-- Which statements and blocks end: a `return`, a `fail`, an `if` whose two branches end, and a block that has one of these.
use Rattle.std.specs.Prelude.{Bool, true, false, ◌&&◌, ◌||◌}
use Rattle.fb_syntax.specs.Trees.{Statement, IfElse, Return, Fail, Statements, NoStatements, AndStatements}

abbrev mutual
  pub statement_ends : Statement → Bool
  statement_ends (Return value) = true
  statement_ends (Fail code) = true
  statement_ends (IfElse cond body other) = block_ends body && block_ends other
  statement_ends _ = false

  pub block_ends : Statements → Bool
  block_ends NoStatements = false
  block_ends (AndStatements s ss) = statement_ends s || block_ends ss
