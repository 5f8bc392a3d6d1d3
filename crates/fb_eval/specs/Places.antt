-- Where statements and blocks stand in their body, by the counts that are kept of it.
use Rattle.std.specs.Prelude.{◌≡◌, ℕ, ◌+◌, List, ◌++◌, drop, Option, Some, None}
use Rattle.fb_syntax.specs.Trees.{Statement, Statements, Handlers}
use Rattle.fb_check.specs.declared.counts.Counts.{Counts}
use Rattle.fb_check.specs.Counts.{AreSmall, together, all_counts, handler_counts, statement_counts as counts_of_statement, block_counts as counts_of_block, statement_entries, block_entries, entries_of, handler_entries}
use Rattle.fb_meaning.specs.Positions.{Position, past, block_counts}

-- as many statements and blocks begin before a position, so its entry has this place
abbrev pub place_of : Position → ℕ
place_of at = at.statements + at.blocks

-- from this position on the kept counts are those of some part of the body, and what the position of its end has fits
pub record Stands (entries : List Counts) (at : Position) (own : List Counts) (counts : Counts) : Type 0 where
  pub rest : List Counts
  pub here : drop (place_of at) entries ≡ own ++ rest
  pub small : AreSmall (together at counts)

abbrev pub StatementStands : List Counts → Position → Statement → Type 0
StatementStands entries at s = Stands entries at (statement_entries s) (counts_of_statement s)

abbrev pub StatementsStand : List Counts → Position → Statements → Type 0
StatementsStand entries at ss = Stands entries at (entries_of ss) (all_counts ss)

abbrev pub BlockStands : List Counts → Position → Statements → Type 0
BlockStands entries at block = Stands entries at (block_entries block) (counts_of_block block)

abbrev pub HandlersStand : List Counts → Position → Handlers → Type 0
HandlersStand entries at handlers = Stands entries at (handler_entries handlers) (handler_counts handlers)

-- the other block of an `if`, if there is one, stands behind the first
abbrev pub OtherStands : List Counts → Position → Statements → Option Statements → Type 0
OtherStands entries inside body None = Unit {0}
OtherStands entries inside body (Some other) = BlockStands entries (past inside (block_counts body)) other
