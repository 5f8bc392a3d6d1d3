-- Where a statement stands in its body: how many statements, blocks, call sites and asserts begin before it.
use Rattle.fb_syntax.specs.Trees.{Statement, Statements}
use Rattle.fb_check.specs.declared.counts.Counts.{Counts}
use Rattle.fb_check.specs.Counts.{no_counts, together, own_counts, statement_counts as counts_of_statement, block_counts as counts_of_block}

abbrev pub Position : Type 0
Position = Counts

abbrev pub beginning : Position
beginning = no_counts

abbrev pub past : Position → Counts → Position
past = together

-- a statement without its blocks
abbrev pub alone : Statement → Counts
alone = own_counts

-- a block without its statements
abbrev pub one_block : Counts
one_block = record { statements = 0; blocks = 1; sites = 0; asserts = 0 }

-- a statement with all that stands inside it
unfoldable pub statement_counts : Statement → Counts
statement_counts = counts_of_statement

-- a block with all that stands inside it
unfoldable pub block_counts : Statements → Counts
block_counts = counts_of_block
