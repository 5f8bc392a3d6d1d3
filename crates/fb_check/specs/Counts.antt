-- What stands in each statement and each block of a body.
use Rattle.std.specs.Prelude.{◌≡◌, ℕ, ◌+◌, ◌<◌, ◌^◌, List, [], ◌∷◌, ◌++◌, drop, slice_get, Some}
use Rattle.fb_syntax.specs.Trees.{Statement, If, IfElse, Repeat, For, Call, Assert, Statements, NoStatements, AndStatements, Handlers, NoHandlers, AndHandlers}
use Rattle.fb_syntax.specs.Counts.{summed, summed_all, summed_handlers, call_weight, handlers_count}
use Rattle.fb_check.specs.declared.counts.Counts.{Counts}

-- how many blocks a statement has, those of the statements inside it left aside
abbrev pub block_weight : Statement → ℕ
block_weight (If cond body) = 1
block_weight (IfElse cond body other) = 2
block_weight (Repeat times body) = 1
block_weight (For name over body) = 1
block_weight (Call target service method args handlers) = handlers_count handlers
block_weight _ = 0

abbrev pub assert_weight : Statement → ℕ
assert_weight (Assert cond) = 1
assert_weight _ = 0

-- what stands in a statement, itself included
abbrev pub statement_counts : Statement → Counts
statement_counts s = record {
  statements = summed (λ _. 1) s;
  blocks = summed block_weight s;
  sites = summed call_weight s;
  asserts = summed assert_weight s;
}

-- what stands in a block, itself included
abbrev pub block_counts : Statements → Counts
block_counts block = record {
  statements = summed_all (λ _. 1) block;
  blocks = 1 + summed_all block_weight block;
  sites = summed_all call_weight block;
  asserts = summed_all assert_weight block;
}

-- ---- the counts of each statement and each block, in the order in which they begin

abbrev mutual
  -- of those inside a statement
  pub entries_inside : Statement → List Counts
  entries_inside (If cond body) = block_counts body ∷ entries_of body
  entries_inside (IfElse cond body other) = (block_counts body ∷ entries_of body) ++ (block_counts other ∷ entries_of other)
  entries_inside (Repeat times body) = block_counts body ∷ entries_of body
  entries_inside (For name over body) = block_counts body ∷ entries_of body
  entries_inside (Call target service method args handlers) = handler_entries handlers
  entries_inside _ = []

  -- of those inside a block, or a body
  pub entries_of : Statements → List Counts
  entries_of NoStatements = []
  entries_of (AndStatements s ss) = (statement_counts s ∷ entries_inside s) ++ entries_of ss

  pub handler_entries : Handlers → List Counts
  handler_entries NoHandlers = []
  handler_entries (AndHandlers code body handlers) = (block_counts body ∷ entries_of body) ++ handler_entries handlers

abbrev pub statement_entries : Statement → List Counts
statement_entries s = statement_counts s ∷ entries_inside s

abbrev pub block_entries : Statements → List Counts
block_entries block = block_counts block ∷ entries_of block

-- at place k of a list stand the counts of a statement or a block, then the entries of those inside it, then the rest
pub record StandsAt (entries : List Counts) (k : ℕ) (counts : Counts) (inside rest : List Counts) : Type 0 where
  pub here : slice_get entries k ≡ Some counts
  pub into : drop (k + 1) entries ≡ inside ++ rest
  pub behind : drop (k + (counts.statements + counts.blocks)) entries ≡ rest

-- ---- how they are added up

abbrev pub no_counts : Counts
no_counts = record { statements = 0; blocks = 0; sites = 0; asserts = 0 }

abbrev pub together : Counts → Counts → Counts
together one other = record {
  statements = one.statements + other.statements;
  blocks = one.blocks + other.blocks;
  sites = one.sites + other.sites;
  asserts = one.asserts + other.asserts;
}

-- a statement alone
abbrev pub own_counts : Statement → Counts
own_counts s = record { statements = 1; blocks = 0; sites = call_weight s; asserts = assert_weight s }

-- statements one after another
abbrev pub all_counts : Statements → Counts
all_counts ss = record {
  statements = summed_all (λ _. 1) ss;
  blocks = summed_all block_weight ss;
  sites = summed_all call_weight ss;
  asserts = summed_all assert_weight ss;
}

-- the blocks of handlers
abbrev pub handler_counts : Handlers → Counts
handler_counts handlers = record {
  statements = summed_handlers (λ _. 1) handlers;
  blocks = handlers_count handlers + summed_handlers block_weight handlers;
  sites = summed_handlers call_weight handlers;
  asserts = summed_handlers assert_weight handlers;
}

-- what stands in a statement, without itself
abbrev pub inside_counts : Statement → Counts
inside_counts (If cond body) = block_counts body
inside_counts (IfElse cond body other) = together (block_counts body) (block_counts other)
inside_counts (Repeat times body) = block_counts body
inside_counts (For name over body) = block_counts body
inside_counts (Call target service method args handlers) = handler_counts handlers
inside_counts _ = no_counts

-- each has 32 bits
pub record AreSmall (counts : Counts) : Type 0 where
  pub statements : counts.statements < 2 ^ 32
  pub blocks : counts.blocks < 2 ^ 32
  pub sites : counts.sites < 2 ^ 32
  pub asserts : counts.asserts < 2 ^ 32
