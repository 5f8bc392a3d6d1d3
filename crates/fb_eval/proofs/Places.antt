-- What stands inside and behind what stands at a position.
use Rattle.std.proofs.Common.{◌≡◌, ℕ, zero, suc, ◌+◌, List, [], ◌∷◌, ◌++◌, drop, get_or, slice_get, Option, Some, sym, ap, subst, ◌∙◌, append_assoc, append-nil, arith}
use Rattle.fb_syntax.specs.Trees.{Expression, Expressions, Statement, If, IfElse, Repeat, For, Call, Statements, AndStatements, Handlers, AndHandlers}
use Rattle.fb_check.specs.declared.counts.Counts.{Counts}
use Rattle.fb_check.specs.Counts.{AreSmall, together, no_counts, own_counts, inside_counts, all_counts, handler_counts, statement_counts as counts_of_statement, block_counts as counts_of_block, statement_entries, block_entries, entries_inside, entries_of, handler_entries, StandsAt}
use Rattle.fb_check.proofs.CountPlaces.{stands, length-inside, length-block}
use Rattle.fb_check.proofs.Sums.{statement_sum, block_sum, handlers_sum, none-together}
use Rattle.fb_meaning.specs.Positions.{Position, past, alone, one_block, statement_counts, block_counts}
use Rattle.fb_meaning.specs.Bodies.{inside_of}
use Rattle.fb_eval.specs.Places.{place_of, Stands, StatementStands, StatementsStand, BlockStands, HandlersStand}

-- ---- parts

front : (entries : List Counts) (at : Position) (own more : List Counts) (counts part : Counts) → Stands entries at (own ++ more) counts
    → AreSmall (together at part) → Stands entries at own part
front entries at own more counts part whole small = record {
  rest = more ++ whole.rest;
  here = whole.here ∙ append_assoc own more whole.rest;
  small = small;
}

statement_at : (entries rest : List Counts) (k : ℕ) (s : Statement) → drop k entries ≡ statement_entries s ++ rest
    → StandsAt entries k (counts_of_statement s) (entries_inside s) rest
statement_at entries rest k s is = stands entries (entries_inside s) rest k (counts_of_statement s) is (length-inside s)

block_at : (entries rest : List Counts) (k : ℕ) (block : Statements) → drop k entries ≡ block_entries block ++ rest
    → StandsAt entries k (counts_of_block block) (entries_of block) rest
block_at entries rest k block is = stands entries (entries_of block) rest k (counts_of_block block) is (length-block block)

moved : (entries xs : List Counts) (k n : ℕ) → k ≡ n → drop n entries ≡ xs → drop k entries ≡ xs
moved entries xs k n e is = ap (λ m. drop m entries) e ∙ is

small_part : (at c d : Counts) → AreSmall (together at (together c d)) → AreSmall (together at c)
small_part at c d small = record {
  statements = omega (arith, small.statements);
  blocks = omega (arith, small.blocks);
  sites = omega (arith, small.sites);
  asserts = omega (arith, small.asserts);
}

small_rest : (at c d : Counts) → AreSmall (together at (together c d)) → AreSmall (together (together at c) d)
small_rest at c d small = record {
  statements = omega (arith, small.statements);
  blocks = omega (arith, small.blocks);
  sites = omega (arith, small.sites);
  asserts = omega (arith, small.asserts);
}

-- ---- statements

pub first_stands : (entries : List Counts) (at : Position) (s : Statement) (ss : Statements) → StatementsStand entries at (AndStatements s ss) → StatementStands entries at s
first_stands entries at s ss whole =
    front entries at (statement_entries s) (entries_of ss) _ _ whole (small_part at (counts_of_statement s) (all_counts ss) whole.small)

pub next_stand : (entries : List Counts) (at : Position) (s : Statement) (ss : Statements) → StatementsStand entries at (AndStatements s ss)
    → StatementsStand entries (past at (statement_counts s)) ss
unfolding statement_counts
next_stand entries at s ss whole = record {
  rest = whole.rest;
  here = moved entries (entries_of ss ++ whole.rest) (place_of (together at (counts_of_statement s))) (place_of at + ((counts_of_statement s).statements + (counts_of_statement s).blocks)) (omega arith)
      (statement_at entries (entries_of ss ++ whole.rest) (place_of at) s (whole.here ∙ append_assoc (statement_entries s) (entries_of ss) whole.rest)).behind;
  small = small_rest at (counts_of_statement s) (all_counts ss) whole.small;
}

-- ---- a block

pub body_stands : (entries : List Counts) (at : Position) (block : Statements) → BlockStands entries at block → StatementsStand entries (past at one_block) block
body_stands entries at block whole = record {
  rest = whole.rest;
  here = moved entries (entries_of block ++ whole.rest) (place_of (together at one_block)) (place_of at + 1) (omega arith)
      (block_at entries whole.rest (place_of at) block whole.here).into;
  small = small_rest at one_block (all_counts block) (subst (λ c. AreSmall (together at c)) (sym (block_sum block)) whole.small);
}

pub inner_stand : (entries : List Counts) (at inner : Position) (block same : Statements) → BlockStands entries at block → inner ≡ past at one_block → same ≡ block
    → StatementsStand entries inner same
inner_stand entries at inner block same whole place is =
    subst (λ p. StatementsStand entries p same) (sym place) (subst (λ ss. StatementsStand entries (past at one_block) ss) (sym is) (body_stands entries at block whole))

-- ---- what is inside a statement

inside_stands : (entries : List Counts) (at : Position) (s : Statement) → StatementStands entries at s
    → Stands entries (past at (alone s)) (entries_inside s) (inside_counts s)
inside_stands entries at s whole = record {
  rest = whole.rest;
  here = moved entries (entries_inside s ++ whole.rest) (place_of (past at (alone s))) (place_of at + 1) (omega arith)
      (statement_at entries whole.rest (place_of at) s whole.here).into;
  small = small_rest at (own_counts s) (inside_counts s) (subst (λ c. AreSmall (together at c)) (sym (statement_sum s)) whole.small);
}

pub if_stands : (entries : List Counts) (at : Position) (cond : Expression) (body : Statements) → StatementStands entries at (If cond body)
    → BlockStands entries (inside_of at (If cond body)) body
if_stands entries at cond body whole = inside_stands entries at (If cond body) whole

pub repeat_stands : (entries : List Counts) (at : Position) (times : ℕ) (body : Statements) → StatementStands entries at (Repeat times body)
    → BlockStands entries (inside_of at (Repeat times body)) body
repeat_stands entries at times body whole = inside_stands entries at (Repeat times body) whole

pub for_stands : (entries : List Counts) (at : Position) (name : List ℕ) (over : Expression) (body : Statements) → StatementStands entries at (For name over body)
    → BlockStands entries (inside_of at (For name over body)) body
for_stands entries at name over body whole = inside_stands entries at (For name over body) whole

pub call_stands : (entries : List Counts) (at : Position) (target service method : List ℕ) (args : Expressions) (handlers : Handlers)
    → StatementStands entries at (Call target service method args handlers)
    → HandlersStand entries (inside_of at (Call target service method args handlers)) handlers
call_stands entries at target service method args handlers whole = inside_stands entries at (Call target service method args handlers) whole

-- what is inside begins at a position that fits
pub inside_small : (entries : List Counts) (at : Position) (s : Statement) → StatementStands entries at s → AreSmall (inside_of at s)
inside_small entries at s whole = small_part at (own_counts s) (inside_counts s) (subst (λ c. AreSmall (together at c)) (sym (statement_sum s)) whole.small)

pub body_small : (entries : List Counts) (at : Position) (block : Statements) → BlockStands entries at block → AreSmall (past at one_block)
body_small entries at block whole = small_part at one_block (all_counts block) (subst (λ c. AreSmall (together at c)) (sym (block_sum block)) whole.small)

-- a block before others
block_first : (entries : List Counts) (at : Position) (block : Statements) (more : List Counts) (counts : Counts)
    → Stands entries at (block_entries block ++ more) (together (counts_of_block block) counts) → BlockStands entries at block
block_first entries at block more counts whole = front entries at (block_entries block) more _ _ whole (small_part at (counts_of_block block) counts whole.small)

behind_block : (entries : List Counts) (at : Position) (block : Statements) (more : List Counts) (counts : Counts)
    → Stands entries at (block_entries block ++ more) (together (counts_of_block block) counts) → Stands entries (past at (block_counts block)) more counts
unfolding block_counts
behind_block entries at block more counts whole = record {
  rest = whole.rest;
  here = moved entries (more ++ whole.rest) (place_of (together at (counts_of_block block))) (place_of at + ((counts_of_block block).statements + (counts_of_block block).blocks)) (omega arith)
      (block_at entries (more ++ whole.rest) (place_of at) block (whole.here ∙ append_assoc (block_entries block) more whole.rest)).behind;
  small = small_rest at (counts_of_block block) counts whole.small;
}

pub yes_stands : (entries : List Counts) (at : Position) (cond : Expression) (body other : Statements) → StatementStands entries at (IfElse cond body other)
    → BlockStands entries (inside_of at (IfElse cond body other)) body
yes_stands entries at cond body other whole =
    block_first entries (past at (alone (IfElse cond body other))) body (block_entries other) (counts_of_block other) (inside_stands entries at (IfElse cond body other) whole)

pub no_stands : (entries : List Counts) (at : Position) (cond : Expression) (body other : Statements) → StatementStands entries at (IfElse cond body other)
    → BlockStands entries (past (inside_of at (IfElse cond body other)) (block_counts body)) other
no_stands entries at cond body other whole =
    behind_block entries (past at (alone (IfElse cond body other))) body (block_entries other) (counts_of_block other) (inside_stands entries at (IfElse cond body other) whole)

small_handlers : (at : Counts) (code : Option (List ℕ)) (body : Statements) (rest : Handlers) → AreSmall (together at (handler_counts (AndHandlers code body rest)))
    → AreSmall (together at (together (counts_of_block body) (handler_counts rest)))
small_handlers at code body rest small = subst (λ c. AreSmall (together at c)) (sym (handlers_sum code body rest)) small

handlers_parts : (entries : List Counts) (at : Position) (code : Option (List ℕ)) (body : Statements) (rest : Handlers) → HandlersStand entries at (AndHandlers code body rest)
    → Stands entries at (block_entries body ++ handler_entries rest) (together (counts_of_block body) (handler_counts rest))
handlers_parts entries at code body rest whole = record { rest = whole.rest; here = whole.here; small = small_handlers at code body rest whole.small }

pub handler_stands : (entries : List Counts) (at : Position) (code : Option (List ℕ)) (body : Statements) (rest : Handlers) → HandlersStand entries at (AndHandlers code body rest)
    → BlockStands entries at body
handler_stands entries at code body rest whole = block_first entries at body (handler_entries rest) (handler_counts rest) (handlers_parts entries at code body rest whole)

pub further_handlers_stand : (entries : List Counts) (at : Position) (code : Option (List ℕ)) (body : Statements) (rest : Handlers) → HandlersStand entries at (AndHandlers code body rest)
    → HandlersStand entries (past at (block_counts body)) rest
further_handlers_stand entries at code body rest whole = behind_block entries at body (handler_entries rest) (handler_counts rest) (handlers_parts entries at code body rest whole)

-- ---- look-ups

slice_there : (xs : List Counts) (k : ℕ) (x other : Counts) → slice_get xs k ≡ Some x → get_or xs k other ≡ x
slice_there [] k x other is = absurd (cc)
slice_there (y ∷ xs) zero x other is = cc
slice_there (y ∷ xs) (suc k) x other is = slice_there xs k x other is

pub statement_there : (entries : List Counts) (at : Position) (s : Statement) (k : ℕ) (other : Counts) → StatementStands entries at s → k ≡ place_of at
    → get_or entries k other ≡ counts_of_statement s
statement_there entries at s k other whole e =
    slice_there entries k (counts_of_statement s) other (ap (slice_get entries) e ∙ (statement_at entries whole.rest (place_of at) s whole.here).here)

pub block_there : (entries : List Counts) (at : Position) (block : Statements) (k : ℕ) (other : Counts) → BlockStands entries at block → k ≡ place_of at
    → get_or entries k other ≡ counts_of_block block
block_there entries at block k other whole e =
    slice_there entries k (counts_of_block block) other (ap (slice_get entries) e ∙ (block_at entries whole.rest (place_of at) block whole.here).here)

-- ---- a whole body

pub whole_body_stands : (entries : List Counts) (body : Statements) → entries ≡ entries_of body → AreSmall (all_counts body) → StatementsStand entries no_counts body
whole_body_stands entries body is small = record {
  rest = [];
  here = is ∙ sym (append-nil (entries_of body));
  small = subst AreSmall (sym (none-together (all_counts body))) small;
}
