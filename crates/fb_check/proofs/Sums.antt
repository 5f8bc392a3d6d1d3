-- How counts are added up.
use Rattle.std.proofs.Common.{◌≡◌, ℕ, ◌*◌, ◌≤◌, sym, subst, refl, arith}
use Rattle.fb_syntax.specs.Trees.{Statement, Let, Assign, If, IfElse, Repeat, For, Break, Return, Fail, Call, Assert, Statements, NoStatements, AndStatements, Handlers, NoHandlers, AndHandlers}
use Rattle.fb_syntax.specs.Counts.{summed, summed_all, summed_handlers}
use Rattle.fb_syntax.specs.Limits.{most_handlers}
use Rattle.fb_syntax.specs.Kept.{KeepsStatement, KeepStatements, KeepHandlers, KeepsBody}
use Rattle.fb_check.specs.declared.counts.Counts.{Counts}
use Rattle.fb_check.specs.Counts.{block_weight, assert_weight, statement_counts, block_counts, inside_counts, all_counts, handler_counts, own_counts, no_counts, together, AreSmall}

pub same_counts : (one other : Counts) → one.statements ≡ other.statements → one.blocks ≡ other.blocks → one.sites ≡ other.sites → one.asserts ≡ other.asserts → one ≡ other
same_counts one other statements blocks sites asserts = λ i. record { statements = statements i; blocks = blocks i; sites = sites i; asserts = asserts i }

pub together_assoc : (a b c : Counts) → together (together a b) c ≡ together a (together b c)
together_assoc a b c = same_counts _ _ (omega arith) (omega arith) (omega arith) (omega arith)

pub together-none : (a : Counts) → together a no_counts ≡ a
together-none a = same_counts _ _ (omega arith) (omega arith) (omega arith) (omega arith)

pub none-together : (a : Counts) → together no_counts a ≡ a
none-together a = same_counts _ _ (omega arith) (omega arith) (omega arith) (omega arith)

pub small_first : (a b : Counts) → AreSmall (together a b) → AreSmall a
small_first a b small = record {
  statements = omega (arith, small.statements);
  blocks = omega (arith, small.blocks);
  sites = omega (arith, small.sites);
  asserts = omega (arith, small.asserts);
}

pub small_second : (a b : Counts) → AreSmall (together a b) → AreSmall b
small_second a b small = record {
  statements = omega (arith, small.statements);
  blocks = omega (arith, small.blocks);
  sites = omega (arith, small.sites);
  asserts = omega (arith, small.asserts);
}

-- ---- what a statement, a block and handlers are made of

pub statement_sum : (s : Statement) → together (own_counts s) (inside_counts s) ≡ statement_counts s
statement_sum (If cond body) = same_counts _ _ (omega arith) (omega arith) (omega arith) (omega arith)
statement_sum (IfElse cond body other) = same_counts _ _ (omega arith) (omega arith) (omega arith) (omega arith)
statement_sum (Repeat times body) = same_counts _ _ (omega arith) (omega arith) (omega arith) (omega arith)
statement_sum (For name over body) = same_counts _ _ (omega arith) (omega arith) (omega arith) (omega arith)
statement_sum (Call _ _ _ _ _) = same_counts _ _ (omega arith) (omega arith) (omega arith) (omega arith)
statement_sum (Let name value) = refl
statement_sum (Assign name value) = refl
statement_sum Break = refl
statement_sum (Return value) = refl
statement_sum (Fail code) = refl
statement_sum (Assert cond) = refl

pub block_sum : (block : Statements) → together (record no_counts { blocks = 1 }) (all_counts block) ≡ block_counts block
block_sum block = same_counts _ _ (omega arith) (omega arith) (omega arith) (omega arith)

pub handlers_sum : (code : _) (body : Statements) (rest : Handlers)
    → together (block_counts body) (handler_counts rest) ≡ handler_counts (AndHandlers code body rest)
handlers_sum code body rest = same_counts _ _ (omega arith) (omega arith) (omega arith) (omega arith)

pub inside_small : (s : Statement) → AreSmall (statement_counts s) → AreSmall (inside_counts s)
inside_small s small = small_second (own_counts s) (inside_counts s) (subst AreSmall (sym (statement_sum s)) small)

pub block_inside_small : (block : Statements) → AreSmall (block_counts block) → AreSmall (all_counts block)
block_inside_small block small = small_second (record no_counts { blocks = 1 }) (all_counts block) (subst AreSmall (sym (block_sum block)) small)

-- ---- a body's counts have 32 bits

-- what each statement has few of, all have at most so often
module _ (weight : Statement → ℕ) (few : (s : Statement) → KeepsStatement s → weight s ≤ most_handlers) where
  mutual
    few_in_statement : (s : Statement) → KeepsStatement s → summed weight s ≤ most_handlers * summed (λ _. 1) s
    few_in_statement (If cond body) kept = omega (arith, few (If cond body) kept, few_in body kept.1)
    few_in_statement (IfElse cond body other) kept = omega (arith, few (IfElse cond body other) kept, few_in body kept.1, few_in other kept.2)
    few_in_statement (Repeat times body) kept = omega (arith, few (Repeat times body) kept, few_in body kept.1)
    few_in_statement (For name over body) kept = omega (arith, few (For name over body) kept, few_in body kept.2)
    few_in_statement (Call target service method args handlers) kept =
        omega (arith, few (Call target service method args handlers) kept, few_in_handlers handlers kept.6)
    few_in_statement (Let name value) kept = few (Let name value) kept
    few_in_statement (Assign name value) kept = few (Assign name value) kept
    few_in_statement Break kept = few Break kept
    few_in_statement (Return value) kept = few (Return value) kept
    few_in_statement (Fail code) kept = few (Fail code) kept
    few_in_statement (Assert cond) kept = few (Assert cond) kept

    pub few_in : (ss : Statements) → KeepStatements ss → summed_all weight ss ≤ most_handlers * summed_all (λ _. 1) ss
    few_in NoStatements kept = omega arith
    few_in (AndStatements s ss) kept = omega (arith, few_in_statement s kept.0, few_in ss kept.1)

    few_in_handlers : (handlers : Handlers) → KeepHandlers handlers → summed_handlers weight handlers ≤ most_handlers * summed_handlers (λ _. 1) handlers
    few_in_handlers NoHandlers kept = omega arith
    few_in_handlers (AndHandlers code body handlers) kept = omega (arith, few_in body kept.1, few_in_handlers handlers kept.2)

few_blocks : (s : Statement) → KeepsStatement s → block_weight s ≤ most_handlers
few_blocks (If cond body) kept = omega arith
few_blocks (IfElse cond body other) kept = omega arith
few_blocks (Repeat times body) kept = omega arith
few_blocks (For name over body) kept = omega arith
few_blocks (Call _ _ _ _ _) kept = kept.5
few_blocks (Let name value) kept = omega arith
few_blocks (Assign name value) kept = omega arith
few_blocks Break kept = omega arith
few_blocks (Return value) kept = omega arith
few_blocks (Fail code) kept = omega arith
few_blocks (Assert cond) kept = omega arith

few_asserts : (s : Statement) → KeepsStatement s → assert_weight s ≤ most_handlers
few_asserts (If cond body) kept = omega arith
few_asserts (IfElse cond body other) kept = omega arith
few_asserts (Repeat times body) kept = omega arith
few_asserts (For name over body) kept = omega arith
few_asserts (Call _ _ _ _ _) kept = omega arith
few_asserts (Let name value) kept = omega arith
few_asserts (Assign name value) kept = omega arith
few_asserts Break kept = omega arith
few_asserts (Return value) kept = omega arith
few_asserts (Fail code) kept = omega arith
few_asserts (Assert cond) kept = omega arith

pub body_small : (body : Statements) → KeepsBody body → AreSmall (all_counts body)
body_small body kept = record {
  statements = omega (arith, kept.counted);
  blocks = omega (arith, kept.counted, few_in block_weight few_blocks body kept.statements);
  sites = omega (arith, kept.calls);
  asserts = omega (arith, kept.counted, few_in assert_weight few_asserts body kept.statements);
}
