-- Where the counts of each statement and each block of a body stand.
use Rattle.std.proofs.Common.{◌≡◌, ℕ, zero, suc, ◌+◌, List, [], ◌∷◌, ◌++◌, length, drop, slice_get, Some, refl, ap, sym, ◌∙◌, length-append, arith}
use Rattle.std.proofs.Math.Seq.{drop-append_seam}
use Rattle.std.proofs.lemmas.List.{drop-drop}
use Rattle.fb_syntax.specs.Trees.{Statement, Let, Assign, If, IfElse, Repeat, For, Break, Return, Fail, Call, Assert, Statements, NoStatements, AndStatements, Handlers, NoHandlers, AndHandlers}
use Rattle.fb_check.specs.declared.counts.Counts.{Counts}
use Rattle.fb_check.specs.Counts.{statement_counts, block_counts, all_counts, handler_counts, entries_inside, entries_of, handler_entries, StandsAt}

-- ---- as many as statements and blocks

mutual
  pub length-inside : (s : Statement) → suc (length (entries_inside s)) ≡ (statement_counts s).statements + (statement_counts s).blocks
  length-inside (If cond body) = omega (arith, length-entries body)
  length-inside (IfElse cond body other) =
      omega (arith, length-append (block_counts body ∷ entries_of body) (block_counts other ∷ entries_of other), length-entries body, length-entries other)
  length-inside (Repeat times body) = omega (arith, length-entries body)
  length-inside (For name over body) = omega (arith, length-entries body)
  length-inside (Call target service method args handlers) = omega (arith, length-handlers handlers)
  length-inside (Let name value) = refl
  length-inside (Assign name value) = refl
  length-inside Break = refl
  length-inside (Return value) = refl
  length-inside (Fail code) = refl
  length-inside (Assert cond) = refl

  pub length-entries : (ss : Statements) → length (entries_of ss) ≡ (all_counts ss).statements + (all_counts ss).blocks
  length-entries NoStatements = refl
  length-entries (AndStatements s ss) =
      omega (arith, length-append (statement_counts s ∷ entries_inside s) (entries_of ss), length-inside s, length-entries ss)

  length-handlers : (handlers : Handlers) → length (handler_entries handlers) ≡ (handler_counts handlers).statements + (handler_counts handlers).blocks
  length-handlers NoHandlers = refl
  length-handlers (AndHandlers code body handlers) =
      omega (arith, length-append (block_counts body ∷ entries_of body) (handler_entries handlers), length-entries body, length-handlers handlers)

pub length-block : (block : Statements) → suc (length (entries_of block)) ≡ (block_counts block).statements + (block_counts block).blocks
length-block block = omega (arith, length-entries block)

-- ---- at a place

first_at : {X : Type 0} (k : ℕ) (xs : List X) (x : X) (rest : List X) → drop k xs ≡ x ∷ rest → slice_get xs k ≡ Some x
first_at zero xs x rest is = ap (λ ys. slice_get ys 0) is
first_at (suc k) [] x rest is = absurd (cc)
first_at (suc k) (y ∷ xs) x rest is = first_at k xs x rest is

further : {X : Type 0} (entries front rest : List X) (k n : ℕ) → drop k entries ≡ front ++ rest → length front ≡ n → drop (k + n) entries ≡ rest
further entries front rest k n is counted =
    sym (drop-drop n k entries) ∙ ap (drop n) is ∙ ap (λ m. drop m (front ++ rest)) (sym counted) ∙ drop-append_seam front rest

pub stands : (entries inside rest : List Counts) (k : ℕ) (counts : Counts) → drop k entries ≡ (counts ∷ inside) ++ rest
    → suc (length inside) ≡ counts.statements + counts.blocks → StandsAt entries k counts inside rest
stands entries inside rest k counts is counted = record {
  here = first_at k entries counts (inside ++ rest) is;
  into = further entries (counts ∷ []) (inside ++ rest) k 1 is refl;
  behind = further entries (counts ∷ inside) rest k (counts.statements + counts.blocks) is counted;
}
