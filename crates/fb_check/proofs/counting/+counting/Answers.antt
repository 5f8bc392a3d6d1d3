use Rattle.std.proofs.Common.{rules, ◌≡◌, ℕ, List, [], ◌∷◌, ◌++◌, length, ap, ◌∙◌, append_assoc, arith}
use Rattle.std.specs.Prelude.{slice_set}
use Rattle.std.proofs.Math.Seq.{set-append_seam}
use Rattle.fb_syntax.specs.declared.stmt.Stmt.{the_lemmas}
use Rattle.fb_syntax.specs.Views.{view_stmt, view_block}
use Rattle.fb_syntax.specs.ViewEquations.{view_if_alone, view_if_else, view_repeat, view_for, view_call}
use Rattle.fb_check.specs.declared.counts.Counts.{Counts}
use Rattle.fb_check.specs.Counts.{together, block_counts, entries_of, entries_inside, block_entries}
use Rattle.fb_check.proofs.Sums.{statement_sum, block_sum, small_first, small_second}
use Rattle.fb_check.proofs.counting.+counting.Goals as goal

-- the counts get their place before the entries of what is inside
filled : (before pushed after inside : List Counts) (x y : Counts) (place : ℕ) → place ≡ length before → pushed ≡ before ++ x ∷ [] → after ≡ pushed ++ inside
    → slice_set after place y ≡ before ++ y ∷ inside
filled before pushed after inside x y place at push added =
    ap (λ xs. slice_set xs place y) (added ∙ ap (λ xs. xs ++ inside) push ∙ append_assoc before (x ∷ []) inside)
    ∙ ap (λ n. slice_set (before ++ x ∷ inside) n y) at
    ∙ set-append_seam before x inside y

-- ---- a statement

pub add_statement-returns-clause-added : goal.add_statement-returns-clause-added
add_statement-returns-clause-added t c =
    let s = view_stmt c.args.stmt.now in
    let before = c.args.entries.now.items in
    let counts = c.plus-counts.ensures ∙ (λ i. together (c.of_statement.ensures i) (c.in_ok-inside.ensures.counts i)) ∙ statement_sum s in
    filled before c.push.new.self.items c.add_inside.new.entries.items (entries_inside s) c.none.result c.plus-counts.result c.len-place.result
    (omega (arith, c.len-place.ensures, c.args.entries.now.ok.0)) c.in_ok-push.ensures.items c.in_ok-inside.ensures.added
    ∙ ap (λ y. before ++ y ∷ entries_inside s) counts

-- ---- what is inside

pub add_inside-add_block-requires : goal.add_inside-add_block-requires
add_inside-add_block-requires t c =
    let small = rw (c.in-If.is, c.in-Some.is, view_if_else c.in-If.cond c.in-If.yes c.in-Some.no) at c.requires in
    (search (rules, the_lemmas), small_first (block_counts (view_block c.in-If.yes)) (block_counts (view_block c.in-Some.no)) small)

pub add_inside-add_block-requires-in-Some : goal.add_inside-add_block-requires-in-Some
add_inside-add_block-requires-in-Some t c =
    let small = rw (c.in-If.is, c.in-Some.is, view_if_else c.in-If.cond c.in-If.yes c.in-Some.no) at c.requires in
    (search (rules, the_lemmas), small_second (block_counts (view_block c.in-If.yes)) (block_counts (view_block c.in-Some.no)) small)

pub add_inside-plus-requires : goal.add_inside-plus-requires
add_inside-plus-requires t c =
    rw (c.in_ok-counts-in-Some.ensures.counts, c.in_ok-others-in-Some.ensures.counts)
    (rw (c.in-If.is, c.in-Some.is, view_if_else c.in-If.cond c.in-If.yes c.in-Some.no) at c.requires)

pub add_inside-add_block-requires-in-None : goal.add_inside-add_block-requires-in-None
add_inside-add_block-requires-in-None t c =
    (search (rules, the_lemmas), rw (c.in-If.is, c.in-None.is, view_if_alone c.in-If.cond c.in-If.yes) at c.requires)

pub add_inside-add_block-requires-in-Repeat : goal.add_inside-add_block-requires-in-Repeat
add_inside-add_block-requires-in-Repeat t c =
    (search (rules, the_lemmas), rw (c.in-Repeat.is, view_repeat c.in-Repeat.times c.in-Repeat.body) at c.requires)

pub add_inside-add_block-requires-in-For : goal.add_inside-add_block-requires-in-For
add_inside-add_block-requires-in-For t c =
    (search (rules, the_lemmas), rw (c.in-For.is, view_for c.in-For.name c.in-For.over c.in-For.body) at c.requires)

pub add_inside-add_handlers-requires : goal.add_inside-add_handlers-requires
add_inside-add_handlers-requires t c = (
  search (rules, the_lemmas),
  rw c.as_slice.ensures.value (rw (c.in-Call.is, view_call c.in-Call.name c.in-Call.service c.in-Call.method c.in-Call.args c.in-Call.handlers) at c.requires),
)

pub add_inside-returns-in_ok-others-in-Some-clause-counts : goal.add_inside-returns-in_ok-others-in-Some-clause-counts
add_inside-returns-in_ok-others-in-Some-clause-counts t c =
    rw (c.in-If.is, c.in-Some.is, view_if_else c.in-If.cond c.in-If.yes c.in-Some.no)
    (c.plus.ensures ∙ (λ i. together (c.in_ok-counts-in-Some.ensures.counts i) (c.in_ok-others-in-Some.ensures.counts i)))

pub add_inside-returns-in_ok-others-in-Some-clause-added : goal.add_inside-returns-in_ok-others-in-Some-clause-added
add_inside-returns-in_ok-others-in-Some-clause-added t c =
    let one = block_entries (view_block c.in-If.yes) in
    let other = block_entries (view_block c.in-Some.no) in
    rw (c.in-If.is, c.in-Some.is, view_if_else c.in-If.cond c.in-If.yes c.in-Some.no)
    (c.in_ok-others-in-Some.ensures.added ∙ ap (λ xs. xs ++ other) c.in_ok-counts-in-Some.ensures.added ∙ append_assoc c.args.entries.now.items one other)

pub add_inside-returns-in-None-clause-counts : goal.add_inside-returns-in-None-clause-counts
add_inside-returns-in-None-clause-counts t c =
    rw (c.in-If.is, c.in-None.is, view_if_alone c.in-If.cond c.in-If.yes) c.add_block-in-None.ensures.counts

pub add_inside-returns-in-None-clause-added : goal.add_inside-returns-in-None-clause-added
add_inside-returns-in-None-clause-added t c =
    rw (c.in-If.is, c.in-None.is, view_if_alone c.in-If.cond c.in-If.yes) c.add_block-in-None.ensures.added

pub add_inside-returns-in-Repeat-clause-counts : goal.add_inside-returns-in-Repeat-clause-counts
add_inside-returns-in-Repeat-clause-counts t c =
    rw (c.in-Repeat.is, view_repeat c.in-Repeat.times c.in-Repeat.body) c.add_block-in-Repeat.ensures.counts

pub add_inside-returns-in-Repeat-clause-added : goal.add_inside-returns-in-Repeat-clause-added
add_inside-returns-in-Repeat-clause-added t c =
    rw (c.in-Repeat.is, view_repeat c.in-Repeat.times c.in-Repeat.body) c.add_block-in-Repeat.ensures.added

pub add_inside-returns-in-For-clause-counts : goal.add_inside-returns-in-For-clause-counts
add_inside-returns-in-For-clause-counts t c =
    rw (c.in-For.is, view_for c.in-For.name c.in-For.over c.in-For.body) c.add_block-in-For.ensures.counts

pub add_inside-returns-in-For-clause-added : goal.add_inside-returns-in-For-clause-added
add_inside-returns-in-For-clause-added t c =
    rw (c.in-For.is, view_for c.in-For.name c.in-For.over c.in-For.body) c.add_block-in-For.ensures.added

pub add_inside-returns-in-Call-clause-counts : goal.add_inside-returns-in-Call-clause-counts
add_inside-returns-in-Call-clause-counts t c =
    rw (c.in-Call.is, view_call c.in-Call.name c.in-Call.service c.in-Call.method c.in-Call.args c.in-Call.handlers)
    (rw (← c.as_slice.ensures.value) c.add_handlers.ensures.counts)

pub add_inside-returns-in-Call-clause-added : goal.add_inside-returns-in-Call-clause-added
add_inside-returns-in-Call-clause-added t c =
    rw (c.in-Call.is, view_call c.in-Call.name c.in-Call.service c.in-Call.method c.in-Call.args c.in-Call.handlers)
    (rw (← c.as_slice.ensures.value) c.add_handlers.ensures.added)

-- ---- a block

pub add_block-returns-clause-added : goal.add_block-returns-clause-added
add_block-returns-clause-added t c =
    let block = view_block c.args.block.now in
    let before = c.args.entries.now.items in
    let inside = rw c.as_slice.ensures.value at c.in_ok-inside.ensures.counts in
    let counts = c.plus-counts.ensures ∙ (λ i. together (c.of_block.ensures i) (inside i)) ∙ block_sum block in
    filled before c.push.new.self.items c.add_statements.new.entries.items (entries_of block) c.none.result c.plus-counts.result c.len-place.result
    (omega (arith, c.len-place.ensures, c.args.entries.now.ok.0)) c.in_ok-push.ensures.items (rw c.as_slice.ensures.value at c.in_ok-inside.ensures.added)
    ∙ ap (λ y. before ++ y ∷ entries_of block) counts
