-- The first line that breaks a rule, by a walk through a row for each line of a sort.
use Rattle.std.proofs.Common.{◌≡◌, ℕ, suc, ◌+◌, Bool, true, false, cond, if◌then◌else◌, Option, Some, None, List, [], ◌∷◌, ◌++◌, map, filter_map, length, slice_get, refl, sym, ap, ◌∙◌, subst, arith, append_assoc, append-nil}
use Rattle.std.proofs.lemmas.List.{length_push}
use Rattle.fb_report.specs.declared.line.Line.{Line}
use Rattle.fb_valid.specs.Valid.{OfEachLine}
use Rattle.fb_tally.specs.Decisions.{Decides}
use Rattle.fb_tally.specs.Told.{with_told, told_from}
use Rattle.fb_tally.specs.Firsts.{FirstBreakAt}
use Rattle.fb_tally.proofs.Lists.{get_next, made_none, made_some}
use Rattle.fb_tally.proofs.Lines.{each_none, each_push}

-- of the first row that fails a test on it and its number
abbrev pub first_failing : {R : Type 0} → (ℕ → R → Bool) → (R → ℕ) → ℕ → List R → Option ℕ
first_failing test at number [] = None
first_failing test at number (row ∷ rows) = if test number row then first_failing test at (number + 1) rows else Some (at row)

-- a row keeps of a line what the parts `row_part` and `told_part` have in common
module _ {A R C : Type 0} (tell : Line → Option A) (Keeps : List Line → Line → Type 0) (test : ℕ → R → Bool) (at : R → ℕ) (row_part : R → C) (told_part : ℕ × A → C)
    (lines : List Line) (all : List R)
    (silent : (above : List Line) (line : Line) → tell line ≡ None → Keeps above line)
    (place : (row : R) (n : ℕ) (x : A) → row_part row ≡ told_part (n, x) → at row ≡ n)
    (judge : (above : List Line) (line : Line) (x : A) (row : R) → tell line ≡ Some x → row_part row ≡ told_part (length above, x)
    → slice_get all (length (filter_map tell above)) ≡ Some row → Decides (Keeps above line) (test (length (filter_map tell above)) row)) where
  -- from here on
  abbrev FoundFrom : ℕ → List R → Type 0
  FoundFrom number rows = FirstBreakAt Keeps lines (first_failing test at number rows)

  -- below these lines, behind these rows
  abbrev FoundBelow : List Line → List Line → Type 0
  FoundBelow above rest =
      (done rows : List R) (number : ℕ) → all ≡ done ++ rows → length (filter_map tell above) ≡ number → length done ≡ number
      → map row_part rows ≡ map told_part (told_from tell (length above) rest) → OfEachLine Keeps above → FoundFrom number rows

  module _ (above : List Line) (line : Line) (rest : List Line) (cut : lines ≡ above ++ line ∷ rest) (each : OfEachLine Keeps above) (next : FoundBelow (above ++ line ∷ []) rest) where
    long : suc (length above) ≡ length (above ++ line ∷ [])
    long = (let more = length_push above line in omega (arith, more))

    past_silent : (done rows : List R) (number : ℕ) → tell line ≡ None → all ≡ done ++ rows → length (filter_map tell above) ≡ number → length done ≡ number
        → map row_part rows ≡ map told_part (told_from tell (suc (length above)) rest) → FoundFrom number rows
    past_silent done rows number none rows_cut counted passed told =
        next done rows number rows_cut (ap length (made_none tell above line none) ∙ counted) passed (told ∙ ap (λ n. map told_part (told_from tell n rest)) long)
        (each_push Keeps above line each (silent above line none))

    at_row : (done : List R) (row : R) (rows : List R) (number : ℕ) (x : A) → tell line ≡ Some x → all ≡ done ++ row ∷ rows → length (filter_map tell above) ≡ number → length done ≡ number
        → row_part row ≡ told_part (length above, x) → map row_part rows ≡ map told_part (told_from tell (suc (length above)) rest) → FoundFrom number (row ∷ rows)
    at_row done row rows number x some rows_cut counted passed part told =
        judged (test number row) (subst (λ n. Decides (Keeps above line) (test n row)) counted (judge above line x row some part there))
      where
        there : slice_get all (length (filter_map tell above)) ≡ Some row
        there = ap (slice_get all) (counted ∙ sym passed) ∙ ap (λ rows. slice_get rows (length done)) rows_cut ∙ get_next done rows row

        judged : (b : Bool) → Decides (Keeps above line) b → FirstBreakAt Keeps lines (cond b (first_failing test at (number + 1) rows) (Some (at row)))
        judged true keeps =
            next (done ++ row ∷ []) rows (number + 1) (rows_cut ∙ sym (append_assoc done (row ∷ []) rows))
            (ap length (made_some tell above line x some) ∙ length_push (filter_map tell above) x ∙ ap (λ n. n + 1) counted) (length_push done row ∙ ap (λ n. n + 1) passed)
            (told ∙ ap (λ n. map told_part (told_from tell n rest)) long) (each_push Keeps above line each keeps)
        judged false fails = (above, line, record { below = rest; cut = cut; kept = each; broken = fails }, sym (place row (length above) x part))

    by_told : (o : Option A) → tell line ≡ o → (done rows : List R) (number : ℕ) → all ≡ done ++ rows → length (filter_map tell above) ≡ number → length done ≡ number
        → map row_part rows ≡ map told_part (with_told (length above) o (told_from tell (suc (length above)) rest)) → FoundFrom number rows
    by_told None is done rows number rows_cut counted passed told = past_silent done rows number is rows_cut counted passed told
    by_told (Some x) is done [] number rows_cut counted passed told = absurd (cc)
    by_told (Some x) is done (row ∷ rows) number rows_cut counted passed told =
        at_row done row rows number x is rows_cut counted passed (let part : row_part row ≡ told_part (length above, x) = cc in part)
        (let parts : map row_part rows ≡ map told_part (told_from tell (suc (length above)) rest) = cc in parts)

  walk : (above rest : List Line) → lines ≡ above ++ rest → FoundBelow above rest
  walk above [] cut done [] number rows_cut counted passed told each = subst (OfEachLine Keeps) (sym (cut ∙ append-nil above)) each
  walk above [] cut done (row ∷ rows) number rows_cut counted passed told each = absurd (cc)
  walk above (line ∷ rest) cut done rows number rows_cut counted passed told each =
      by_told above line rest cut each (walk (above ++ line ∷ []) rest (cut ∙ sym (append_assoc above (line ∷ []) rest))) (tell line) refl done rows number rows_cut counted passed told

  -- the first row that fails the test stands for the first line that breaks the rule
  pub first_breaks : map row_part all ≡ map told_part (told_from tell 0 lines) → FirstBreakAt Keeps lines (first_failing test at 0 all)
  first_breaks told = walk [] lines refl [] all 0 refl refl refl told (each_none Keeps)
