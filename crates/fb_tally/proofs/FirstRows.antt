-- The first record that isn't owned, and the first run line that owns none.
use Rattle.std.proofs.Common.{◌≡◌, ◌≢◌, ℕ, ◌+◌, ◌<◌, Bool, true, false, not, cond, ◌||◌, ◌==◌, Some, None, List, [], ◌∷◌, map, fold, replicate, get_or, set, length, slice_get, Contains, refl, sym, ap, ◌∙◌, subst, arith}
use Rattle.std.specs.Bool.{Decides as Tells}
use Rattle.std.proofs.lemmas.Bool.{false≢true}
use Rattle.std.proofs.lemmas.Bool.Decides.{Decides-eqb, Decides-like, Decides-at}
use Rattle.std.proofs.lemmas.List.{length-set, length-replicate, map-id, get_or-set_same, get_or-set_other, get_or-replicate}
use Rattle.std.proofs.lemmas.Option.{same_Some, slice_get_within}
use Rattle.fb_report.specs.declared.line.Line.{Line}
use Rattle.fb_functest.specs.PlanLines.{PlanLine, plan_line_in, plan_lines}
use Rattle.fb_valid.specs.Lines.{owner_in, owners_told}
use Rattle.fb_valid.specs.Rules.{OfPlan, IsOwned, HasOwner, OwnsSome}
use Rattle.fb_tally.specs.Decisions.{Decides}
use Rattle.fb_tally.specs.Firsts.{FirstBreakAt}
use Rattle.fb_tally.specs.Owned.{OwnerRows, record_told, plan_row, AreOwnersOf}
use Rattle.fb_tally.specs.Owning.{first_not_owned, mark, marks_of, owns_some, first_without_record}
use Rattle.fb_tally.specs.declared.rows.RecordRow.{RecordRow}
use Rattle.fb_tally.specs.declared.rows.PlanRow.{PlanRow}
use Rattle.fb_tally.proofs.Lists.{decided, decided_like}
use Rattle.fb_tally.proofs.OwnedRows.{has_use, use_tells}
use Rattle.fb_tally.proofs.Pushes.{owners_are}
use Rattle.fb_tally.proofs.Walks.{first_failing, first_breaks}

-- ---- records

first_same : (number : ℕ) (rows : List RecordRow) → first_failing (λ n (row : RecordRow). row.owned) (λ (row : RecordRow). row.at) number rows ≡ first_not_owned rows
first_same number [] = refl
first_same number (row ∷ rows) = ap (λ rest. cond row.owned rest (Some row.at)) (first_same (number + 1) rows)

pub not_owned_first : (lines : List Line) (owners : OwnerRows) → AreOwnersOf lines owners → FirstBreakAt (HasOwner lines) lines (first_not_owned owners.records)
not_owned_first lines owners are =
    subst (FirstBreakAt (HasOwner lines) lines) (first_same 0 owners.records)
    (first_breaks owner_in (HasOwner lines) (λ n (row : RecordRow). row.owned) (λ (row : RecordRow). row.at) record_told (λ told. told) lines owners.records
    silent (λ row n x part. ap (λ told. told.0) part) judge (are.records ∙ sym (map-id _)))
  where
    silent : (above : List Line) (line : Line) → owner_in line ≡ None → HasOwner lines above line
    silent above line none owner is = absurd (let both : None ≡ Some owner = sym none ∙ is in cc)

    judge : (above : List Line) (line : Line) (x : ℕ) (row : RecordRow) → owner_in line ≡ Some x → record_told row ≡ (length above, x)
        → slice_get owners.records (length (owners_told above)) ≡ Some row → Decides (HasOwner lines above line) row.owned
    judge above line x row tells part there =
        let owner_is : row.owner ≡ x = ap (λ told. told.1) part in
        decided_like row.owned (λ is owner told. subst (IsOwned lines (length (owners_told above))) (owner_is ∙ same_Some x owner (sym tells ∙ told)) is)
        (λ has. subst (IsOwned lines (length (owners_told above))) (sym owner_is) (has x tells)) (are.owned (length (owners_told above)) row there)

-- ---- marks

or_true : (b : Bool) → true ≡ (b || true)
or_true true = refl
or_true false = refl

or_false : (b : Bool) → b ≡ (b || false)
or_false true = refl
or_false false = refl

mark_get : (marks : List Bool) (row : RecordRow) (k : ℕ) → k < length marks → get_or (mark marks row) k false ≡ (get_or marks k false || row.owner == k)
mark_get marks row k within = by (row.owner == k) refl
  where
    told : Tells (row.owner == k) (row.owner ≡ k)
    told = Decides-eqb row.owner k

    by : (b : Bool) → (row.owner == k) ≡ b → get_or (mark marks row) k false ≡ (get_or marks k false || b)
    by true is =
        let at = told.0 is in
        ap (λ n. get_or (set marks n true) k false) at ∙ get_or-set_same marks k true false within ∙ or_true (get_or marks k false)
    by false is = get_or-set_other marks row.owner k true false (λ at. false≢true (sym is ∙ told.1 (sym at))) ∙ or_false (get_or marks k false)

mark_all_get : (rows : List RecordRow) (marks : List Bool) (k : ℕ) → k < length marks
    → get_or (fold mark marks rows) k false ≡ (get_or marks k false || has_use (map (λ (row : RecordRow). row.owner) rows) k)
mark_all_get [] marks k within = or_false (get_or marks k false)
mark_all_get (row ∷ rows) marks k within =
    mark_all_get rows (mark marks row) k (let long = length-set marks row.owner true in omega (arith, long, within))
    ∙ ap (λ b. b || has_use (map (λ (row : RecordRow). row.owner) rows) k) (mark_get marks row k within)
    ∙ or_assoc (get_or marks k false) (row.owner == k) (has_use (map (λ (row : RecordRow). row.owner) rows) k)
  where
    or_assoc : (a b c : Bool) → ((a || b) || c) ≡ (a || (b || c))
    or_assoc true b c = refl
    or_assoc false b c = refl

marks_tell : (count : ℕ) (rows : List RecordRow) (k : ℕ) → k < count → Tells (get_or (marks_of count rows) k false) (Contains (map (λ (row : RecordRow). row.owner) rows) k)
marks_tell count rows k within =
    Decides-at _ _ (mark_all_get rows (replicate count false) k (let long = length-replicate count false in omega (arith, long, within))
    ∙ ap (λ b. b || has_use (map (λ (row : RecordRow). row.owner) rows) k) (get_or-replicate count k false false within))
    (use_tells (map (λ (row : RecordRow). row.owner) rows) k)

-- ---- run lines

first_without_same : (marks : List Bool) (number : ℕ) (rows : List PlanRow) → first_failing (owns_some marks) (λ (row : PlanRow). row.at) number rows ≡ first_without_record marks number rows
first_without_same marks number [] = refl
first_without_same marks number (row ∷ rows) = ap (λ rest. cond (owns_some marks number row) rest (Some row.at)) (first_without_same marks (number + 1) rows)

module _ (lines : List Line) (owners : OwnerRows) (are : AreOwnersOf lines owners) where
  abbrev marked : List Bool
  marked = marks_of (length owners.plans) owners.records

  module _ (above : List Line) (line : Line) (told : PlanLine) (tells_plan : plan_line_in line ≡ Some told) (row : PlanRow) (part : row ≡ plan_row (length above, told))
      (there : slice_get owners.plans (length (plan_lines above)) ≡ Some row) where
    runs : (other : PlanLine) → plan_line_in line ≡ Some other → row.run ≡ other.run
    runs other is = ap (λ (r : PlanRow). r.run) part ∙ ap (λ (l : PlanLine). l.run) (same_Some told other (sym tells_plan ∙ is))

    mark_tells : Tells (get_or marked (length (plan_lines above)) false) (Contains (owners_told lines) (length (plan_lines above)))
    mark_tells =
        subst (λ owners. Tells (get_or marked (length (plan_lines above)) false) (Contains owners (length (plan_lines above)))) (owners_are lines owners are)
        (marks_tell (length owners.plans) owners.records (length (plan_lines above)) (slice_get_within owners.plans (length (plan_lines above)) row there))

    by : (first run : Bool) → (length (plan_lines above) == 0) ≡ first → row.run ≡ run
        → Decides (OfPlan (OwnsSome lines) above line) (cond (first || not run) true (get_or marked (length (plan_lines above)) false))
    by true run first run_is = λ other is some.
        let none : length (plan_lines above) ≡ 0 = (Decides-eqb (length (plan_lines above)) 0).0 first in
        absurd (omega (arith, none, some))
    by false false first run_is = λ other is some run. absurd (false≢true (sym run_is ∙ runs other is ∙ run))
    by false true first run_is =
        decided (get_or marked (length (plan_lines above)) false)
        (Decides-like _ (λ has other is some run. has) (λ owns. owns told tells_plan some_above (sym (runs told tells_plan) ∙ run_is)) mark_tells)
      where
        some_above : 0 < length (plan_lines above)
        some_above =
            let apart : length (plan_lines above) ≢ 0 = λ none. false≢true (sym first ∙ (Decides-eqb (length (plan_lines above)) 0).1 none) in
            omega (arith, apart)

    owns_tells : Decides (OfPlan (OwnsSome lines) above line) (owns_some marked (length (plan_lines above)) row)
    owns_tells = by (length (plan_lines above) == 0) row.run refl refl

  pub without_record_first : FirstBreakAt (OfPlan (OwnsSome lines)) lines (first_without_record (marks_of (length owners.plans) owners.records) 0 owners.plans)
  without_record_first =
      subst (FirstBreakAt (OfPlan (OwnsSome lines)) lines) (first_without_same marked 0 owners.plans)
      (first_breaks plan_line_in (OfPlan (OwnsSome lines)) (owns_some marked) (λ (row : PlanRow). row.at) (λ row. row) plan_row lines owners.plans
      silent (λ row n told part. ap (λ (r : PlanRow). r.at) part) (λ above line told row tells part there. owns_tells above line told tells row part there)
      (map-id owners.plans ∙ are.plans))
    where
      silent : (above : List Line) (line : Line) → plan_line_in line ≡ None → OfPlan (OwnsSome lines) above line
      silent above line none told is = absurd (let both : None ≡ Some told = sym none ∙ is in cc)
