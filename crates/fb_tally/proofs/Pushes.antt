-- What is kept of owners, with one line more.
use Rattle.std.proofs.Common.{◌≡◌, ⊎_elim, ℕ, ◌+◌, Bool, true, false, cond, ◌&&◌, ◌||◌, ◌==◌, Option, Some, None, List, [], ◌∷◌, ◌++◌, map, fold, length, slice_get, Contains, refl, sym, ap, ◌∙◌, subst, arith, append-nil}
use Rattle.std.specs.Bool.{Decides as Tells}
use Rattle.std.proofs.lemmas.Bool.Decides.{Decides-eqb, Decides-and, Decides-or, Decides-like}
use Rattle.std.proofs.lemmas.List.{length-map, map_push}
use Rattle.std.proofs.lemmas.Option.{same_Some}
use Rattle.fb_report.specs.declared.line.Line.{Line}
use Rattle.fb_report.specs.declared.line.Line.TheVariants.{Header, Inv, Plan, End}
use Rattle.fb_functest.specs.PlanLines.{PlanLine, plan_line_in, plan_lines}
use Rattle.fb_valid.specs.Lines.{owner_in, owners_told, is_end}
use Rattle.fb_valid.specs.Rules.{OfPlan, IsOwned}
use Rattle.fb_tally.specs.Decisions.{Decides}
use Rattle.fb_tally.specs.Told.{with_told, told_from}
use Rattle.fb_tally.specs.Owned.{OwnerRows, record_told, plan_row, UsesAbove, AreOwnersOf}
use Rattle.fb_tally.specs.Owning.{own}
use Rattle.fb_tally.specs.declared.rows.RecordRow.{RecordRow}
use Rattle.fb_tally.specs.declared.rows.PlanRow.{PlanRow}
use Rattle.fb_tally.proofs.Lists.{decided, tells, decided_like, get_push, made_none}
use Rattle.fb_tally.proofs.Uses.{owned_same, none_owned, OwnedByLast, owned_push, owned_before}
use Rattle.fb_tally.proofs.Lines.{told_push, told_made, each_none, each_push}
use Rattle.fb_tally.proofs.OwnedRows.{has_use, use_tells, own_all_told, owned_row}

-- ---- lines of other sorts

pub record_no_plan : (line : Line) (owner : ℕ) → owner_in line ≡ Some owner → plan_line_in line ≡ None
record_no_plan (Header version fuel reduction) owner is = refl
record_no_plan (Inv id other made) owner is = refl
record_no_plan (Plan version id parent fault run uses outcome) owner is = absurd (cc)
record_no_plan (End cause plans run pruned failed invs stopped) owner is = refl

pub plan_no_record : (line : Line) (told : PlanLine) → plan_line_in line ≡ Some told → owner_in line ≡ None
plan_no_record (Header version fuel reduction) told is = refl
plan_no_record (Inv id owner made) told is = absurd (cc)
plan_no_record (Plan version id parent fault run uses outcome) told is = refl
plan_no_record (End cause plans run pruned failed invs stopped) told is = refl

end_tells_none : (line : Line) → is_end line ≡ true → (owner_in line ≡ None) × (plan_line_in line ≡ None)
end_tells_none (Header version fuel reduction) is = absurd (cc)
end_tells_none (Inv id owner made) is = absurd (cc)
end_tells_none (Plan version id parent fault run uses outcome) is = absurd (cc)
end_tells_none (End cause plans run pruned failed invs stopped) is = (refl, refl)

-- ---- what is told

module _ {A : Type 0} (tell : Line → Option A) (lines : List Line) (line : Line) where
  told_skip : tell line ≡ None → told_from tell 0 lines ≡ told_from tell 0 (lines ++ line ∷ [])
  told_skip none =
      sym (told_push tell 0 lines line ∙ ap (λ o. told_from tell 0 lines ++ with_told (0 + length lines) o []) none ∙ append-nil (told_from tell 0 lines))

  told_more : (told : A) (at : ℕ) → at ≡ length lines → tell line ≡ Some told → told_from tell 0 lines ++ (at, told) ∷ [] ≡ told_from tell 0 (lines ++ line ∷ [])
  told_more told at at_is some =
      sym (told_push tell 0 lines line ∙ ap (λ o. told_from tell 0 lines ++ with_told (0 + length lines) o []) some
      ∙ ap (λ n. told_from tell 0 lines ++ (n, told) ∷ []) (let same : 0 + length lines ≡ at = omega (arith, at_is) in same))

module _ (lines : List Line) (owners : OwnerRows) (are : AreOwnersOf lines owners) where
  pub owners_are : map (λ (row : RecordRow). row.owner) owners.records ≡ owners_told lines
  owners_are = owner_of owners.records ∙ ap (map (λ told. told.1)) are.records ∙ told_made owner_in 0 lines
    where
      owner_of : (rows : List RecordRow) → map (λ (row : RecordRow). row.owner) rows ≡ map (λ told. told.1) (map record_told rows)
      owner_of [] = refl
      owner_of (row ∷ rows) = ap (λ owners. row.owner ∷ owners) (owner_of rows)

  pub records_long : length owners.records ≡ length (owners_told lines)
  records_long = sym (length-map owners.records (λ (row : RecordRow). row.owner)) ∙ ap length owners_are

  pub plans_long : length owners.plans ≡ length (plan_lines lines)
  plans_long =
      ap length are.plans ∙ length-map (told_from plan_line_in 0 lines) plan_row ∙ sym (length-map (told_from plan_line_in 0 lines) (λ told. told.1))
      ∙ ap length (told_made plan_line_in 0 lines)

  same_owned : (line : Line) → plan_line_in line ≡ None → (place : ℕ) (row : RecordRow) → slice_get owners.records place ≡ Some row
      → Decides (IsOwned (lines ++ line ∷ []) place row.owner) row.owned
  same_owned line none place row there =
      let same = made_none plan_line_in lines line none in
      decided_like row.owned (owned_same lines (lines ++ line ∷ []) place row.owner (sym same)) (owned_same (lines ++ line ∷ []) lines place row.owner same)
      (are.owned place row there)

  no_uses : (line : Line) → plan_line_in line ≡ None → OfPlan UsesAbove lines line
  no_uses line none told is = absurd (let both : None ≡ Some told = sym none ∙ is in cc)

  -- ---- one line more

  -- that tells neither a record nor a plan
  skip_push : (line : Line) → owner_in line ≡ None → plan_line_in line ≡ None → AreOwnersOf (lines ++ line ∷ []) owners
  skip_push line no_owner no_plan = record {
    records = are.records ∙ told_skip owner_in lines line no_owner;
    owned = same_owned line no_plan;
    plans = are.plans ∙ ap (map plan_row) (told_skip plan_line_in lines line no_plan);
    uses = each_push (OfPlan UsesAbove) lines line are.uses (no_uses line no_plan);
  }

  pub end_push : (line : Line) → is_end line ≡ true → AreOwnersOf (lines ++ line ∷ []) owners
  end_push line ends = (let none = end_tells_none line ends in skip_push line none.0 none.1)

  pub record_push : (line : Line) (at owner : ℕ) (records : List RecordRow) → owner_in line ≡ Some owner → at ≡ length lines
      → records ≡ owners.records ++ record { at = at; owner = owner; owned = false } ∷ [] → AreOwnersOf (lines ++ line ∷ []) (record { records = records; plans = owners.plans })
  record_push line at owner records tells_owner at_is rows = record {
    records =
        ap (map record_told) rows ∙ map_push record_told owners.records row ∙ ap (λ told. told ++ (at, owner) ∷ []) are.records
        ∙ told_more owner_in lines line owner at at_is tells_owner;
    owned = owned;
    plans = are.plans ∙ ap (map plan_row) (told_skip plan_line_in lines line no_plan);
    uses = each_push (OfPlan UsesAbove) lines line are.uses (no_uses line no_plan);
  }
    where
      row : RecordRow
      row = record { at = at; owner = owner; owned = false }

      no_plan : plan_line_in line ≡ None
      no_plan = record_no_plan line owner tells_owner

      new_owned : (place : ℕ) → place ≡ length owners.records → ¬ (IsOwned (lines ++ line ∷ []) place owner)
      new_owned place last is =
          none_owned lines are.uses place owner (let long = records_long in omega (arith, last, long))
          (owned_same (lines ++ line ∷ []) lines place owner (made_none plan_line_in lines line no_plan) is)

      owned : (place : ℕ) (other : RecordRow) → slice_get records place ≡ Some other → Decides (IsOwned (lines ++ line ∷ []) place other.owner) other.owned
      owned place other there =
          ⊎_elim (same_owned line no_plan place other)
          (λ last. subst (λ (r : RecordRow). Decides (IsOwned (lines ++ line ∷ []) place r.owner) r.owned) last.1 (new_owned place last.0))
          (get_push owners.records row place other (sym (ap (λ rows. slice_get rows place) rows) ∙ there))

  module _ (line : Line) (told : PlanLine) (tells_plan : plan_line_in line ≡ Some told) (number : ℕ) (run : Bool) (uses : List ℕ) (counted : number ≡ length owners.plans)
      (run_is : told.run ≡ run) (uses_are : told.uses ≡ uses) where
    used_now : (b : Bool) (place : ℕ) → Contains (cond b uses []) place → (b ≡ true) × Contains uses place
    used_now true place used = (refl, used)
    used_now false place (k, within, is) = absurd (omega (arith, within))

    now_used : (b : Bool) (place : ℕ) → b ≡ true → Contains uses place → Contains (cond b uses []) place
    now_used true place is used = used
    now_used false place is used = absurd (cc)

    last_tells : (place owner : ℕ) → Tells (owner == number && has_use (cond run uses []) place) (OwnedByLast lines told place owner)
    last_tells place owner =
        Decides-like _
        (λ both. (let there = used_now run place both.1 in (both.0 ∙ counted ∙ plans_long, run_is ∙ there.0, subst (λ us. Contains us place) (sym uses_are) there.1)))
        (λ last. (last.0 ∙ sym (counted ∙ plans_long), now_used run place (sym run_is ∙ last.1) (subst (λ us. Contains us place) uses_are last.2)))
        (Decides-and _ _ (Decides-eqb owner number) (use_tells (cond run uses []) place))

    now_owned : (records : List RecordRow) → records ≡ fold (own number) owners.records (cond run uses []) → (place : ℕ) (row : RecordRow) → slice_get records place ≡ Some row
        → Decides (IsOwned (lines ++ line ∷ []) place row.owner) row.owned
    now_owned records rows place row there =
        let before = owned_row number (cond run uses []) owners.records place row (sym (ap (λ rows. slice_get rows place) rows) ∙ there) in
        let old = before.0 in
        subst (λ (r : RecordRow). Decides (IsOwned (lines ++ line ∷ []) place r.owner) r.owned) before.2
        (decided (old.owned || (old.owner == number && has_use (cond run uses []) place))
        (Decides-like _ (owned_push lines line told tells_plan place old.owner) (owned_before lines line told tells_plan place old.owner)
        (Decides-or _ _ (tells old.owned (are.owned place old before.1)) (last_tells place old.owner))))

    pub plan_push : (at : ℕ) (records : List RecordRow) (plans : List PlanRow) → at ≡ length lines → UsesAbove lines told → records ≡ fold (own number) owners.records (cond run uses [])
        → plans ≡ owners.plans ++ record { at = at; run = run } ∷ [] → AreOwnersOf (lines ++ line ∷ []) (record { records = records; plans = plans })
    plan_push at records plans at_is above rows plan_rows = record {
      records =
          ap (map record_told) rows ∙ own_all_told number (cond run uses []) owners.records ∙ are.records
          ∙ told_skip owner_in lines line (plan_no_record line told tells_plan);
      owned = now_owned records rows;
      plans =
          plan_rows ∙ (λ i. are.plans i ++ record { at = at; run = sym run_is i } ∷ []) ∙ sym (map_push plan_row (told_from plan_line_in 0 lines) (at, told))
          ∙ ap (map plan_row) (told_more plan_line_in lines line told at at_is tells_plan);
      uses = each_push (OfPlan UsesAbove) lines line are.uses (λ other is. subst (UsesAbove lines) (let same : told ≡ other = same_Some told other (sym tells_plan ∙ is) in same) above);
    }

pub no_lines : (owners : OwnerRows) → owners.records ≡ [] → owners.plans ≡ [] → AreOwnersOf [] owners
no_lines owners records plans = record {
  records = ap (map record_told) records;
  owned = λ place row there. absurd (let both : None ≡ Some row = sym (ap (λ rows. slice_get rows place) records) ∙ there in cc);
  plans = plans;
  uses = each_none (OfPlan UsesAbove);
}
