-- Whether a pruned line uses only records that plan lines above it own.
use Rattle.std.proofs.Common.{◌≡◌, inl, inr, ⊎_elim, ℕ, ◌<◌, false, Option, Some, None, List, [], ◌∷◌, map, length, slice_get, Contains, refl, sym, ap, ◌∙◌, subst}
use Rattle.std.specs.Prelude.{option_map}
use Rattle.std.specs.Bool.{Decides as Tells}
use Rattle.std.proofs.lemmas.Bool.Decides.{Decides-ltb, Decides-and, Decides-like}
use Rattle.std.proofs.lemmas.Option.{same_Some, slice_get-map}
use Rattle.fb_report.specs.declared.line.Line.{Line}
use Rattle.fb_functest.specs.PlanLines.{PlanLine}
use Rattle.fb_valid.specs.Rules.{UsesEarlier}
use Rattle.fb_tally.specs.Decisions.{Decides}
use Rattle.fb_tally.specs.Owned.{OwnerRows, AreOwnersOf}
use Rattle.fb_tally.specs.Owning.{is_owner_below, are_earlier}
use Rattle.fb_tally.specs.declared.rows.RecordRow.{RecordRow}
use Rattle.fb_tally.proofs.Lists.{decided}
use Rattle.fb_tally.proofs.OwnedRows.{none_used, first_used, used_cases}
use Rattle.fb_tally.proofs.Pushes.{owners_are, plans_long}

abbrev owner_of : RecordRow → ℕ
owner_of row = row.owner

module _ (rows : List RecordRow) (count : ℕ) where
  abbrev IsEarlier : ℕ → Type 0
  IsEarlier place = (owner : ℕ) → slice_get (map owner_of rows) place ≡ Some owner → owner < count

  below_tells : (place : ℕ) (o : Option RecordRow) → slice_get rows place ≡ o → Tells (is_owner_below count o) (IsEarlier place)
  below_tells place None none =
      ((λ _ owner is. absurd (let both : None ≡ Some owner = sym (slice_get-map owner_of rows place ∙ ap (option_map owner_of) none) ∙ is in cc)), λ _. refl)
  below_tells place (Some row) some =
      let there : slice_get (map owner_of rows) place ≡ Some row.owner = slice_get-map owner_of rows place ∙ ap (option_map owner_of) some in
      Decides-like _ (λ below owner is. subst (λ n. n < count) (same_Some row.owner owner (sym there ∙ is)) below) (λ earlier. earlier row.owner there) (Decides-ltb row.owner count)

  earlier_tells : (uses : List ℕ) → Tells (are_earlier rows count uses) ((place : ℕ) → Contains uses place → IsEarlier place)
  earlier_tells [] = ((λ _ place there. absurd (none_used place there)), λ _. refl)
  earlier_tells (used ∷ uses) =
      Decides-like _ (λ both place there. ⊎_elim (λ here. subst IsEarlier here both.0) (λ later. both.1 place later) (used_cases used uses place there))
      (λ each. (each used (first_used used uses used (inl refl)), λ place later. each place (first_used used uses place (inr later))))
      (Decides-and _ _ (below_tells used (slice_get rows used) refl) (earlier_tells uses))

-- a pruned line
pub pruned_tells : (lines : List Line) (owners : OwnerRows) → AreOwnersOf lines owners → (told : PlanLine) (uses : List ℕ) → told.run ≡ false → told.uses ≡ uses
    → Decides (UsesEarlier lines told) (are_earlier owners.records (length owners.plans) uses)
pruned_tells lines owners are told uses pruned uses_are =
    decided (are_earlier owners.records (length owners.plans) uses)
    (Decides-like _
    (λ each _ place owner there is. subst (λ n. owner < n) (plans_long lines owners are)
    (each place (subst (λ us. Contains us place) uses_are there) owner (ap (λ owners. slice_get owners place) (owners_are lines owners are) ∙ is)))
    (λ earlier place there owner is. subst (λ n. owner < n) (sym (plans_long lines owners are))
    (earlier pruned place owner (subst (λ us. Contains us place) (sym uses_are) there) (sym (ap (λ owners. slice_get owners place) (owners_are lines owners are)) ∙ is)))
    (earlier_tells owners.records (length owners.plans) uses))
