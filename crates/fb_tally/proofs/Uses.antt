-- Uses of plan lines, and whether a record is owned, with one line more.
use Rattle.std.proofs.Common.{◌≡◌, ◌⊎◌, inl, inr, ⊎_elim, ℕ, ◌<◌, ◌≤◌, true, Some, List, [], ◌∷◌, ◌++◌, length, slice_get, Contains, sym, ap, ◌∙◌, subst, arith}
use Rattle.std.proofs.lemmas.List.Elements.{All-contains}
use Rattle.fb_report.specs.declared.line.Line.{Line}
use Rattle.fb_functest.specs.PlanLines.{PlanLine, plan_line_in, plan_lines}
use Rattle.fb_valid.specs.Lines.{owner_in, owners_told}
use Rattle.fb_valid.specs.Rules.{OfPlan, IsOwned}
use Rattle.fb_valid.specs.Valid.{OfEachLine}
use Rattle.fb_tally.specs.Owned.{UsesAbove}
use Rattle.fb_tally.proofs.Lists.{get_left, get_next, get_push, made_at, made_within, made_some}

pub use_within : (lines : List Line) → OfEachLine (OfPlan UsesAbove) lines → (number : ℕ) (told : PlanLine) → slice_get (plan_lines lines) number ≡ Some told
    → (place : ℕ) → Contains told.uses place → place < length (owners_told lines)
use_within lines uses number told there place used =
    let cut = made_at plan_line_in lines number told there in
    let above = uses cut.0 cut.1 cut.2 cut.3 told cut.4 in
    let below : place < length (owners_told cut.0) = All-contains (λ place. place < length (owners_told cut.0)) told.uses place above used in
    let more : length (owners_told cut.0) ≤ length (owners_told lines) = made_within owner_in lines cut.0 (cut.1 ∷ cut.2) cut.3 in
    omega (arith, below, more)

-- a record is owned by what plan lines tell
pub owned_same : (lines others : List Line) (place owner : ℕ) → plan_lines lines ≡ plan_lines others → IsOwned lines place owner → IsOwned others place owner
owned_same lines others place owner same is = record {
  line = is.line;
  there = sym (ap (λ told. slice_get told owner) same) ∙ is.there;
  is_run = is.is_run;
  uses = is.uses;
}

-- one that isn't told by now isn't owned
pub none_owned : (lines : List Line) → OfEachLine (OfPlan UsesAbove) lines → (place owner : ℕ) → length (owners_told lines) ≤ place → ¬ (IsOwned lines place owner)
none_owned lines uses place owner past is = (let within = use_within lines uses owner is.line is.there place is.uses in absurd (omega (arith, within, past)))

-- by the last plan line
abbrev pub OwnedByLast : List Line → PlanLine → ℕ → ℕ → Type 0
OwnedByLast lines told place owner = (owner ≡ length (plan_lines lines)) × (told.run ≡ true) × Contains told.uses place

module _ (lines : List Line) (line : Line) (told : PlanLine) (tells : plan_line_in line ≡ Some told) where
  pub owned_push : (place owner : ℕ) → IsOwned lines place owner ⊎ OwnedByLast lines told place owner → IsOwned (lines ++ line ∷ []) place owner
  owned_push place owner (inl is) = record {
    line = is.line;
    there = ap (λ all. slice_get all owner) (made_some plan_line_in lines line told tells) ∙ get_left (plan_lines lines) (told ∷ []) owner is.line is.there;
    is_run = is.is_run;
    uses = is.uses;
  }
  owned_push place owner (inr last) = record {
    line = told;
    there = ap (λ all. slice_get all owner) (made_some plan_line_in lines line told tells) ∙ ap (slice_get (plan_lines lines ++ told ∷ [])) last.0 ∙ get_next (plan_lines lines) [] told;
    is_run = last.1;
    uses = last.2;
  }

  pub owned_before : (place owner : ℕ) → IsOwned (lines ++ line ∷ []) place owner → IsOwned lines place owner ⊎ OwnedByLast lines told place owner
  owned_before place owner is =
      ⊎_elim (λ there. inl (record { line = is.line; there = there; is_run = is.is_run; uses = is.uses }))
      (λ last. inr (last.0, ap (λ (l : PlanLine). l.run) last.1 ∙ is.is_run, subst (λ (l : PlanLine). Contains l.uses place) (sym last.1) is.uses))
      (get_push (plan_lines lines) told owner is.line (sym (ap (λ all. slice_get all owner) (made_some plan_line_in lines line told tells)) ∙ is.there))
