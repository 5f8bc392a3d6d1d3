-- Bytes are refused at one offset.
use Rattle.std.proofs.Common.{◌≡◌, ◌⊎◌, inl, inr, ℕ, ◌+◌, List, [], ◌∷◌, ◌++◌, length, refl, ap, sym, ◌∙◌, subst, arith, length-append, le_antisymm}
use Rattle.std.specs.Prelude.{codes}
use Rattle.fb_index.specs.Fault.{IsFaultText, LacksValueAt}
use Rattle.fb_index.specs.Pieces.{up_to}
use Rattle.fb_index.specs.Plan.{IsPlanText, PlanLacksValueAt, IsPlanRefusedAt}
use Rattle.fb_index.specs.Refusal.{IsRefusedAt}
use Rattle.fb_index.proofs.Faults.{value-of-fault, with-equals}
use Rattle.fb_index.proofs.Plans.{same-left, whole_faults}
use Rattle.fb_index.proofs.Unique.{index-split}

pub refused-once : (IsText : List ℕ → Type 0) (bytes : List ℕ) (one other : ℕ) → IsRefusedAt IsText bytes one → IsRefusedAt IsText bytes other
    → one ≡ other
refused-once IsText bytes one other a b = le_antisymm (b.longest one a.within a.begins) (a.longest other b.within b.begins)

lacks-once : (bytes : List ℕ) (one other : ℕ) → LacksValueAt bytes one → LacksValueAt bytes other → one ≡ other
lacks-once bytes one other a b =
    let parts =
    index-split a.index b.index (codes "ok:" ++ a.rest) (codes "ok:" ++ b.rest) a.is_index b.is_index
    (sym (with-equals a.index a.rest) ∙ sym a.parts ∙ b.parts ∙ with-equals b.index b.rest) in
    a.placed ∙ ap (λ (text : List ℕ). length (text ++ codes "=ok:")) parts.0 ∙ sym b.placed

-- what lacks a value is no fault
no-fault : (bytes : List ℕ) (place : ℕ) → LacksValueAt bytes place → ¬ (IsFaultText bytes)
no-fault bytes place lacks is = lacks.no_value (value-of-fault bytes lacks.rest lacks.index lacks.is_index lacks.parts is)

plan-lacks-once : (bytes : List ℕ) (one other : ℕ) → PlanLacksValueAt bytes one → PlanLacksValueAt bytes other → one ≡ other
plan-lacks-once bytes one other a b =
    let rests : a.rest ≡ b.rest =
    same-left a.faults b.faults a.rest b.rest a.each b.each (sym a.parts ∙ b.parts) (no-fault (up_to 44 a.rest) a.inside a.missing)
    (no-fault (up_to 44 b.rest) b.inside b.missing) in
    let inside : a.inside ≡ b.inside =
    lacks-once (up_to 44 b.rest) a.inside b.inside (subst (λ (rest : List ℕ). LacksValueAt (up_to 44 rest) a.inside) rests a.missing) b.missing in
    let first : length bytes ≡ length (whole_faults a.faults) + length a.rest = ap length a.parts ∙ length-append (whole_faults a.faults) a.rest in
    let second : length bytes ≡ length (whole_faults b.faults) + length b.rest = ap length b.parts ∙ length-append (whole_faults b.faults) b.rest in
    omega (arith, first, second, ap length rests, inside, a.placed, b.placed)

pub plan-once : (bytes : List ℕ) (one other : ℕ) → IsPlanRefusedAt bytes one → IsPlanRefusedAt bytes other → one ≡ other
plan-once bytes one other (inl (none, a)) (inl (also, b)) = plan-lacks-once bytes one other a b
plan-once bytes one other (inl (none, a)) (inr (nowhere, b)) = absurd (nowhere one a)
plan-once bytes one other (inr (nowhere, a)) (inl (none, b)) = absurd (nowhere other b)
plan-once bytes one other (inr (nowhere, a)) (inr (also, b)) = refused-once IsPlanText bytes one other a b
