-- Bytes have one answer.
use Rattle.std.proofs.Common.{◌≡◌, ◌⊎◌, ℕ, List, Result, Ok, Err, Some, inl, inr, refl, sym, ap, ◌∙◌, subst}
use Rattle.serde_json.specs.Data.{Data}
use Rattle.fb_index.specs.Entry.{Occurrence}
use Rattle.fb_index.specs.Index.{IsIndex, index_text}
use Rattle.fb_index.specs.Plan.{IsPlan, plan_text}
use Rattle.fb_index.specs.declared.fault.Fault.{Fault}
use Rattle.fb_report.specs.declared.line.Line.{Line}
use Rattle.fb_report.specs.Trees.{line_tree}
use Rattle.fb_reading.specs.declared.key.LineError.{LineError}
use Rattle.fb_reading.specs.declared.key.LineError.TheVariants.{NotJson, BadShape, BadNumber, Memory}
use Rattle.fb_reading.specs.Answers.{IsAnswer, IsLine, IsTreeOf}
use Rattle.fb_reading.specs.Refusals.{IsRefused}
use Rattle.fb_reading.proofs.Lines.{line-passes}
use Rattle.fb_reading.proofs.ToldLines.{line-told}
use Rattle.fb_reading.proofs.Unique.{refused-once}

one-tree : (bytes : List ℕ) (d c : Data) → IsTreeOf bytes d → IsTreeOf bytes c → d ≡ c
one-tree bytes d c p q =
    let both : Some d ≡ Some c = sym p.1 ∙ q.1 in
    cc

-- a line and a refusal
not-both : (bytes : List ℕ) (line : Line) (d : Data) (e : LineError) → IsLine line → IsTreeOf bytes (line_tree line) → IsTreeOf bytes d → IsRefused d e → ⊥
not-both bytes line d e is p q refused = line-passes line e is (subst (λ x. IsRefused x e) (one-tree bytes d (line_tree line) q p) refused)

-- two refusals
one-refusal : (bytes : List ℕ) (d c : Data) (e f : LineError) → IsTreeOf bytes d → IsTreeOf bytes c → IsRefused d e → IsRefused c f → e ≡ f
one-refusal bytes d c e f p q a b = refused-once c e f (subst (λ x. IsRefused x e) (one-tree bytes d c p q) a) b

module _ (indexes : (a b : List Occurrence) → IsIndex a → IsIndex b → index_text a ≡ index_text b → a ≡ b) (plans : (a b : List Fault) → IsPlan a → IsPlan b → plan_text a ≡ plan_text b → a ≡ b) where
  pub one-answer : (bytes : List ℕ) (a b : Result Line LineError) → IsAnswer bytes a → IsAnswer bytes b → (a ≡ Err Memory) ⊎ (b ≡ Err Memory) ⊎ (a ≡ b)
  one-answer bytes (Err Memory) b p q = inl refl
  one-answer bytes a (Err Memory) p q = inr (inl refl)
  one-answer bytes (Ok a) (Ok b) p q = inr (inr (ap Ok (line-told indexes plans a b p.0 q.0 (one-tree bytes (line_tree a) (line_tree b) p.1 q.1))))
  one-answer bytes (Ok a) (Err NotJson) p q = absurd (q (line_tree a) p.1)
  one-answer bytes (Ok a) (Err (BadShape k)) p q = absurd (not-both bytes a q.0 (BadShape k) p.0 p.1 q.1 q.2)
  one-answer bytes (Ok a) (Err (BadNumber k)) p q = absurd (not-both bytes a q.0 (BadNumber k) p.0 p.1 q.1 q.2)
  one-answer bytes (Err NotJson) (Ok b) p q = absurd (p (line_tree b) q.1)
  one-answer bytes (Err NotJson) (Err NotJson) p q = inr (inr refl)
  one-answer bytes (Err NotJson) (Err (BadShape k)) p q = absurd (p q.0 q.1)
  one-answer bytes (Err NotJson) (Err (BadNumber k)) p q = absurd (p q.0 q.1)
  one-answer bytes (Err (BadShape j)) (Ok b) p q = absurd (not-both bytes b p.0 (BadShape j) q.0 q.1 p.1 p.2)
  one-answer bytes (Err (BadShape j)) (Err NotJson) p q = absurd (q p.0 p.1)
  one-answer bytes (Err (BadShape j)) (Err (BadShape k)) p q = inr (inr (ap Err (one-refusal bytes p.0 q.0 _ _ p.1 q.1 p.2 q.2)))
  one-answer bytes (Err (BadShape j)) (Err (BadNumber k)) p q = inr (inr (ap Err (one-refusal bytes p.0 q.0 _ _ p.1 q.1 p.2 q.2)))
  one-answer bytes (Err (BadNumber j)) (Ok b) p q = absurd (not-both bytes b p.0 (BadNumber j) q.0 q.1 p.1 p.2)
  one-answer bytes (Err (BadNumber j)) (Err NotJson) p q = absurd (q p.0 p.1)
  one-answer bytes (Err (BadNumber j)) (Err (BadShape k)) p q = inr (inr (ap Err (one-refusal bytes p.0 q.0 _ _ p.1 q.1 p.2 q.2)))
  one-answer bytes (Err (BadNumber j)) (Err (BadNumber k)) p q = inr (inr (ap Err (one-refusal bytes p.0 q.0 _ _ p.1 q.1 p.2 q.2)))
