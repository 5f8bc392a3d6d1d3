-- A text that grows piece by piece.
use Rattle.std.proofs.Common.{◌≡◌, ℕ, List, ◌++◌, OnOk, Result, Ok, Err, append_assoc, refl, ap, ◌∙◌}

module _ {T E : Type 0} (r : Result T E) where
  on_ok : {P Q : Type 0} (r : Result T E) → (P → Q) → OnOk r P → OnOk r Q
  on_ok (Ok x) more p = more p
  on_ok (Err e) more p = p

  pub one_piece : (old new x text : List ℕ) → x ≡ text → OnOk r (new ≡ old ++ x) → OnOk r (new ≡ old ++ text)
  one_piece old new x text same = on_ok r (λ e. e ∙ ap (λ l. old ++ l) same)

  pub two_pieces : (old mid new x y text : List ℕ) → x ++ y ≡ text
      → mid ≡ old ++ x → OnOk r (new ≡ mid ++ y) → OnOk r (new ≡ old ++ text)
  two_pieces old mid new x y text same first =
      on_ok r (λ e. e ∙ ap (λ l. l ++ y) first ∙ append_assoc old x y ∙ ap (λ l. old ++ l) same)

  pub three_pieces : (old mid late new x y z text : List ℕ) → x ++ (y ++ z) ≡ text
      → mid ≡ old ++ x → late ≡ mid ++ y → OnOk r (new ≡ late ++ z) → OnOk r (new ≡ old ++ text)
  three_pieces old mid late new x y z text same first second third =
      two_pieces old mid new x (y ++ z) text same first (on_ok r (λ e. e ∙ ap (λ l. l ++ z) second ∙ append_assoc mid y z) third)

  pub four_pieces : (old mid late last new x y z w text : List ℕ) → x ++ (y ++ (z ++ w)) ≡ text
      → mid ≡ old ++ x → late ≡ mid ++ y → last ≡ late ++ z → OnOk r (new ≡ last ++ w) → OnOk r (new ≡ old ++ text)
  four_pieces old mid late last new x y z w text same first second third fourth =
      two_pieces old mid new x (y ++ (z ++ w)) text same first
      (three_pieces mid late last new y z w (y ++ (z ++ w)) refl second third fourth)
