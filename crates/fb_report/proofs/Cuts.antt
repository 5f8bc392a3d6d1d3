-- One byte more in front of what is left.
use Rattle.std.proofs.Common.{◌≡◌, ◌≢◌, ℕ, ◌+◌, ◌-◌, ◌≤◌, List, [], ◌∷◌, ◌++◌, length, take, drop, get_or, subst, take_all, sym, ap, ◌∙◌, arith, append_assoc, length-append, take_at}
use Rattle.fb_index.specs.Pieces.{IsFree}

free-last : (sign b : ℕ) (front : List ℕ) → IsFree sign front → b ≢ sign → IsFree sign (front ++ b ∷ [])
free-last sign b [] free other = (other, tt)
free-last sign b (x ∷ front) free other = (free.0, free-last sign b front free.1 other)

pub record IsCutSoFar (sign : ℕ) (bytes : List ℕ) (len : ℕ) (left : List ℕ) : Type 0 where
  pub parts : bytes ≡ take len bytes ++ left
  pub free : IsFree sign (take len bytes)
  pub size : len + length left ≡ length bytes

step : (sign b : ℕ) (bytes rest : List ℕ) (len : ℕ) → IsCutSoFar sign bytes len (b ∷ rest) → b ≢ sign → IsCutSoFar sign bytes (len + 1) rest
step sign b bytes rest len so_far other =
    let front = take len bytes in
    let regrouped : bytes ≡ (front ++ b ∷ []) ++ rest = so_far.parts ∙ sym (append_assoc front (b ∷ []) rest) in
    let counted : length front + length (b ∷ rest) ≡ length bytes = sym (length-append front (b ∷ rest)) ∙ sym (ap length so_far.parts) in
    let grown : take (len + 1) bytes ≡ front ++ b ∷ [] =
    ap (take (len + 1)) regrouped ∙ take_at (front ++ b ∷ []) rest (len + 1) (omega (arith, length-append front (b ∷ []), counted, so_far.size)) in
    record {
      parts = regrouped ∙ ap (λ xs. xs ++ rest) (sym grown);
      free = (let all = free-last sign b front so_far.free other in rw grown all);
      size = omega (arith, so_far.size);
    }

pub cut-step : (sign : ℕ) (bytes left : List ℕ) (len : ℕ) → IsCutSoFar sign bytes len left → 1 ≤ length left → get_or left 0 0 ≢ sign
    → IsCutSoFar sign bytes (len + 1) (take (length left - 1) (drop 1 left))
cut-step sign bytes [] len so_far some other = absurd (omega arith)
cut-step sign bytes (b ∷ rest) len so_far some other = subst (IsCutSoFar sign bytes (len + 1)) (sym (take_all (length (b ∷ rest) - 1) rest (omega arith))) (step sign b bytes rest len so_far other)
