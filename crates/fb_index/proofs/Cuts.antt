-- Texts that are cut at a sign.
use Rattle.std.proofs.Common.{◌≡◌, ℕ, ◌<◌, Bool, true, false, Option, Some, None, List, [], ◌∷◌, ◌++◌, eqb, cond, length, ap, sym, ◌∙◌, refl, arith, append_assoc, append-nil, length-append}
use Rattle.std.specs.List.{All}
use Rattle.std.proofs.lemmas.List.Elements.{All-head, All-tail}
use Rattle.fb_index.specs.Pieces.{IsFree, up_to, behind}
use Rattle.fb_index.specs.Refusal.{IsTextOf}
use Rattle.fb_index.proofs.Bools.{eqb-itself, eqb-same, eqb-other, eqb-differs}
use Rattle.fb_index.proofs.Free.{split-same, no-split}
use Rattle.fb_index.proofs.Lists.{AreItems, joined, closed, joined-push, closed-push}

-- the sign and what follows it, where it is there
abbrev pub rest_of : ℕ → Option (List ℕ) → List ℕ
rest_of sign None = []
rest_of sign (Some bytes) = sign ∷ bytes

module _ (sign : ℕ) where
  parts-by : (t : Bool) (b : ℕ) (bytes : List ℕ) → eqb b sign ≡ t → bytes ≡ up_to sign bytes ++ rest_of sign (behind sign bytes) →
      b ∷ bytes ≡ cond t [] (b ∷ up_to sign bytes) ++ rest_of sign (cond t (Some bytes) (behind sign bytes))
  parts-by true b bytes test rest = ap (λ c. c ∷ bytes) (eqb-same b sign test)
  parts-by false b bytes test rest = ap (λ xs. b ∷ xs) rest

  -- the piece, the sign and what follows it make up the bytes
  pub cut-parts : (bytes : List ℕ) → bytes ≡ up_to sign bytes ++ rest_of sign (behind sign bytes)
  cut-parts [] = refl
  cut-parts (b ∷ bytes) = parts-by _ b bytes refl (cut-parts bytes)

  free-by : (t : Bool) (b : ℕ) (bytes : List ℕ) → eqb b sign ≡ t → IsFree sign (up_to sign bytes) → IsFree sign (cond t [] (b ∷ up_to sign bytes))
  free-by true b bytes test rest = tt
  free-by false b bytes test rest = (eqb-other b sign test, rest)

  pub up_to-free : (bytes : List ℕ) → IsFree sign (up_to sign bytes)
  up_to-free [] = tt
  up_to-free (b ∷ bytes) = free-by _ b bytes refl (up_to-free bytes)

  -- the piece in front of the first sign
  pub up_to-sign : (piece rest : List ℕ) → IsFree sign piece → up_to sign (piece ++ sign ∷ rest) ≡ piece
  up_to-sign [] rest free = rw (eqb-itself sign) refl
  up_to-sign (b ∷ piece) rest free = rw (eqb-differs b sign free.0) (ap (λ xs. b ∷ xs) (up_to-sign piece rest free.1))

  pub up_to-whole : (piece : List ℕ) → IsFree sign piece → up_to sign piece ≡ piece
  up_to-whole [] free = refl
  up_to-whole (b ∷ piece) free = rw (eqb-differs b sign free.0) (ap (λ xs. b ∷ xs) (up_to-whole piece free.1))

  -- a front without the sign stands in the piece
  pub up_to-front : (front rest : List ℕ) → IsFree sign front → up_to sign (front ++ rest) ≡ front ++ up_to sign rest
  up_to-front [] rest free = refl
  up_to-front (b ∷ front) rest free = rw (eqb-differs b sign free.0) (ap (λ xs. b ∷ xs) (up_to-front front rest free.1))

  -- what follows a sign is shorter
  pub cut-shorter : (left rest : List ℕ) → behind sign left ≡ Some rest → length rest < length left
  cut-shorter left rest some =
      let size = ap length (cut-parts left ∙ ap (λ o. up_to sign left ++ rest_of sign o) some) ∙ length-append (up_to sign left) (sign ∷ rest) in
      omega (arith, size)

  module _ {Item : Type 0} (text : Item → List ℕ) where
    pub open_up : (a b c : List ℕ) → ((a ++ (sign ∷ [])) ++ b) ++ c ≡ a ++ (sign ∷ (b ++ c))
    open_up a b c = simp append_assoc

    -- the last item, behind which no sign stands
    pub cut-last : (whole left : List ℕ) (items : List Item) (x : Item) → whole ≡ closed sign text items ++ left →
        up_to sign left ≡ text x → behind sign left ≡ None → whole ≡ joined sign text (items ++ x ∷ [])
    cut-last whole left items x read piece none =
        let ends : left ≡ text x = cut-parts left ∙ (λ i. piece i ++ rest_of sign (none i)) ∙ append-nil (text x) in
        read ∙ ap (λ xs. closed sign text items ++ xs) ends ∙ sym (joined-push sign text items x)

    -- an item and the sign behind it
    pub cut-next : (whole left rest : List ℕ) (items : List Item) (x : Item) → whole ≡ closed sign text items ++ left →
        up_to sign left ≡ text x → behind sign left ≡ Some rest → whole ≡ closed sign text (items ++ x ∷ []) ++ rest
    cut-next whole left rest items x read piece some =
        let goes : left ≡ text x ++ sign ∷ rest = cut-parts left ∙ (λ i. piece i ++ rest_of sign (some i)) in
        read ∙ ap (λ xs. closed sign text items ++ xs) goes ∙ regroup (closed sign text items) (text x) rest
        ∙ ap (λ xs. xs ++ rest) (sym (closed-push sign text items x))
      where
        regroup : (a b c : List ℕ) → a ++ (b ++ (sign ∷ c)) ≡ ((a ++ b) ++ (sign ∷ [])) ++ c
        regroup a b c = simp append_assoc

    module _ (IsItem : Item → Type 0) (free : (x : Item) → IsItem x → IsFree sign (text x)) where
      abbrev pub AreJoined : List ℕ → Type 0
      AreJoined = IsTextOf (AreItems IsItem) (joined sign text)

      -- behind whole items stand items
      pub stripped : (items : List Item) (rest : List ℕ) (ys : List Item) → All IsItem items → AreItems IsItem ys →
          closed sign text items ++ rest ≡ joined sign text ys → AreJoined rest
      stripped [] rest ys each are same = (ys, are, same)
      stripped (x ∷ items) rest [] each are same = absurd (omega (arith, are.some))
      stripped (x ∷ items) rest (y ∷ []) each are same =
          absurd (no-split sign (text y) (text x) _ (free y (All-head IsItem y [] are.each))
          (sym same ∙ open_up (text x) (closed sign text items) rest))
      stripped (x ∷ items) rest (y ∷ z ∷ ys) each are same =
          let parts = split-same sign (text x) (text y) _ _ (free x (All-head IsItem x items each)) (free y (All-head IsItem y (z ∷ ys) are.each))
          (sym (open_up (text x) (closed sign text items) rest) ∙ same) in
          let others : AreItems IsItem (z ∷ ys) = record { some = omega arith; each = All-tail IsItem y (z ∷ ys) are.each } in
          stripped items rest (z ∷ ys) (All-tail IsItem x items each) others parts.1

      -- the first piece is the text of an item
      pub first-piece : (rest : List ℕ) → AreJoined rest → IsTextOf IsItem text (up_to sign rest)
      first-piece rest (ys, are, same) = by ys are same
        where
          by : (ys : List Item) → AreItems IsItem ys → rest ≡ joined sign text ys → IsTextOf IsItem text (up_to sign rest)
          by [] are same = absurd (omega (arith, are.some))
          by (y ∷ []) are same =
              let is = All-head IsItem y [] are.each in
              (y, is, ap (up_to sign) same ∙ up_to-whole (text y) (free y is))
          by (y ∷ z ∷ ys) are same =
              let is = All-head IsItem y (z ∷ ys) are.each in
              (y, is, ap (up_to sign) same ∙ up_to-sign (text y) _ (free y is))

      -- whole items, and then a piece that is no item: so these are no items
      pub no-items : (whole left : List ℕ) (items : List Item) → All IsItem items → whole ≡ closed sign text items ++ left →
          ¬ (IsTextOf IsItem text (up_to sign left)) → ¬ (AreJoined whole)
      no-items whole left items each read missing (ys, are, same) =
          missing (first-piece left (stripped items left ys each are (sym read ∙ same)))
