-- Texts without a sign, and such texts joined by it.
use Rattle.std.proofs.Common.{◌≡◌, ◌≢◌, ℕ, ◌<◌, Option, Some, None, List, [], ◌∷◌, ◌++◌, length, ap, sym, refl, arith}
use Rattle.std.specs.List.{All}
use Rattle.std.proofs.lemmas.List.Elements.{All-head, All-tail}
use Rattle.fb_index.specs.Automaton.{Automaton, run_from}
use Rattle.fb_index.specs.Pieces.{IsFree}
use Rattle.fb_index.proofs.Automata.{IsSilent}
use Rattle.fb_index.proofs.Lists.{joined}

pub IsFree-append : (sign : ℕ) (xs ys : List ℕ) → IsFree sign xs → IsFree sign ys → IsFree sign (xs ++ ys)
IsFree-append sign [] ys free more = more
IsFree-append sign (x ∷ xs) ys free more = (free.0, IsFree-append sign xs ys free.1 more)

-- what is taken has no byte on which no state follows
module _ {Q : Type 0} (m : Automaton Q) (sign : ℕ) (silent : IsSilent m sign) where
  clash : (q : Q) (b : ℕ) (next : Q) → b ≡ sign → m.step q b ≡ Some next → ⊥
  clash q b next same is =
      let none : m.step q b ≡ None = rw same (silent q) in
      cc

  free-onward : (o : Option Q) (q : Q) (b : ℕ) (bs : List ℕ) → m.step q b ≡ o →
      ((next : Q) → (run_from m next bs).1 ≡ [] → IsFree sign bs) → (run_from m q (b ∷ bs)).1 ≡ [] → IsFree sign (b ∷ bs)
  free-onward None q b bs is rest taken =
      let left : b ∷ bs ≡ [] = rw is at taken in
      absurd cc
  free-onward (Some next) q b bs is rest taken =
      let more : (run_from m next bs).1 ≡ [] = rw is at taken in
      (λ same. clash q b next same is, rest next more)

  pub taken-free : (q : Q) (bytes : List ℕ) → (run_from m q bytes).1 ≡ [] → IsFree sign bytes
  taken-free q [] taken = tt
  taken-free q (b ∷ bs) taken = free-onward _ q b bs refl (λ next. taken-free next bs) taken

-- ---- one place of a sign

pub split-same : (sign : ℕ) (a b r s : List ℕ) → IsFree sign a → IsFree sign b → a ++ sign ∷ r ≡ b ++ sign ∷ s → (a ≡ b) × (r ≡ s)
split-same sign [] [] r s free other same = (refl, cc)
split-same sign [] (y ∷ b) r s free other same =
    let here : y ≡ sign = cc in
    absurd (other.0 here)
split-same sign (x ∷ a) [] r s free other same =
    let here : x ≡ sign = cc in
    absurd (free.0 here)
split-same sign (x ∷ a) (y ∷ b) r s free other same =
    let head : x ≡ y = cc in
    let tail : a ++ sign ∷ r ≡ b ++ sign ∷ s = cc in
    let rest = split-same sign a b r s free.1 other.1 tail in
    ((λ i. head i ∷ rest.0 i), rest.1)

pub no-split : (sign : ℕ) (a b s : List ℕ) → IsFree sign a → a ≡ b ++ sign ∷ s → ⊥
no-split sign [] [] s free same = cc
no-split sign [] (y ∷ b) s free same = cc
no-split sign (x ∷ a) [] s free same =
    let here : x ≡ sign = cc in
    free.0 here
no-split sign (x ∷ a) (y ∷ b) s free same =
    let tail : a ≡ b ++ sign ∷ s = cc in
    no-split sign a b s free.1 tail

-- ---- lists of texts

module _ {Item : Type 0} (sign : ℕ) (text : Item → List ℕ) (IsItem : Item → Type 0)
    (free : (x : Item) → IsItem x → IsFree sign (text x)) (unique : (x y : Item) → IsItem x → IsItem y → text x ≡ text y → x ≡ y) where
  pub joined-unique : (xs ys : List Item) → 0 < length xs → 0 < length ys → All IsItem xs → All IsItem ys →
      joined sign text xs ≡ joined sign text ys → xs ≡ ys
  joined-unique [] ys some other each all same = absurd (omega arith)
  joined-unique (x ∷ xs) [] some other each all same = absurd (omega arith)
  joined-unique (x ∷ []) (y ∷ []) some other each all same =
      ap (λ z. z ∷ []) (unique x y (All-head IsItem x [] each) (All-head IsItem y [] all) same)
  joined-unique (x ∷ []) (y ∷ y' ∷ ys) some other each all same =
      absurd (no-split sign (text x) (text y) _ (free x (All-head IsItem x [] each)) same)
  joined-unique (x ∷ x' ∷ xs) (y ∷ []) some other each all same =
      absurd (no-split sign (text y) (text x) _ (free y (All-head IsItem y [] all)) (sym same))
  joined-unique (x ∷ x' ∷ xs) (y ∷ y' ∷ ys) some other each all same =
      let is_x = All-head IsItem x (x' ∷ xs) each in
      let is_y = All-head IsItem y (y' ∷ ys) all in
      let parts = split-same sign (text x) (text y) _ _ (free x is_x) (free y is_y) same in
      let head = unique x y is_x is_y parts.0 in
      let tail = joined-unique (x' ∷ xs) (y' ∷ ys) (omega arith) (omega arith) (All-tail IsItem x (x' ∷ xs) each) (All-tail IsItem y (y' ∷ ys) all) parts.1 in
      (λ i. head i ∷ tail i)

-- ---- joined texts

module _ {Item : Type 0} (other sign : ℕ) (differ : sign ≢ other) (text : Item → List ℕ) (IsItem : Item → Type 0)
    (free : (x : Item) → IsItem x → IsFree other (text x)) where
  pub joined-free : (xs : List Item) → All IsItem xs → IsFree other (joined sign text xs)
  joined-free [] each = tt
  joined-free (x ∷ []) each = free x (All-head IsItem x [] each)
  joined-free (x ∷ y ∷ xs) each =
      IsFree-append other (text x) _ (free x (All-head IsItem x (y ∷ xs) each)) (differ, joined-free (y ∷ xs) (All-tail IsItem x (y ∷ xs) each))
