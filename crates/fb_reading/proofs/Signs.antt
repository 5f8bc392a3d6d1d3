-- Texts that are parted at a sign.
use Rattle.std.proofs.Common.{◌≡◌, ◌≢◌, ℕ, suc, Bor, Option, Some, None, ◌+◌, ◌<◌, Bool, true, false, cond, not, ◌==◌, List, [], ◌∷◌, ◌++◌, length, take, drop, refl, sym, ap, ◌∙◌, subst, arith}
use Rattle.std.proofs.lemmas.Bool.{eqb-true, eqb-false}
use Rattle.std.specs.Prelude.{MatchOption}
use Rattle.std.specs.List.{position_or_len, before_first, after_first}
use Rattle.fb_index.specs.Pieces.{IsFree}

pub record IsParted (sign : ℕ) (text before after : List ℕ) : Type 0 where
  pub free : IsFree sign before
  pub parts : text ≡ before ++ sign ∷ after

parted-here : (sign b : ℕ) (text : List ℕ) → b ≡ sign → IsParted sign (b ∷ text) [] text
parted-here sign b text same = record { free = tt; parts = ap (λ x. x ∷ text) same }

parted-later : (sign b : ℕ) (text before after : List ℕ) → b ≢ sign → IsParted sign text before after → IsParted sign (b ∷ text) (b ∷ before) after
parted-later sign b text before after other rest = record { free = (other, rest.free); parts = ap (λ x. b ∷ x) rest.parts }

-- where the first one is found from this byte on, by whether it is here
abbrev first_from : Bool → ℕ → List ℕ → ℕ
first_from t sign text = cond (not t) (1 + position_or_len (λ b. b == sign) text) 0

parted-by : (t : Bool) (sign b : ℕ) (text : List ℕ) → (b == sign) ≡ t → first_from t sign text < length (b ∷ text)
    → (position_or_len (λ x. x == sign) text < length text → IsParted sign text (before_first (λ x. x == sign) text) (after_first (λ x. x == sign) text))
    → IsParted sign (b ∷ text) (take (first_from t sign text) (b ∷ text)) (drop (first_from t sign text + 1) (b ∷ text))
parted-by true sign b text here within later = parted-here sign b text (eqb-true b sign here)
parted-by false sign b text other within later =
    let n = position_or_len (λ x. x == sign) text in
    let rest = parted-later sign b text _ _ (eqb-false b sign other) (later (omega arith)) in
    let front : take (1 + n) (b ∷ text) ≡ b ∷ take n text = ap (λ k. take k (b ∷ text)) (one-more n) in
    let shift : drop (1 + n + 1) (b ∷ text) ≡ drop (n + 1) text = ap (λ k. drop (k + 1) (b ∷ text)) (one-more n) ∙ ap (λ k. drop k (b ∷ text)) (shifted n) in
    rw (front, shift) rest
  where
    one-more : (n : ℕ) → 1 + n ≡ suc n
    one-more n = omega arith

    shifted : (n : ℕ) → suc n + 1 ≡ suc (n + 1)
    shifted n = omega arith

pub parted : (sign : ℕ) (text : List ℕ) → position_or_len (λ b. b == sign) text < length text → IsParted sign text (before_first (λ b. b == sign) text) (after_first (λ b. b == sign) text)
parted sign [] within = absurd (omega arith)
parted sign (b ∷ text) within = parted-by (b == sign) sign b text refl within (λ w. parted sign text w)

nowhere-by : (t : Bool) (sign b : ℕ) (text : List ℕ) → (b == sign) ≡ t → first_from t sign text ≡ length (b ∷ text) → (position_or_len (λ x. x == sign) text ≡ length text → IsFree sign text) → IsFree sign (b ∷ text)
nowhere-by true sign b text here end later = absurd (omega (arith, end))
nowhere-by false sign b text other end later = (eqb-false b sign other, later (omega (arith, end)))

pub nowhere : (sign : ℕ) (text : List ℕ) → position_or_len (λ b. b == sign) text ≡ length text → IsFree sign text
nowhere sign [] end = tt
nowhere sign (b ∷ text) end = nowhere-by (b == sign) sign b text refl end (λ e. nowhere sign text e)

-- ---- there is one first

pub parted-same : (sign : ℕ) (a b r s : List ℕ) → IsFree sign a → IsFree sign b → a ++ sign ∷ r ≡ b ++ sign ∷ s → (a ≡ b) × (r ≡ s)
parted-same sign [] [] r s free other same = (refl, cc)
parted-same sign [] (y ∷ b) r s free other same =
    let here : y ≡ sign = cc in
    absurd (other.0 here)
parted-same sign (x ∷ a) [] r s free other same =
    let here : x ≡ sign = cc in
    absurd (free.0 here)
parted-same sign (x ∷ a) (y ∷ b) r s free other same =
    let head : x ≡ y = cc in
    let tail : a ++ sign ∷ r ≡ b ++ sign ∷ s = cc in
    let rest = parted-same sign a b r s free.1 other.1 tail in
    ((λ i. head i ∷ rest.0 i), rest.1)

pub free-whole : (sign : ℕ) (a b s : List ℕ) → IsFree sign a → a ≡ b ++ sign ∷ s → ⊥
free-whole sign [] [] s free same = cc
free-whole sign [] (y ∷ b) s free same = cc
free-whole sign (x ∷ a) [] s free same =
    let here : x ≡ sign = cc in
    free.0 here
free-whole sign (x ∷ a) (y ∷ b) s free same =
    let tail : a ≡ b ++ sign ∷ s = cc in
    free-whole sign a b s free.1 tail

-- what `split_once` gives
pub halved : (sign : ℕ) (text : List ℕ) (r : Option (Bor (List ℕ) × Bor (List ℕ)))
    → MatchOption r (position_or_len (λ b. b == sign) text ≡ length text)
    (λ x. (x.0.now ≡ before_first (λ b. b == sign) text) × (x.1.now ≡ after_first (λ b. b == sign) text) × (position_or_len (λ b. b == sign) text < length text))
    → MatchOption r (IsFree sign text) (λ parts. IsFree sign parts.0.now × (text ≡ parts.0.now ++ sign ∷ parts.1.now))
halved sign text None end = nowhere sign text end
halved sign text (Some parts) cut =
    let found = parted sign text cut.2 in
    (subst (IsFree sign) (sym cut.0) found.free, found.parts ∙ (λ i. sym cut.0 i ++ sign ∷ sym cut.1 i))
