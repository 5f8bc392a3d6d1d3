-- Of several, something holds of each or there is a first of which it doesn't: that can't be false.
use Rattle.std.proofs.Common.{◌≡◌, ◌⊎◌, inl, inr, ⊎_elim, List, [], ◌∷◌, ◌++◌, refl, ap, subst}
use Rattle.fb_meaning.specs.Each.{HoldsOfEach}
use Rattle.fb_report.specs.declared.line.Line.{Line}
use Rattle.fb_valid.specs.Valid.{OfEachLine}
use Rattle.fb_valid.specs.Verdict.{IsFirstNot, IsFirstLine}

-- it can't be false
abbrev pub Surely : Type 0 → Type 0
Surely A = ¬ (¬ A)

pub surely : {A : Type 0} → A → Surely A
surely x none = none x

pub then_surely : {A B : Type 0} → Surely A → (A → Surely B) → Surely B
then_surely some next none = some (λ x. next x none)

pub either_way : (A : Type 0) → Surely (A ⊎ (¬ A))
either_way A none = none (inr (λ x. none (inl x)))

-- ---- items

abbrev pub EachOrFirst : {A : Type 0} → (A → Type 0) → List A → Type 0
EachOrFirst {A} P items = HoldsOfEach P items ⊎ ((item : A) × IsFirstNot P items item)

first_here : {A : Type 0} (P : A → Type 0) (item : A) (items : List A) → ¬ (P item) → EachOrFirst P (item ∷ items)
first_here P item items fails = inr (item, record { before = []; after = items; cut = refl; hold = tt; fails = fails })

first_later : {A : Type 0} (P : A → Type 0) (item : A) (items : List A) → P item → EachOrFirst P items → EachOrFirst P (item ∷ items)
first_later P item items holds (inl each) = inl (holds, each)
first_later P item items holds (inr found) =
    inr (
      found.0,
      record {
        before = item ∷ found.1.before;
        after = found.1.after;
        cut = ap (λ xs. item ∷ xs) found.1.cut;
        hold = (holds, found.1.hold);
        fails = found.1.fails;
      },
    )

pub each_or_first : {A : Type 0} (P : A → Type 0) (items : List A) → Surely (EachOrFirst P items)
each_or_first P [] = surely (inl tt)
each_or_first P (item ∷ items) =
    then_surely (either_way (P item))
    (λ here. ⊎_elim
    (λ holds. then_surely (each_or_first P items) (λ later. surely (first_later P item items holds later)))
    (λ fails. surely (first_here P item items fails)) here)

-- ---- lines

abbrev pub EachLineOrFirst : (List Line → Line → Type 0) → List Line → Type 0
EachLineOrFirst Keeps lines = OfEachLine Keeps lines ⊎ ((above : List Line) × (line : Line) × IsFirstLine Keeps lines above line)

pub no_line : (Keeps : List Line → Line → Type 0) → OfEachLine Keeps []
no_line Keeps [] line below is = absurd (cc)
no_line Keeps (first ∷ above) line below is = absurd (cc)

-- below a first line
push_line : (Keeps : List Line → Line → Type 0) (first : Line) (lines : List Line) → Keeps [] first → OfEachLine (λ above. Keeps (first ∷ above)) lines → OfEachLine Keeps (first ∷ lines)
push_line Keeps first lines keeps each [] line below is = subst (Keeps []) (let same : first ≡ line = cc in same) keeps
push_line Keeps first lines keeps each (other ∷ above) line below is =
    subst (λ up. Keeps (up ∷ above) line) (let same : first ≡ other = cc in same) (each above line below (let rest : lines ≡ above ++ line ∷ below = cc in rest))

line_here : (Keeps : List Line → Line → Type 0) (first : Line) (lines : List Line) → ¬ (Keeps [] first) → EachLineOrFirst Keeps (first ∷ lines)
line_here Keeps first lines broken = inr ([], first, record { below = lines; cut = refl; kept = no_line Keeps; broken = broken })

line_later : (Keeps : List Line → Line → Type 0) (first : Line) (lines : List Line) → Keeps [] first → EachLineOrFirst (λ above. Keeps (first ∷ above)) lines
    → EachLineOrFirst Keeps (first ∷ lines)
line_later Keeps first lines keeps (inl each) = inl (push_line Keeps first lines keeps each)
line_later Keeps first lines keeps (inr found) =
    inr (
      first ∷ found.0,
      found.1,
      record {
        below = found.2.below;
        cut = ap (λ ls. first ∷ ls) found.2.cut;
        kept = push_line Keeps first found.0 keeps found.2.kept;
        broken = found.2.broken;
      },
    )

pub each_line_or_first : (Keeps : List Line → Line → Type 0) (lines : List Line) → Surely (EachLineOrFirst Keeps lines)
each_line_or_first Keeps [] = surely (inl (no_line Keeps))
each_line_or_first Keeps (first ∷ lines) =
    then_surely (either_way (Keeps [] first))
    (λ here. ⊎_elim
    (λ keeps. then_surely (each_line_or_first (λ above. Keeps (first ∷ above)) lines) (λ later. surely (line_later Keeps first lines keeps later)))
    (λ broken. surely (line_here Keeps first lines broken)) here)
