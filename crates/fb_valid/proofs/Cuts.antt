-- What is the first of several is one, and bytes are read one way.
use Rattle.std.proofs.Common.{◌≡◌, ◌⊎◌, ⊎_elim, ℕ, List, [], ◌∷◌, ◌++◌, refl, sym, ap, ◌∙◌, subst}
use Rattle.std.specs.Prelude.{Result, Ok, Err}
use Rattle.fb_index.specs.Pieces.{IsFree}
use Rattle.fb_meaning.specs.Each.{HoldsOfEach}
use Rattle.fb_report.specs.declared.line.Line.{Line}
use Rattle.fb_report.specs.Lines.{line_feed}
use Rattle.fb_reading.specs.Answers.{IsAnswer}
use Rattle.fb_reading.specs.declared.key.LineError.{LineError}
use Rattle.fb_reading.specs.declared.key.LineError.TheVariants.{Memory}
use Rattle.fb_functest.specs.Reading.{BeginsWith, IsReadAs}
use Rattle.fb_valid.specs.Valid.{OfEachLine}
use Rattle.fb_valid.specs.Verdict.{IsFirstNot, IsFirstLine, ReadsTo}

-- ---- lists that are cut twice

-- one list is cut at the same item, or further on
pub data Cuts {A : Type 0} (one : List A) (x : A) (other : List A) (y : A) : Type 0 where
  same_cut : one ≡ other → x ≡ y → Cuts one x other y
  later_cut : (more : List A) → other ≡ one ++ x ∷ more → Cuts one x other y
  earlier_cut : (more : List A) → one ≡ other ++ y ∷ more → Cuts one x other y

pub cuts : {A : Type 0} (one below other behind : List A) (x y : A) → one ++ x ∷ below ≡ other ++ y ∷ behind → Cuts one x other y
cuts [] below [] behind x y is = same_cut refl (let first : x ≡ y = cc in first)
cuts [] below (z ∷ other) behind x y is = later_cut other (ap (λ w. w ∷ other) (let first : z ≡ x = cc in first))
cuts (z ∷ one) below [] behind x y is = earlier_cut one (ap (λ w. w ∷ one) (let first : z ≡ y = cc in first))
cuts (z ∷ one) below (w ∷ other) behind x y is =
    further (let first : z ≡ w = cc in first) (cuts one below other behind x y (let rest : one ++ x ∷ below ≡ other ++ y ∷ behind = cc in rest))
  where
    further : z ≡ w → Cuts one x other y → Cuts (z ∷ one) x (w ∷ other) y
    further first (same_cut lists items) = same_cut (λ i. first i ∷ lists i) items
    further first (later_cut more is) = later_cut more (λ i. sym first i ∷ is i)
    further first (earlier_cut more is) = earlier_cut more (λ i. first i ∷ is i)

holds_there : {A : Type 0} (P : A → Type 0) (before after : List A) (x : A) → HoldsOfEach P (before ++ x ∷ after) → P x
holds_there P [] after x each = each.0
holds_there P (y ∷ before) after x each = holds_there P before after x each.1

pub holds_of_first : {A : Type 0} (P : A → Type 0) (items : List A) (x : A) → HoldsOfEach P items → ¬ (IsFirstNot P items x)
holds_of_first P items x each first = first.fails (holds_there P first.before first.after x (subst (HoldsOfEach P) first.cut each))

pub one_first : {A : Type 0} (P : A → Type 0) (items : List A) (x y : A) → IsFirstNot P items x → IsFirstNot P items y → x ≡ y
one_first {A} P items x y one other = by (cuts one.before one.after other.before other.after x y (sym one.cut ∙ other.cut))
  where
    by : Cuts one.before x other.before y → x ≡ y
    by (same_cut lists same) = same
    by (later_cut more is) = absurd (one.fails (holds_there P one.before more x (subst (HoldsOfEach P) is other.hold)))
    by (earlier_cut more is) = absurd (other.fails (holds_there P other.before more y (subst (HoldsOfEach P) is one.hold)))

-- ---- lines

pub kept_line : (Keeps : List Line → Line → Type 0) (lines above : List Line) (line : Line) → OfEachLine Keeps lines → ¬ (IsFirstLine Keeps lines above line)
kept_line Keeps lines above line each first = first.broken (each above line first.below first.cut)

pub one_line : (Keeps : List Line → Line → Type 0) (lines above other : List Line) (line another : Line) → IsFirstLine Keeps lines above line → IsFirstLine Keeps lines other another
    → (above ≡ other) × (line ≡ another)
one_line Keeps lines above other line another one two = by (cuts above one.below other two.below line another (sym one.cut ∙ two.cut))
  where
    by : Cuts above line other another → (above ≡ other) × (line ≡ another)
    by (same_cut lists same) = (lists, same)
    by (later_cut more is) = absurd (one.broken (two.kept above line more is))
    by (earlier_cut more is) = absurd (two.broken (one.kept other another more is))

-- ---- bytes

pub cut_once : (sign : ℕ) (a b r s : List ℕ) → IsFree sign a → IsFree sign b → a ++ sign ∷ r ≡ b ++ sign ∷ s → (a ≡ b) × (r ≡ s)
cut_once sign [] [] r s free other same = (refl, cc)
cut_once sign [] (y ∷ b) r s free other same =
    let here : y ≡ sign = cc in
    absurd (other.0 here)
cut_once sign (x ∷ a) [] r s free other same =
    let here : x ≡ sign = cc in
    absurd (free.0 here)
cut_once sign (x ∷ a) (y ∷ b) r s free other same =
    let head : x ≡ y = cc in
    let tail : a ++ sign ∷ r ≡ b ++ sign ∷ s = cc in
    let rest = cut_once sign a b r s free.1 other.1 tail in
    ((λ i. head i ∷ rest.0 i), rest.1)

pub none_left : (sign : ℕ) (text rest : List ℕ) → ¬ ([] ≡ text ++ sign ∷ rest)
none_left sign [] rest is = absurd (cc)
none_left sign (x ∷ text) rest is = absurd (cc)

-- bytes without the sign aren't cut at it
pub not_free : (sign : ℕ) (text rest : List ℕ) → ¬ (IsFree sign (text ++ sign ∷ rest))
not_free sign [] rest free = free.0 refl
not_free sign (x ∷ text) rest free = not_free sign text rest free.1

module _ (unique : (bytes : List ℕ) (a b : Result Line LineError) → IsAnswer bytes a → IsAnswer bytes b → (a ≡ Err Memory) ⊎ (b ≡ Err Memory) ⊎ (a ≡ b)) where
  pub begins_once : (bytes next rest : List ℕ) (line other : Line) → BeginsWith line bytes next → BeginsWith other bytes rest → (line ≡ other) × (next ≡ rest)
  begins_once bytes next rest line other one two =
      let parts = cut_once line_feed one.text two.text next rest one.free two.free (sym one.cut ∙ two.cut) in (
        ⊎_elim (λ e. absurd (cc)) (⊎_elim (λ e. absurd (cc)) (λ e. cc))
            (unique one.text (Ok line) (Ok other) one.read (subst (λ text. IsAnswer text (Ok other)) (sym parts.0) two.read)),
        parts.1,
      )

  -- two ways to read the first lines: they are the same, or one goes on
  pub data Readings (lines : List Line) (rest : List ℕ) (others : List Line) (left : List ℕ) : Type 0 where
    same_lines : lines ≡ others → rest ≡ left → Readings lines rest others left
    goes_on : (line : Line) (more : List Line) (next : List ℕ) → others ≡ lines ++ line ∷ more → BeginsWith line rest next → Readings lines rest others left
    went_on : (line : Line) (more : List Line) (next : List ℕ) → lines ≡ others ++ line ∷ more → BeginsWith line left next → Readings lines rest others left

  pub readings : (bytes : List ℕ) (lines : List Line) (rest : List ℕ) (others : List Line) (left : List ℕ) → ReadsTo bytes lines rest → ReadsTo bytes others left
      → Readings lines rest others left
  readings bytes [] rest [] left one two = same_lines refl (sym one ∙ two)
  readings bytes [] rest (line ∷ others) left one two = goes_on line others two.0 refl (subst (λ bytes. BeginsWith line bytes two.0) one two.1)
  readings bytes (line ∷ lines) rest [] left one two = went_on line lines one.0 refl (subst (λ bytes. BeginsWith line bytes one.0) two one.1)
  readings bytes (line ∷ lines) rest (other ∷ others) left one two =
      let first = begins_once bytes one.0 two.0 line other one.1 two.1 in
      further first.0 (readings one.0 lines rest others left one.2 (subst (λ next. ReadsTo next others left) (sym first.1) two.2))
    where
      further : line ≡ other → Readings lines rest others left → Readings (line ∷ lines) rest (other ∷ others) left
      further same (same_lines all left_is) = same_lines (λ i. same i ∷ all i) left_is
      further same (goes_on next_line more next is begins) = goes_on next_line more next (λ i. sym same i ∷ is i) begins
      further same (went_on next_line more next is begins) = went_on next_line more next (λ i. same i ∷ is i) begins

-- all bytes are read
pub reads_all : (bytes : List ℕ) (lines : List Line) → IsReadAs bytes lines → ReadsTo bytes lines []
reads_all bytes [] read = read
reads_all bytes (line ∷ lines) read = (read.0, read.1, reads_all read.0 lines read.2)
