-- Bytes are read one way, and what is written is read.
use Rattle.std.proofs.Common.{◌≡◌, ◌⊎◌, ⊎_elim, ℕ, List, [], ◌∷◌, ◌++◌, refl, sym, ◌∙◌, subst, append_assoc}
use Rattle.std.specs.Prelude.{Result, Ok, Err}
use Rattle.std.specs.List.{All}
use Rattle.std.proofs.lemmas.List.Concat.{flat_map-cons}
use Rattle.std.proofs.lemmas.List.Elements.{All-head, All-tail}
use Rattle.fb_index.specs.Pieces.{IsFree}
use Rattle.fb_report.specs.declared.line.Line.{Line}
use Rattle.fb_report.specs.Bytes.{line_bytes, line_text}
use Rattle.fb_report.specs.Lines.{line_feed}
use Rattle.fb_report.specs.Ranges.{IsProperLine}
use Rattle.fb_reading.specs.Answers.{IsAnswer, IsLine}
use Rattle.fb_reading.specs.declared.key.LineError.{LineError}
use Rattle.fb_reading.specs.declared.key.LineError.TheVariants.{Memory}
use Rattle.fb_functest.specs.Reading.{IsReadAs, bytes_of, BytesAreReadOneWay, WrittenLinesAreRead}

cut_once : (sign : ℕ) (a b r s : List ℕ) → IsFree sign a → IsFree sign b → a ++ sign ∷ r ≡ b ++ sign ∷ s → (a ≡ b) × (r ≡ s)
cut_once sign [] [] r s free other same = (refl, cc)
cut_once sign [] (y ∷ b) r s free other same =
    let here : y ≡ sign = cc in
    absurd (other.0 here)
cut_once sign (x ∷ a) [] r s free other same =
    let here : x ≡ sign = cc in
    absurd (free.0 here)
cut_once sign (x ∷ a) (y ∷ b) r s free other same =
    let head : x ≡ y = cc in
    let tail : a ++ sign ∷ r ≡ b ++ sign ∷ s = cc in
    let rest = cut_once sign a b r s free.1 other.1 tail in
    ((λ i. head i ∷ rest.0 i), rest.1)

none_left : (sign : ℕ) (text rest : List ℕ) → [] ≡ text ++ sign ∷ rest → ⊥
none_left sign [] rest is = absurd (cc)
none_left sign (x ∷ text) rest is = absurd (cc)

module _ (unique : (bytes : List ℕ) (a b : Result Line LineError) → IsAnswer bytes a → IsAnswer bytes b → (a ≡ Err Memory) ⊎ (b ≡ Err Memory) ⊎ (a ≡ b)) where
  one_line : (text : List ℕ) (a b : Line) → IsAnswer text (Ok a) → IsAnswer text (Ok b) → a ≡ b
  one_line text a b h k = ⊎_elim (λ e. absurd (cc)) (⊎_elim (λ e. absurd (cc)) (λ e. cc)) (unique text (Ok a) (Ok b) h k)

  pub read_one_way : BytesAreReadOneWay
  read_one_way bytes [] [] h k = refl
  read_one_way bytes [] (b ∷ others) h k = absurd (none_left line_feed k.1.text k.0 (sym h ∙ k.1.cut))
  read_one_way bytes (a ∷ lines) [] h k = absurd (none_left line_feed h.1.text h.0 (sym k ∙ h.1.cut))
  read_one_way bytes (a ∷ lines) (b ∷ others) h k =
      let parts = cut_once line_feed h.1.text k.1.text h.0 k.0 h.1.free k.1.free (sym h.1.cut ∙ k.1.cut) in
      let same = one_line h.1.text a b h.1.read (subst (λ text. IsAnswer text (Ok b)) (sym parts.0) k.1.read) in
      let rest = read_one_way h.0 lines others h.2 (subst (λ left. IsReadAs left others) (sym parts.1) k.2) in
      λ i. same i ∷ rest i

module _ (whole : (line : Line) → IsProperLine line → IsFree line_feed (line_text line)) (again : (line : Line) → IsLine line → IsAnswer (line_text line) (Ok line)) where
  pub written_are_read : WrittenLinesAreRead
  written_are_read [] each = refl
  written_are_read (line ∷ lines) each =
      let first = All-head IsLine line lines each in (
        bytes_of lines,
        record {
          text = line_text line;
          free = whole line first.0;
          cut = flat_map-cons line_bytes line lines ∙ append_assoc (line_text line) (line_feed ∷ []) (bytes_of lines);
          read = again line first;
        },
        written_are_read lines (All-tail IsLine line lines each),
      )
